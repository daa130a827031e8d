-- One step of the code, from any state at all: what each answer leaves.
--
--   "A state handed back with .. 17 or 19 is as it was"                         no_room, no_step
--   "Any other refusal closes an opener's state"                                closes
--   "An opener's closed or ended state is zero but for its mark"                closes (an ended state: Standing)
--   "A refusal returns its number with zero in every other answer"              nothing
-- In order:
--   Kept                                  the claim
--   kept_refuse, kept_closed, kept_hand   refusals and hand-overs
--   last_by-refused                        the refusals of what the closing block adds
--   step_of_kept                           a step
--   step_of-closed                         a closed or ended state gives 19
-- Not here: lists of steps (Runs).
-- Assumes nothing.
use Rattle.std.specs.Prelude.{Err}
use mathlib.Core.Path.{◌≡◌, refl, sym}
use mathlib.Core.Logic.{◌≢◌}
use mathlib.Core.Bool.{Bool, cond}
use mathlib.Core.List.{List, []}
use Prim.Native.Nat.{ℕ, ◌+◌, ◌%◌}
use lib.Dec.{ltb, eqb}
use lib.ListN.{length}
use Rattle.words.proofs.Laws.Cases.{by_bool}
use Rattle.refusals.specs.declared.Refusal.{Refusal}
use Rattle.refusals.specs.declared.Refusal.TheVariants.{TrailingBytes, NoRoom, OutOfSequence}
use Rattle.refusals.specs.Numbers.{count_of}
use Rattle.pkcs7.specs.Pkcs7.{strip}
use Rattle.ciphers.specs.declared.Cipher.{Cipher}
use Rattle.ciphers.specs.declared.Cipher.TheVariants.{Aes256, ChaCha20}
use Rattle.block_stream.specs.Blocks.{judge, data_at}
use Rattle.block_stream.specs.declared.Block.{Block}
use Rattle.block_stream.specs.declared.Block.TheVariants as block
use Rattle.opening.specs.declared.Keys.{Keys}
use Rattle.opening.specs.declared.Phase.{Phase}
use Rattle.opening.specs.declared.Phase.TheVariants.{Open, Closed, Ended}
use Rattle.opening.specs.declared.Opener.{Opener}
use Rattle.opening.specs.Decryption.{Opened, refused, opened, aes_from}
use Rattle.opening.specs.Runs.{Reply, refuse, hand}
use Rattle.opening.specs.Steps.{blank, sound, mark_of, bytes_by, last_by, close_by, taking, step_on, step_in, step_of}
use Rattle.opening.specs.Agreement.{Closing}
use Rattle.opening.proofs.Laws.Replies.{never, hand_both}
use Rattle.opening.proofs.Laws.Judge.{closing_is, closing_trailing_bytes, closing_wrong_padding, judge-refused}
use Rattle.opening.proofs.Laws.Refusals.{stripped-refused}

pub record Kept (o : Opener) (x : Reply Opener) : Type 0 where
  pub no_room : x.answer.written ≡ Err NoRoom → x.next ≡ o
  pub no_step : x.answer.written ≡ Err OutOfSequence → x.next ≡ o
  pub closes : (r : Refusal) → x.answer.written ≡ Err r → Closing r → x.next ≡ blank Closed
  pub nothing : (r : Refusal) → x.answer.written ≡ Err r → x.answer.bytes ≡ []
  pub counted : count_of x.answer.written ≡ length x.answer.bytes

kept_refuse : (o : Opener) → Kept o (refuse OutOfSequence o)
unfolding refuse
kept_refuse o =
    record {
      no_room = λ e. refl;
      no_step = λ e. refl;
      closes = λ r e c. absurd (c.no_step (sym (cc e)));
      nothing = λ r e. refl;
      counted = refl;
    }

kept_closed : (o : Opener) (r : Refusal) → Closing r → Kept o (refuse r (blank Closed))
unfolding refuse
kept_closed o r c =
    record {
      no_room = λ e. absurd (c.no_room (cc e));
      no_step = λ e. absurd (c.no_step (cc e));
      closes = λ s e d. refl;
      nothing = λ s e. refl;
      counted = refl;
    }

kept_hand : (o y : Opener) (n : ℕ) (b : List ℕ) → Kept o (hand n b o y)
unfolding refuse
kept_hand o y n b =
    hand_both (Kept o) n b o y
    (record {
      no_room = λ e. refl;
      no_step = λ e. refl;
      closes = λ r e c. absurd (c.no_room (sym (cc e)));
      nothing = λ r e. refl;
      counted = refl;
    })
    (record {
      no_room = λ e. never (cc e);
      no_step = λ e. never (cc e);
      closes = λ r e c. never (cc e);
      nothing = λ r e. never (cc e);
      counted = refl;
    })

last_by-refused : (z : Cipher) (k : Keys) (c : ℕ) (v h : List ℕ) (r : Refusal) → last_by z k c v h ≡ refused r → Closing r
unfolding last_by
last_by-refused Aes256 k c v h r g =
    by_bool (eqb c 0) (λ a. let e = rw a at g in closing_is (cc e) closing_wrong_padding)
    (λ a.
    by_bool (eqb (c % 16) 0)
    (λ b. stripped-refused (strip (aes_from k v h)) r (rw (a, b) at g))
    (λ b. let e = rw (a, b) at g in closing_is (cc e) closing_wrong_padding))
last_by-refused ChaCha20 k c v h r g = never (cc)

-- bytes behind the closing block, then what it adds
closing_refused : (b : Bool) (v : Opened) → ((r : Refusal) → v ≡ refused r → Closing r) → (r : Refusal)
    → cond b (refused TrailingBytes) v ≡ refused r → Closing r
closing_refused b v h r g =
    by_bool b (λ a. let e = rw a at g in closing_is (cc e) closing_trailing_bytes) (λ a. h r (rw a at g))

kept_close : (v : Opened) (o : Opener) (n : ℕ) → ((r : Refusal) → v ≡ refused r → Closing r) → Kept o (close_by v o n)
unfolding close_by
kept_close (refused r) o n h = kept_closed o r (h r refl)
kept_close (opened b) o n h = kept_hand o (blank Ended) n b

kept_on : (b : Block) (f : List ℕ) (o : Opener) (n : ℕ) → judge o.keys.base f o.number o.at ≡ b
    → Kept o (step_on b f o n)
unfolding step_on
kept_on (block.Refused r) f o n e = kept_closed o r (judge-refused o.keys.base f o.number o.at r e)
kept_on (block.Data s) f o n e =
    kept_hand o (taking o (data_at f o.at s)) n
    (bytes_by o.keys.cipher o.keys o.taken o.prev o.held (data_at f o.at s))
kept_on block.Closing f o n e =
    kept_close _ o n
    (closing_refused (ltb (o.at + 36) (length f)) _
    (last_by-refused o.keys.cipher o.keys o.taken o.prev o.held))

kept_in : (m : Phase) (f : List ℕ) (o : Opener) (n : ℕ) → Kept o (step_in m f o n)
unfolding step_in
kept_in Open f o n = kept_on (judge o.keys.base f o.number o.at) f o n refl
kept_in Closed f o n = kept_refuse o
kept_in Ended f o n = kept_refuse o

pub step_of_kept : (f : List ℕ) (o : Opener) (n : ℕ) → Kept o (step_of f o n)
unfolding step_of
step_of_kept f o n = kept_in (mark_of (sound o.number o.at o.taken) o.phase) f o n

-- "later steps give 19": of a state of any contents that is marked so
step_in-closed : (m : Phase) (b : Bool) (f : List ℕ) (o : Opener) (n : ℕ) → m ≢ Open
    → step_in (mark_of b m) f o n ≡ refuse OutOfSequence o
unfolding mark_of step_in
step_in-closed Open b f o n h = absurd (h refl)
step_in-closed Closed b f o n h = refl
step_in-closed Ended b f o n h = refl

pub step_of-closed : (f : List ℕ) (o : Opener) (n : ℕ) → o.phase ≢ Open → step_of f o n ≡ refuse OutOfSequence o
unfolding step_of
step_of-closed f o n h = step_in-closed o.phase (sound o.number o.at o.taken) f o n h
