-- The calls of a block-by-block opening do on its bytes what they do on its state.
--
-- In order:
--   of_refusal_19, of_written_17, of_written_19    17 and 19 are told by their numbers
--   typed-blank, typed-open_start                 the states of a start
--   typed-keys_of, start-typed                    of a vault's start, whatever T and the file
--   typed-taking                                 the state behind a data block
--   typed_step                                   a step leaves a state within its types
--   kept_step                                    17 and 19 leave the state, so that its bytes are the next one's
--   opener_faithful                              the claim
-- Assumes nothing.
use mathlib.Core.Path.{◌≡◌, refl, sym, ap}
use mathlib.Core.Bool.{Bool, true, false}
use mathlib.Core.List.{List}
use Prim.Native.Nat.{ℕ, ◌+◌, ◌*◌, ◌^◌, ◌≤◌, ◌<◌}
use native.Mathlib.Omega.{arith}
use borrow.Author.Tests.{leb-true, eqb-true}
use lib.Dec.{eqb, leb}
use lib.ListN.{length, length-drop}
use Rattle.words.specs.Endian.{Bytes}
use Rattle.words.proofs.Laws.Cases.{by_bool, and_true}
use Rattle.refusals.specs.declared.Refusal.{Refusal}
use Rattle.refusals.specs.declared.Refusal.TheVariants.{
  TooLong,
  CutShort,
  WrongSignature,
  WrongVersion,
  WrongSize,
  Repeated,
  UnknownField,
  Absent,
  Unlisted,
  BrokenDictionary,
  TooManyRounds,
  HeaderHash,
  HeaderTag,
  BlockTag,
  TrailingBytes,
  WrongPadding,
  NoRoom,
  WrongCredential,
  OutOfSequence,
  TooFewRounds,
  FigureOutside,
}
use Rattle.refusals.specs.Numbers.{Written}
use Rattle.refusals.specs.Limits.{file_limit}
use Rattle.refusals.specs.Numbers.{of_refusal, number_of}
use Rattle.refusals.proofs.Laws.Limits.{file_size}
use Rattle.refusals.proofs.Laws.Numbers.{of_refusal_17}
use Rattle.fips180.specs.Fips180 as fips180
use Rattle.fips180.specs.Fips180.Constants.{iv512}
use Rattle.fips180.proofs.Laws.Lengths.{length-iv256, length-hash}
use Rattle.keys.specs.Kdbx4Keys.{cipher_key, tag_base}
use Rattle.cbc.proofs.Laws.Mode.{previous_size}
use Rattle.ciphers.specs.declared.Cipher.{Cipher}
use Rattle.ciphers.specs.declared.Cipher.TheVariants.{Aes256, ChaCha20}
use Rattle.fields.specs.Fields.{bytes_at}
use Rattle.outer_header.specs.Kdbx4Header.{header}
use Rattle.outer_header.specs.declared.Header.{Header}
use Rattle.std.specs.Prelude.{Ok, Err}
use Rattle.outer_header.proofs.Laws.Accepted.{header_stands}
use Rattle.block_stream.specs.Blocks.{judge, data_at}
use Rattle.block_stream.specs.declared.Block.{Block}
use Rattle.block_stream.specs.declared.Block.TheVariants as block
use Rattle.opening.specs.declared.Keys.{Keys}
use Rattle.opening.specs.declared.Phase.{Phase}
use Rattle.opening.specs.declared.Phase.TheVariants.{Open, Closed, Ended}
use Rattle.opening.specs.declared.Opener.{Opener}
use Rattle.opening.specs.Decryption.{Opened, refused, opened}
use Rattle.opening.specs.Runs.{Reply, refuse}
use Rattle.opening.specs.Steps.{
  opener,
  no_keys,
  blank,
  first_prev,
  open_start,
  padded,
  sound,
  mark_of,
  joined,
  rest_of,
  due_of,
  bytes_by,
  prev_by,
  held_by,
  close_by,
  taking,
  step_on,
  step_in,
  step_of,
}
use Rattle.opening.proofs.Laws.Judge.{judge_data, length-data_at}
use Rattle.opening.proofs.Laws.Replies.{never, hand_both}
use Rattle.opening.proofs.Laws.Kept.{step_of_kept}
use Rattle.opening.proofs.Laws.Nonce.{length-padded}
use Rattle.vault_keys.specs.VaultKeys.{keys_for, keys_with}
use Rattle.vault.specs.Vault.{Begun, start_refused, begun, keys_of, start, state_of}
use Rattle.vault.proofs.Laws.Start.{nonce_le, start-begun}
use Rattle.states.specs.OpenerState as bytes
use Rattle.states.proofs.RoundTrip.{opener_round_trip}
use Rattle.calls.specs.Lists.{Faithful}
use Rattle.calls.specs.Calls.{kept_or, opener_calls}
use Rattle.calls.proofs.Laws.Below.{below_zeros, below_hash}
use Rattle.calls.proofs.Laws.Schedule.{length-key_expansion, below_key_expansion}

-- 19 has no place, so that its number is enough
of_refusal_19 : (r : Refusal) → of_refusal r ≡ 19 → r ≡ OutOfSequence
of_refusal_19 TooLong e = absurd (omega arith)
of_refusal_19 (CutShort at) e = absurd (omega arith)
of_refusal_19 (WrongSignature at) e = absurd (omega arith)
of_refusal_19 (WrongVersion at) e = absurd (omega arith)
of_refusal_19 (WrongSize at) e = absurd (omega arith)
of_refusal_19 (Repeated at) e = absurd (omega arith)
of_refusal_19 (UnknownField at) e = absurd (omega arith)
of_refusal_19 (Absent at) e = absurd (omega arith)
of_refusal_19 (Unlisted at) e = absurd (omega arith)
of_refusal_19 (BrokenDictionary at) e = absurd (omega arith)
of_refusal_19 (TooManyRounds at) e = absurd (omega arith)
of_refusal_19 HeaderHash e = absurd (omega arith)
of_refusal_19 HeaderTag e = absurd (omega arith)
of_refusal_19 BlockTag e = absurd (omega arith)
of_refusal_19 TrailingBytes e = absurd (omega arith)
of_refusal_19 WrongPadding e = absurd (omega arith)
of_refusal_19 NoRoom e = absurd (omega arith)
of_refusal_19 WrongCredential e = absurd (omega arith)
of_refusal_19 OutOfSequence e = refl
of_refusal_19 (TooFewRounds at) e = absurd (omega arith)
of_refusal_19 (FigureOutside at) e = absurd (omega arith)

of_written_17 : (w : Written) → number_of w ≡ 17 → w ≡ Err NoRoom
of_written_17 (Ok n) e = absurd (omega arith)
of_written_17 (Err r) e = ap (λ (x : Refusal). Err x) (of_refusal_17 r e)

of_written_19 : (w : Written) → number_of w ≡ 19 → w ≡ Err OutOfSequence
of_written_19 (Ok n) e = absurd (omega arith)
of_written_19 (Err r) e = ap (λ (x : Refusal). Err x) (of_refusal_19 r e)

-- a closed or ended state
typed-no_keys : bytes.TypedKeys no_keys
unfolding no_keys
typed-no_keys =
    record {
      long_key = refl;
      long_round_keys = refl;
      words_round_keys = below_zeros (2 ^ 32) 60 (omega arith);
      long_nonce = refl;
      long_base = refl;
    }

pub typed-blank : (m : Phase) → bytes.Typed (blank m)
unfolding blank opener
typed-blank m =
    record {
      lt_number = omega arith;
      lt_at = omega arith;
      lt_taken = omega arith;
      long_prev = refl;
      long_held = refl;
      typed_keys = typed-no_keys;
    }

-- an accepted start's state
length-first_prev : (c : Cipher) (v : List ℕ) → length v ≡ 16 → length (first_prev c v) ≡ 16
unfolding first_prev
length-first_prev Aes256 v h = h
length-first_prev ChaCha20 v h = refl

typed-open_start : (k : Keys) (p : ℕ) → bytes.TypedKeys k → p < 2 ^ 64 → bytes.Typed (open_start k p)
unfolding open_start opener
typed-open_start k p h l =
    record {
      lt_number = omega arith;
      lt_at = l;
      lt_taken = omega arith;
      long_prev = length-first_prev k.cipher k.nonce h.long_nonce;
      long_held = refl;
      typed_keys = h;
    }

-- a vault's keys
typed-keys_for : (c : Cipher) (key nonce base : List ℕ) → length key ≡ 32 → Bytes key → length nonce ≡ 16
    → length base ≡ 64 → bytes.TypedKeys (keys_for c key nonce base)
unfolding keys_for
typed-keys_for Aes256 key nonce base l b n m =
    record {
      long_key = refl;
      long_round_keys = length-key_expansion key;
      words_round_keys = below_key_expansion key b;
      long_nonce = n;
      long_base = m;
    }
typed-keys_for ChaCha20 key nonce base l b n m =
    record {
      long_key = l;
      long_round_keys = refl;
      words_round_keys = below_zeros (2 ^ 32) 60 (omega arith);
      long_nonce = n;
      long_base = m;
    }

typed-keys_with : (c : Cipher) (seed nonce t : List ℕ) → length nonce ≡ 16 → bytes.TypedKeys (keys_with c seed nonce t)
unfolding keys_with cipher_key tag_base iv512
typed-keys_with c seed nonce t n =
    typed-keys_for c (cipher_key seed t) nonce (tag_base seed t) (length-hash fips180.sha256 _ length-iv256)
    (below_hash fips180.sha256 _) n (length-hash fips180.sha512 _ refl)

typed-keys_of : (t f : List ℕ) (h : Header) → header f ≡ Ok h → bytes.TypedKeys (keys_of t f h)
unfolding keys_of
typed-keys_of t f h e =
    typed-keys_with h.cipher (bytes_at f h.seed) (padded (bytes_at f h.nonce)) t
    (length-padded (bytes_at f h.nonce) (nonce_le f h e))

-- whatever T and the file
start_typed_as : (t f : List ℕ) (b : Begun) → start t f ≡ b → bytes.Typed (state_of b)
unfolding state_of
start_typed_as t f (start_refused r) e = typed-blank Closed
start_typed_as t f (begun k p) e =
    let s = start-begun t f k p e in
    let l = (header_stands f s.said s.reads).file_le in
    let i = s.inside in
    let h : bytes.TypedKeys k = rw s.keys_are (typed-keys_of t f s.said s.reads) in
    typed-open_start k p h (omega (arith, file_size))

pub start-typed : (t f : List ℕ) → bytes.Typed (state_of (start t f))
start-typed t f = start_typed_as t f (start t f) refl

-- the pieces behind a block
length-prev_by : (z : Cipher) (c : ℕ) (v h d : List ℕ) → length v ≡ 16 → length (prev_by z c v h d) ≡ 16
unfolding prev_by
length-prev_by Aes256 c v h d l = previous_size v (due_of (joined c h d)) l
length-prev_by ChaCha20 c v h d l = refl

rest_le : (j : List ℕ) → length (rest_of j) ≤ 16
rest_le j = simp length-drop (omega arith)

length-held_by : (z : Cipher) (c : ℕ) (h d : List ℕ) → length (held_by z c h d) ≡ 16
unfolding held_by
length-held_by Aes256 c h d = length-padded (rest_of (joined c h d)) (rest_le (joined c h d))
length-held_by ChaCha20 c h d = refl

-- what a sound state says
record Fits (i p c : ℕ) : Type 0 where
  at_le : p ≤ file_limit
  taken_le : 36 * i + c ≤ p

sound-fits : (i p c : ℕ) → sound i p c ≡ true → Fits i p c
unfolding sound
sound-fits i p c e =
    let a = and_true (leb p file_limit) _ e in
    let b = and_true (leb (36 * i + c) p) _ a.1 in
    record { at_le = leb-true p file_limit a.0; taken_le = leb-true (36 * i + c) p b.0 }

-- a block of a file over its limit is refused
judge-file : (base f : List ℕ) (i p n : ℕ) → judge base f i p ≡ block.Data n → length f ≤ file_limit
unfolding judge
judge-file base f i p n e =
    by_bool (leb (length f) file_limit) (leb-true (length f) file_limit) (λ t. let d = rw t at e in never (cc d))

typed-taking : (o : Opener) (f : List ℕ) (s : ℕ) → bytes.Typed o → Fits o.number o.at o.taken
    → judge o.keys.base f o.number o.at ≡ block.Data s
    → bytes.Typed (taking o (data_at f o.at s))
unfolding taking opener
typed-taking o f s t h e =
    let d : List ℕ = data_at f o.at s in
    let x = judge_data o.keys.base f o.number o.at s e in
    let l = judge-file o.keys.base f o.number o.at s e in
    let m : length d ≡ s = length-data_at x in
    let w = x.present in
    let a = h.at_le in
    let b = h.taken_le in
    record {
      lt_number = omega (arith, file_size);
      lt_at = omega (arith, file_size);
      lt_taken = omega (arith, file_size);
      long_prev = length-prev_by o.keys.cipher o.taken o.prev o.held d t.long_prev;
      long_held = length-held_by o.keys.cipher o.taken o.held d;
      typed_keys = t.typed_keys;
    }

typed_close : (v : Opened) (o : Opener) (n : ℕ) → bytes.Typed o → bytes.Typed (close_by v o n).next
unfolding close_by refuse
typed_close (refused r) o n t = typed-blank Closed
typed_close (opened b) o n t =
    hand_both (λ (x : Reply Opener). bytes.Typed x.next) n b o (blank Ended) t (typed-blank Ended)

typed_on : (b : Block) (f : List ℕ) (o : Opener) (n : ℕ) → bytes.Typed o → Fits o.number o.at o.taken
    → judge o.keys.base f o.number o.at ≡ b → bytes.Typed (step_on b f o n).next
unfolding step_on refuse
typed_on (block.Refused r) f o n t h e = typed-blank Closed
typed_on (block.Data s) f o n t h e =
    hand_both (λ (x : Reply Opener). bytes.Typed x.next) n
    (bytes_by o.keys.cipher o.keys o.taken o.prev o.held (data_at f o.at s)) o
    (taking o (data_at f o.at s)) t (typed-taking o f s t h e)
typed_on block.Closing f o n t h e = typed_close _ o n t

typed_in : (m : Phase) (f : List ℕ) (o : Opener) (n : ℕ) → bytes.Typed o
    → (m ≡ Open → Fits o.number o.at o.taken) → bytes.Typed (step_in m f o n).next
unfolding step_in refuse
typed_in Open f o n t h = typed_on (judge o.keys.base f o.number o.at) f o n t (h refl) refl
typed_in Closed f o n t h = t
typed_in Ended f o n t h = t

-- a mark that stays open is sound
open_sound : (b : Bool) (m : Phase) → mark_of b m ≡ Open → b ≡ true
unfolding mark_of
open_sound true m e = refl
open_sound false Open e = never (cc)
open_sound false Closed e = never (cc)
open_sound false Ended e = never (cc)

typed_step : (f : List ℕ) (o : Opener) (n : ℕ) → bytes.Typed o → bytes.Typed (step_of f o n).next
unfolding step_of
typed_step f o n t =
    let b : Bool = sound o.number o.at o.taken in
    typed_in (mark_of b o.phase) f o n t
    (λ e. sound-fits o.number o.at o.taken (open_sound b o.phase e))

-- an answer's number, and what it leaves
kept_step : (f : List ℕ) (o : Opener) (n : ℕ)
    → kept_or (number_of (step_of f o n).answer.written) (bytes.packed (step_of f o n).next) (bytes.packed o)
    ≡ bytes.packed (step_of f o n).next
kept_step f o n =
    let w : Written = (step_of f o n).answer.written in
    let k = step_of_kept f o n in
    by_bool (eqb (number_of w) 17)
    (λ a. rw a (sym (ap bytes.packed (k.no_room (of_written_17 w (eqb-true (number_of w) 17 a))))))
    (λ a.
    by_bool (eqb (number_of w) 19)
    (λ b. rw (a, b) (sym (ap bytes.packed (k.no_step (of_written_19 w (eqb-true (number_of w) 19 b))))))
    (λ b. rw (a, b)))

pub opener_faithful : (f : List ℕ) → Faithful (opener_calls f) bytes.Typed
opener_faithful f =
    record {
      round_trip = opener_round_trip;
      stays = λ o n t. typed_step f o n t;
      keeps = λ o n. kept_step f o n;
    }
