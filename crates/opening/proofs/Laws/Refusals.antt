-- What a step's refusal says: of the whole opener, of the next state, and of the room.
--
-- In order:
--   refusal_step                        a refusal that closes is the whole opener's
--   stripped-refused, close_of-refused   the refusals of a closing block close
--   closed_step                         a step that closes gives a refusal that closes
--   stays_step                          closed and ended stay
--   moves_step                          a step with room that stays open goes on in the file
--   keeps_step                          no step goes back in the file
--   room_step                           fifteen bytes more than the block's size are room enough
--   short_step                          no step hands over more than that
-- Not here: what is handed over (Progress).
-- Assumes nothing.
use Rattle.std.specs.Prelude.{Err}
use mathlib.Core.Path.{◌≡◌, refl, sym, ◌∙◌}
use mathlib.Core.Logic.{◌≢◌}
use mathlib.Core.Option.{Option, none, some}
use mathlib.Core.List.{List, ◌++◌}
use Prim.Native.Nat.{ℕ, suc, ◌+◌, ◌%◌, ◌≤◌, ◌<◌}
use native.Mathlib.Omega.{arith}
use lib.Dec.{ltb, eqb}
use lib.ListN.{length, drop}
use Rattle.words.proofs.Laws.Cases.{by_bool}
use Rattle.refusals.specs.declared.Refusal.{Refusal}
use Rattle.refusals.specs.declared.Refusal.TheVariants.{NoRoom}
use Rattle.refusals.specs.Numbers.{Written, count_of}
use Rattle.pkcs7.specs.Pkcs7.{strip}
use Rattle.ciphers.specs.declared.Cipher.{Cipher}
use Rattle.ciphers.specs.declared.Cipher.TheVariants.{Aes256, ChaCha20}
use Rattle.block_stream.specs.Blocks.{judge, data_at}
use Rattle.block_stream.specs.declared.Block.{Block}
use Rattle.block_stream.specs.declared.Block.TheVariants as block
use Rattle.opening.specs.declared.Keys.{Keys}
use Rattle.opening.specs.declared.Phase.{Phase}
use Rattle.opening.specs.declared.Phase.TheVariants.{Open, Closed, Ended}
use Rattle.opening.specs.Decryption.{Opened, refused, opened, decryption_by, handed, stripped, payload_by}
use Rattle.opening.specs.Whole.{close_of, whole}
use Rattle.opening.specs.Runs.{Answer, Reply, refuse, hand}
use Rattle.opening.specs.Plain.{Plain, plain, due, plain_close, plain_on, plain_in}
use Rattle.opening.specs.Agreement.{Closing, size_at}
use Rattle.opening.proofs.Laws.Replies.{never, hand_both, hand_room}
use Rattle.opening.proofs.Laws.Judge.{
  closing_is,
  closing_trailing_bytes,
  closing_wrong_padding,
  length-data_at,
  judge_data,
  judge-refused,
}
use Rattle.opening.proofs.Laws.Given.{length-due-le, payload_remainder}
use Rattle.opening.proofs.Laws.Progress.{
  OpenProgress,
  Progress,
  open_turn,
  whole_closing,
  whole_refused,
  close_of-payload,
}

-- a refusal in the answer that closes is the whole opener's
abbrev pub WholeRefuses : Keys → List ℕ → ℕ → Answer → Type 0
WholeRefuses k f o a = (r : Refusal) → a.written ≡ Err r → Closing r → whole k f o ≡ refused r

refusal_hand : (k : Keys) (f : List ℕ) (o n : ℕ) (b : List ℕ) (q x : Plain) → WholeRefuses k f o (hand n b q x).answer
unfolding refuse
refusal_hand k f o n b q x =
    hand_both (λ (y : Reply Plain). WholeRefuses k f o y.answer) n b q x
    (λ r e c. let s : NoRoom ≡ r = cc e in absurd (c.no_room (sym s)))
    (λ r e c. never (cc e))

refusal_close : (v : Opened) (k : Keys) (f : List ℕ) (o i p : ℕ) (t : List ℕ) (n : ℕ) → close_of k f p t ≡ v
    → close_of k f p t ≡ whole k f o → WholeRefuses k f o (plain_close v k i p t n).answer
unfolding plain_close refuse
refusal_close (refused s) k f o i p t n e w = λ r g c. let h : s ≡ r = cc g in sym w ∙ e ∙ rw h
refusal_close (opened b) k f o i p t n e w =
    refusal_hand k f o n (drop (handed k.cipher (length t)) b) (plain Open i p t) (plain Ended (suc i) (p + 36) t)

refusal_on : (x : Block) (k : Keys) (f : List ℕ) (o : ℕ) (b : List ℕ) (i p : ℕ) (t : List ℕ) (n : ℕ)
    → judge k.base f i p ≡ x → p ≤ length f → OpenProgress k f o b i p t
    → WholeRefuses k f o (plain_on x k f i p t n).answer
unfolding plain_on refuse
refusal_on (block.Refused s) k f o b i p t n e l y =
    λ r g c. let h : s ≡ r = cc g in whole_refused k f o i p t s (open_turn k f o b i p t l y) e ∙ rw h
refusal_on (block.Data s) k f o b i p t n e l y =
    refusal_hand k f o n (due k t (data_at f p s)) (plain Open i p t)
    (plain Open (suc i) (p + 36 + s) (t ++ data_at f p s))
refusal_on block.Closing k f o b i p t n e l y =
    refusal_close (close_of k f p t) k f o i p t n refl (whole_closing k f o i p t (open_turn k f o b i p t l y) e)

pub refusal_step : (m : Phase) (k : Keys) (f : List ℕ) (o : ℕ) (b : List ℕ) (i p : ℕ) (t : List ℕ) (n : ℕ)
    → p ≤ length f → Progress m k f o b i p t → WholeRefuses k f o (plain_in m k f i p t n).answer
unfolding plain_in refuse
refusal_step Open k f o b i p t n l y = refusal_on (judge k.base f i p) k f o b i p t n refl l y
refusal_step Closed k f o b i p t n l y = λ r e c. absurd (c.no_step (sym (cc e)))
refusal_step Ended k f o b i p t n l y = λ r e c. absurd (c.no_step (sym (cc e)))

pub stripped-refused : (x : Option (List ℕ)) (r : Refusal) → stripped x ≡ refused r → Closing r
unfolding stripped
stripped-refused none r h = closing_is (cc) closing_wrong_padding
stripped-refused (some b) r h = never (cc)

payload-refused : (z : Cipher) (k : Keys) (t : List ℕ) (r : Refusal) → payload_by z k t ≡ refused r → Closing r
unfolding payload_by
payload-refused Aes256 k t r h =
    by_bool (eqb (length t) 0) (λ a. let e = rw a at h in closing_is (cc e) closing_wrong_padding)
    (λ a.
    by_bool (eqb (length t % 16) 0)
    (λ b. stripped-refused (strip (decryption_by Aes256 k t)) r (rw (a, b) at h))
    (λ b. let e = rw (a, b) at h in closing_is (cc e) closing_wrong_padding))
payload-refused ChaCha20 k t r h = never (cc)

pub close_of-refused : (k : Keys) (f : List ℕ) (p : ℕ) (t : List ℕ) (r : Refusal) → close_of k f p t ≡ refused r
    → Closing r
unfolding close_of
close_of-refused k f p t r h =
    by_bool (ltb (p + 36) (length f)) (λ a. let e = rw a at h in closing_is (cc e) closing_trailing_bytes)
    (λ a. payload-refused k.cipher k t r (rw a at h))

-- an answer that is a refusal which closes
pub record ClosingAnswer (a : Answer) : Type 0 where
  pub refusal : Refusal
  pub written_is : a.written ≡ Err refusal
  pub closing : Closing refusal

abbrev ClosesBy : Reply Plain → Type 0
ClosesBy x = x.next.phase ≡ Closed → ClosingAnswer x.answer

closed_close : (v : Opened) (k : Keys) (f : List ℕ) (i p : ℕ) (t : List ℕ) (n : ℕ) → close_of k f p t ≡ v
    → ClosesBy (plain_close v k i p t n)
unfolding plain_close plain refuse
closed_close (refused r) k f i p t n e =
    λ c. record { refusal = r; written_is = refl; closing = close_of-refused k f p t r e }
closed_close (opened b) k f i p t n e =
    hand_both ClosesBy n (drop (handed k.cipher (length t)) b) (plain Open i p t) (plain Ended (suc i) (p + 36) t)
    (λ c. never (cc)) (λ c. never (cc))

closed_on : (x : Block) (k : Keys) (f : List ℕ) (i p : ℕ) (t : List ℕ) (n : ℕ) → judge k.base f i p ≡ x
    → ClosesBy (plain_on x k f i p t n)
unfolding plain_on plain refuse
closed_on (block.Refused r) k f i p t n e =
    λ c. record { refusal = r; written_is = refl; closing = judge-refused k.base f i p r e }
closed_on (block.Data s) k f i p t n e =
    hand_both ClosesBy n (due k t (data_at f p s)) (plain Open i p t)
    (plain Open (suc i) (p + 36 + s) (t ++ data_at f p s)) (λ c. never (cc)) (λ c. never (cc))
closed_on block.Closing k f i p t n e = closed_close (close_of k f p t) k f i p t n refl

pub closed_step : (m : Phase) (k : Keys) (f : List ℕ) (i p : ℕ) (t : List ℕ) (n : ℕ) → m ≡ Open
    → ClosesBy (plain_in m k f i p t n)
unfolding plain_in
closed_step Open k f i p t n e = closed_on (judge k.base f i p) k f i p t n refl
closed_step Closed k f i p t n e = never (cc)
closed_step Ended k f i p t n e = never (cc)

pub stays_step : (m : Phase) (k : Keys) (f : List ℕ) (i p : ℕ) (t : List ℕ) (n : ℕ) → m ≢ Open
    → (plain_in m k f i p t n).next.phase ≡ m
unfolding plain_in plain refuse
stays_step Open k f i p t n e = absurd (e refl)
stays_step Closed k f i p t n e = refl
stays_step Ended k f i p t n e = refl

-- from the place p on
abbrev Moves : ℕ → Reply Plain → Type 0
Moves p x = x.answer.written ≢ Err NoRoom → x.next.phase ≡ Open → p < x.next.at

moves_close : (v : Opened) (k : Keys) (i p : ℕ) (t : List ℕ) (n : ℕ) → Moves p (plain_close v k i p t n)
unfolding plain_close plain refuse
moves_close (refused r) k i p t n = λ a c. never (cc)
moves_close (opened b) k i p t n =
    hand_both (Moves p) n (drop (handed k.cipher (length t)) b) (plain Open i p t) (plain Ended (suc i) (p + 36) t)
    (λ a c. absurd (a refl)) (λ a c. never (cc))

moves_on : (x : Block) (k : Keys) (f : List ℕ) (i p : ℕ) (t : List ℕ) (n : ℕ) → Moves p (plain_on x k f i p t n)
unfolding plain_on plain refuse
moves_on (block.Refused r) k f i p t n = λ a c. never (cc)
moves_on (block.Data s) k f i p t n =
    hand_both (Moves p) n (due k t (data_at f p s)) (plain Open i p t)
    (plain Open (suc i) (p + 36 + s) (t ++ data_at f p s)) (λ a c. absurd (a refl)) (λ a c. omega arith)
moves_on block.Closing k f i p t n = moves_close (close_of k f p t) k i p t n

pub moves_step : (m : Phase) (k : Keys) (f : List ℕ) (i p : ℕ) (t : List ℕ) (n : ℕ) → Moves p (plain_in m k f i p t n)
unfolding plain_in plain refuse
moves_step Open k f i p t n = moves_on (judge k.base f i p) k f i p t n
moves_step Closed k f i p t n = λ a c. never (cc)
moves_step Ended k f i p t n = λ a c. never (cc)

-- no step goes back
abbrev Keeps : ℕ → Reply Plain → Type 0
Keeps p x = p ≤ x.next.at

keeps_close : (v : Opened) (k : Keys) (i p : ℕ) (t : List ℕ) (n : ℕ) → Keeps p (plain_close v k i p t n)
unfolding plain_close plain refuse
keeps_close (refused r) k i p t n = omega arith
keeps_close (opened b) k i p t n =
    hand_both (Keeps p) n (drop (handed k.cipher (length t)) b) (plain Open i p t) (plain Ended (suc i) (p + 36) t)
    (omega arith) (omega arith)

keeps_on : (x : Block) (k : Keys) (f : List ℕ) (i p : ℕ) (t : List ℕ) (n : ℕ) → Keeps p (plain_on x k f i p t n)
unfolding plain_on plain refuse
keeps_on (block.Refused r) k f i p t n = omega arith
keeps_on (block.Data s) k f i p t n =
    hand_both (Keeps p) n (due k t (data_at f p s)) (plain Open i p t)
    (plain Open (suc i) (p + 36 + s) (t ++ data_at f p s)) (omega arith) (omega arith)
keeps_on block.Closing k f i p t n = keeps_close (close_of k f p t) k i p t n

pub keeps_step : (m : Phase) (k : Keys) (f : List ℕ) (i p : ℕ) (t : List ℕ) (n : ℕ) → Keeps p (plain_in m k f i p t n)
unfolding plain_in plain refuse
keeps_step Open k f i p t n = keeps_on (judge k.base f i p) k f i p t n
keeps_step Closed k f i p t n = omega arith
keeps_step Ended k f i p t n = omega arith

-- a refusal that closes is not 17
room_refused : (r : Refusal) → Closing r → ◌≢◌ {A = Written} (Err r) (Err NoRoom)
room_refused r c = λ e. c.no_room (cc e)

room_close : (v : Opened) (k : Keys) → length k.nonce ≡ 16 → (f : List ℕ) (i p : ℕ) (t : List ℕ) (n : ℕ)
    → close_of k f p t ≡ v → 15 ≤ n → (plain_close v k i p t n).answer.written ≢ Err NoRoom
unfolding plain_close refuse
room_close (refused r) k w f i p t n e l = room_refused r (close_of-refused k f p t r e)
room_close (opened b) k w f i p t n e l =
    let r = payload_remainder k.cipher k w t b (close_of-payload k f p t b e) in
    hand_room n (drop (handed k.cipher (length t)) b) (plain Open i p t) (plain Ended (suc i) (p + 36) t)
    (omega (arith, r.short))

room_on : (x : Block) (k : Keys) → length k.nonce ≡ 16 → (f : List ℕ) (i p : ℕ) (t : List ℕ) (n : ℕ)
    → judge k.base f i p ≡ x → size_at f p + 15 ≤ n → (plain_on x k f i p t n).answer.written ≢ Err NoRoom
unfolding plain_on refuse
room_on (block.Refused r) k w f i p t n e l = room_refused r (judge-refused k.base f i p r e)
room_on (block.Data s) k w f i p t n e l =
    let h = judge_data k.base f i p s e in
    hand_room n (due k t (data_at f p s)) (plain Open i p t) (plain Open (suc i) (p + 36 + s) (t ++ data_at f p s))
    (omega (arith, length-due-le k t (data_at f p s), length-data_at h, h.size_is))
room_on block.Closing k w f i p t n e l = room_close (close_of k f p t) k w f i p t n refl (omega arith)

pub room_step : (m : Phase) (k : Keys) → length k.nonce ≡ 16 → (f : List ℕ) (i p : ℕ) (t : List ℕ) (n : ℕ)
    → size_at f p + 15 ≤ n → (plain_in m k f i p t n).answer.written ≢ Err NoRoom
unfolding plain_in refuse
room_step Open k w f i p t n l = room_on (judge k.base f i p) k w f i p t n refl l
room_step Closed k w f i p t n l = λ e. never (cc e)
room_step Ended k w f i p t n l = λ e. never (cc e)

-- at most m bytes
abbrev Short : ℕ → Reply Plain → Type 0
Short m x = count_of x.answer.written ≤ m

short_close : (v : Opened) (k : Keys) → length k.nonce ≡ 16 → (f : List ℕ) (i p : ℕ) (t : List ℕ) (n m : ℕ)
    → close_of k f p t ≡ v → 15 ≤ m → Short m (plain_close v k i p t n)
unfolding plain_close refuse
short_close (refused r) k w f i p t n m e l = omega arith
short_close (opened b) k w f i p t n m e l =
    let r = payload_remainder k.cipher k w t b (close_of-payload k f p t b e) in
    hand_both (Short m) n (drop (handed k.cipher (length t)) b) (plain Open i p t) (plain Ended (suc i) (p + 36) t)
    (omega arith) (omega (arith, r.short))

short_on : (x : Block) (k : Keys) → length k.nonce ≡ 16 → (f : List ℕ) (i p : ℕ) (t : List ℕ) (n : ℕ)
    → judge k.base f i p ≡ x → Short (size_at f p + 15) (plain_on x k f i p t n)
unfolding plain_on refuse
short_on (block.Refused r) k w f i p t n e = omega arith
short_on (block.Data s) k w f i p t n e =
    let h = judge_data k.base f i p s e in
    hand_both (Short (size_at f p + 15)) n (due k t (data_at f p s)) (plain Open i p t)
    (plain Open (suc i) (p + 36 + s) (t ++ data_at f p s)) (omega arith)
    (omega (arith, length-due-le k t (data_at f p s), length-data_at h, h.size_is))
short_on block.Closing k w f i p t n e =
    short_close (close_of k f p t) k w f i p t n (size_at f p + 15) refl (omega arith)

pub short_step : (m : Phase) (k : Keys) → length k.nonce ≡ 16 → (f : List ℕ) (i p : ℕ) (t : List ℕ) (n : ℕ)
    → Short (size_at f p + 15) (plain_in m k f i p t n)
unfolding plain_in refuse
short_step Open k w f i p t n = short_on (judge k.base f i p) k w f i p t n refl
short_step Closed k w f i p t n = omega arith
short_step Ended k w f i p t n = omega arith
