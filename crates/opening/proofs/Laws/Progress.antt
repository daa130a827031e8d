-- What the plain opener has handed over, and where the whole opener stands meanwhile: each step keeps both.
--
-- In order:
--   OpenProgress, EndProgress, Progress         the bytes handed over, and that the whole opener is at the same block
--   Turn, open_turn                             the whole opener's turn at this block
--   whole_closing, whole_refused, whole_data    what it does there
--   close_of-payload                             a closing block that opens gives the payload
--   progress_start, progress_step               the first state, and a step
--   progress_until, progress_ended              what was handed over, before the closing block and after it
-- Not here: the blocks taken (Taken); refusals (Refusals).
-- Assumes nothing.
use mathlib.Core.Path.{◌≡◌, refl, sym, ◌∙◌}
use mathlib.Core.Logic.{◌≢◌}
use mathlib.Core.List.{List, [], ◌++◌, append-nil}
use Prim.Native.Nat.{ℕ, zero, suc, ◌+◌, ◌≤◌, ◌<◌}
use native.Mathlib.Omega.{arith}
use lib.Dec.{ltb}
use lib.ListN.{length, drop}
use Rattle.refusals.specs.declared.Refusal.{Refusal}
use Rattle.refusals.specs.declared.Refusal.TheVariants.{TrailingBytes}
use Rattle.block_stream.specs.Blocks.{judge, data_at}
use Rattle.block_stream.specs.declared.Block.{Block}
use Rattle.block_stream.specs.declared.Block.TheVariants as block
use Rattle.opening.specs.declared.Keys.{Keys}
use Rattle.opening.specs.declared.Phase.{Phase}
use Rattle.opening.specs.declared.Phase.TheVariants.{Open, Closed, Ended}
use Rattle.opening.specs.Decryption.{Opened, refused, opened, handed, given, payload}
use Rattle.opening.specs.Whole.{close_of, walk_in, walk, whole}
use Rattle.opening.specs.Runs.{Reply, refuse}
use Rattle.opening.specs.Plain.{Plain, plain, plain_start, plain_close, plain_on, plain_in}
use Rattle.opening.proofs.Laws.Replies.{never, cond-opened, hand_both}
use Rattle.opening.proofs.Laws.Given.{given_nil, given_due, payload_remainder}

-- open: the bytes handed over are those due, and the whole opener, behind the same blocks, may go on for `left` blocks.
-- o is the place of the first block
pub record OpenProgress (k : Keys) (f : List ℕ) (o : ℕ) (b : List ℕ) (i p : ℕ) (t : List ℕ) : Type 0 where
  pub bytes_are : b ≡ given k t
  pub left : ℕ
  pub enough : length f < left + p
  pub walks : walk left k f i p t ≡ whole k f o

pub record EndProgress (k : Keys) (f : List ℕ) (o : ℕ) (b t : List ℕ) : Type 0 where
  pub payload_is : payload k t ≡ opened b
  pub whole_is : whole k f o ≡ opened b

abbrev pub Progress : Phase → Keys → List ℕ → ℕ → List ℕ → ℕ → ℕ → List ℕ → Type 0
Progress Open k f o b i p t = OpenProgress k f o b i p t
Progress Closed k f o b i p t = b ≡ given k t
Progress Ended k f o b i p t = EndProgress k f o b t

abbrev pub ProgressAt : Keys → List ℕ → ℕ → List ℕ → Plain → Type 0
ProgressAt k f o b q = Progress q.phase k f o b q.number q.at q.text

pub record Turn (k : Keys) (f : List ℕ) (o i p : ℕ) (t : List ℕ) : Type 0 where
  pub left : ℕ
  pub enough : length f < suc left + p
  pub turns : walk_in (judge k.base f i p) (λ (n : ℕ). walk left k f (suc i) (p + 36 + n) (t ++ data_at f p n))
      (close_of k f p t)
      ≡ whole k f o

turn_at : (n : ℕ) (k : Keys) (f : List ℕ) (o i p : ℕ) (t : List ℕ) → p ≤ length f → length f < n + p
    → walk n k f i p t ≡ whole k f o → Turn k f o i p t
unfolding walk
turn_at zero k f o i p t l h w = absurd (omega arith)
turn_at (suc n) k f o i p t l h w = record { left = n; enough = h; turns = w }

pub open_turn : (k : Keys) (f : List ℕ) (o : ℕ) (b : List ℕ) (i p : ℕ) (t : List ℕ) → p ≤ length f
    → OpenProgress k f o b i p t → Turn k f o i p t
open_turn k f o b i p t l y = turn_at y.left k f o i p t l y.enough y.walks

pub whole_closing : (k : Keys) (f : List ℕ) (o i p : ℕ) (t : List ℕ) → Turn k f o i p t
    → judge k.base f i p ≡ block.Closing → close_of k f p t ≡ whole k f o
unfolding walk_in
whole_closing k f o i p t u e = rw e at u.turns

pub whole_refused : (k : Keys) (f : List ℕ) (o i p : ℕ) (t : List ℕ) (r : Refusal) → Turn k f o i p t
    → judge k.base f i p ≡ block.Refused r → whole k f o ≡ refused r
unfolding walk_in
whole_refused k f o i p t r u e = sym (rw e at u.turns)

whole_data : (k : Keys) (f : List ℕ) (o i p : ℕ) (t : List ℕ) (n : ℕ) (u : Turn k f o i p t)
    → judge k.base f i p ≡ block.Data n
    → walk u.left k f (suc i) (p + 36 + n) (t ++ data_at f p n) ≡ whole k f o
unfolding walk_in
whole_data k f o i p t n u e = rw e at u.turns

pub close_of-payload : (k : Keys) (f : List ℕ) (p : ℕ) (t b : List ℕ) → close_of k f p t ≡ opened b
    → payload k t ≡ opened b
unfolding close_of
close_of-payload k f p t b h = (cond-opened (ltb (p + 36) (length f)) TrailingBytes (payload k t) b h).rest

pub progress_start : (k : Keys) (f : List ℕ) (p : ℕ) → ProgressAt k f p [] (plain_start p)
unfolding plain_start plain whole
progress_start k f p = record { bytes_are = given_nil k; left = suc (length f); enough = omega arith; walks = refl }

progress_same : (k : Keys) (f : List ℕ) (o : ℕ) (b : List ℕ) (i p : ℕ) (t : List ℕ) → OpenProgress k f o b i p t
    → OpenProgress k f o (b ++ []) i p t
progress_same k f o b i p t y = rw append-nil y

progress_close : (v : Opened) (k : Keys) → length k.nonce ≡ 16
    → (f : List ℕ) (o : ℕ) (b : List ℕ) (i p : ℕ) (t : List ℕ)
    (n : ℕ) → close_of k f p t ≡ v → close_of k f p t ≡ whole k f o → OpenProgress k f o b i p t
    → ProgressAt k f o (b ++ (plain_close v k i p t n).answer.bytes) (plain_close v k i p t n).next
unfolding plain_close plain refuse given
progress_close (refused r) k w f o b i p t n e h y = rw append-nil y.bytes_are
progress_close (opened c) k w f o b i p t n e h y =
    let r = payload_remainder k.cipher k w t c (close_of-payload k f p t c e) in
    let j : b ++ drop (handed k.cipher (length t)) c ≡ c = rw y.bytes_are r.joins in
    hand_both (λ (x : Reply Plain). ProgressAt k f o (b ++ x.answer.bytes) x.next) n
    (drop (handed k.cipher (length t)) c) (plain Open i p t) (plain Ended (suc i) (p + 36) t)
    (progress_same k f o b i p t y)
    (record { payload_is = rw j (close_of-payload k f p t c e); whole_is = rw j (sym h ∙ e) })

progress_on : (x : Block) (k : Keys) → length k.nonce ≡ 16
    → (f : List ℕ) (o : ℕ) (b : List ℕ) (i p : ℕ) (t : List ℕ) (n : ℕ)
    → judge k.base f i p ≡ x → p ≤ length f → OpenProgress k f o b i p t
    → ProgressAt k f o (b ++ (plain_on x k f i p t n).answer.bytes) (plain_on x k f i p t n).next
unfolding plain_on plain refuse
progress_on (block.Refused r) k w f o b i p t n e l y = rw append-nil y.bytes_are
progress_on (block.Data s) k w f o b i p t n e l y =
    let u = open_turn k f o b i p t l y in
    hand_both (λ (x : Reply Plain). ProgressAt k f o (b ++ x.answer.bytes) x.next) n
    _ (plain Open i p t) (plain Open (suc i) (p + 36 + s) (t ++ data_at f p s))
    (progress_same k f o b i p t y)
    (record {
      bytes_are = rw y.bytes_are (given_due k w t (data_at f p s));
      left = u.left;
      enough = omega (arith, u.enough);
      walks = whole_data k f o i p t s u e;
    })
progress_on block.Closing k w f o b i p t n e l y =
    progress_close (close_of k f p t) k w f o b i p t n refl
    (whole_closing k f o i p t (open_turn k f o b i p t l y) e) y

pub progress_step : (m : Phase) (k : Keys) → length k.nonce ≡ 16
    → (f : List ℕ) (o : ℕ) (b : List ℕ) (i p : ℕ) (t : List ℕ)
    (n : ℕ) → p ≤ length f → Progress m k f o b i p t
    → ProgressAt k f o (b ++ (plain_in m k f i p t n).answer.bytes) (plain_in m k f i p t n).next
unfolding plain_in plain refuse
progress_step Open k w f o b i p t n l y = progress_on (judge k.base f i p) k w f o b i p t n refl l y
progress_step Closed k w f o b i p t n l y = rw append-nil y
progress_step Ended k w f o b i p t n l y = rw append-nil y

pub progress_until : (m : Phase) (k : Keys) (f : List ℕ) (o : ℕ) (b : List ℕ) (i p : ℕ) (t : List ℕ)
    → Progress m k f o b i p t → m ≢ Ended → b ≡ given k t
progress_until Open k f o b i p t y e = y.bytes_are
progress_until Closed k f o b i p t y e = y
progress_until Ended k f o b i p t y e = absurd (e refl)

pub progress_ended : (m : Phase) (k : Keys) (f : List ℕ) (o : ℕ) (b : List ℕ) (i p : ℕ) (t : List ℕ)
    → Progress m k f o b i p t → m ≡ Ended → EndProgress k f o b t
progress_ended Open k f o b i p t y e = never (cc)
progress_ended Closed k f o b i p t y e = never (cc)
progress_ended Ended k f o b i p t y e = y
