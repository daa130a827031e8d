-- The blocks that the plain opener has taken are the file's first, and each step keeps that.
--
-- In order:
--   Reached, ReachedAt    what holds of a place that is reached from the first block's place o
--   reached_start         the first block's own
--   reached_more          one block more
--   reached_step          a step
--   first_data_same        equal blocks have equal ciphertexts
-- Not here: what is handed over (Progress).
-- Assumes nothing.
use mathlib.Core.Path.{◌≡◌, refl, ap₂}
use mathlib.Core.Bool.{true}
use mathlib.Core.List.{List, ◌++◌, append-nil}
use Prim.Native.Nat.{ℕ, zero, suc, ◌+◌, ◌*◌, ◌≤◌, ◌<◌}
use native.Mathlib.Omega.{arith}
use borrow.Author.Tests.{ltb-true, ltb-false}
use lib.Dec.{ltb}
use lib.ListN.{length, drop, length-append}
use Rattle.words.proofs.Laws.Cases.{by_bool}
use Rattle.block_stream.specs.Blocks.{holds, judge, data_at}
use Rattle.block_stream.specs.declared.Block.{Block}
use Rattle.block_stream.specs.declared.Block.TheVariants as block
use Rattle.opening.specs.declared.Keys.{Keys}
use Rattle.opening.specs.declared.Phase.{Phase}
use Rattle.opening.specs.declared.Phase.TheVariants.{Open, Closed, Ended}
use Rattle.opening.specs.Decryption.{Opened, refused, opened, handed}
use Rattle.opening.specs.Whole.{close_of}
use Rattle.opening.specs.Runs.{Reply, refuse}
use Rattle.opening.specs.Plain.{Plain, plain, plain_start, due, plain_close, plain_on, plain_in}
use Rattle.opening.specs.Agreement.{size_at, place, block_data, first_data, Tagged}
use Rattle.opening.proofs.Laws.Replies.{hand_both}
use Rattle.opening.proofs.Laws.Judge.{Passed, length-data_at, judge_data, judge_closing}

pub record Reached (k : Keys) (f : List ℕ) (o i p : ℕ) (t : List ℕ) : Type 0 where
  pub at_is : p ≡ place f o i
  pub inside : p ≤ length f
  pub text_is : t ≡ first_data f o i
  pub tags : Tagged k f o i
  pub fits : 36 * i + length t ≤ p

abbrev pub ReachedAt : Keys → List ℕ → ℕ → Plain → Type 0
ReachedAt k f o q = Reached k f o q.number q.at q.text

pub reached_start : (k : Keys) (f : List ℕ) (p : ℕ) → p ≤ length f → ReachedAt k f p (plain_start p)
unfolding plain_start plain place first_data
reached_start k f p l =
    record { at_is = refl; inside = l; text_is = refl; tags = λ j h. absurd (omega arith); fits = omega arith }

-- tags of one block more
tags-suc : (k : Keys) (f : List ℕ) (o i : ℕ) → Tagged k f o i
    → holds k.base f i (place f o i) (size_at f (place f o i)) ≡ true → Tagged k f o (suc i)
tags-suc k f o i h l j m =
    by_bool (ltb j i) (λ a. h j (ltb-true j i a)) (λ a. let e : j ≡ i = omega (arith, ltb-false j i a) in rw e l)

pub reached_more : (k : Keys) (f : List ℕ) (o i p : ℕ) (t : List ℕ) (n : ℕ) → Reached k f o i p t
    → Passed k.base f i p n
    → Reached k f o (suc i) (p + 36 + n) (t ++ data_at f p n)
unfolding place first_data
reached_more k f o i p t n r h =
    record {
      at_is = rw (← r.at_is, h.size_is);
      inside = h.present;
      text_is = rw (← r.at_is, h.size_is, ← r.text_is);
      tags = tags-suc k f o i r.tags (rw (← r.at_is, h.size_is) h.tag_does_hold);
      fits = rw length-append (omega (arith, r.fits, length-data_at h));
    }

reached_close : (v : Opened) (k : Keys) (f : List ℕ) (o i p : ℕ) (t : List ℕ) (n : ℕ) → Reached k f o i p t
    → Passed k.base f i p 0 → ReachedAt k f o (plain_close v k i p t n).next
unfolding plain_close plain refuse
reached_close (refused x) k f o i p t n r h = r
reached_close (opened b) k f o i p t n r h =
    let z : p + 36 + 0 ≡ p + 36 = omega arith in
    let m : Reached k f o (suc i) (p + 36) t = rw (z, append-nil t) at (reached_more k f o i p t 0 r h) in
    hand_both (λ (x : Reply Plain). ReachedAt k f o x.next) n (drop (handed k.cipher (length t)) b)
    (plain Open i p t) (plain Ended (suc i) (p + 36) t) r m

reached_on : (b : Block) (k : Keys) (f : List ℕ) (o i p : ℕ) (t : List ℕ) (n : ℕ) → judge k.base f i p ≡ b
    → Reached k f o i p t → ReachedAt k f o (plain_on b k f i p t n).next
unfolding plain_on plain refuse
reached_on (block.Refused x) k f o i p t n e r = r
reached_on (block.Data s) k f o i p t n e r =
    hand_both (λ (x : Reply Plain). ReachedAt k f o x.next) n (due k t (data_at f p s)) (plain Open i p t)
    (plain Open (suc i) (p + 36 + s) (t ++ data_at f p s)) r
    (reached_more k f o i p t s r (judge_data k.base f i p s e))
reached_on block.Closing k f o i p t n e r =
    reached_close (close_of k f p t) k f o i p t n r (judge_closing k.base f i p e)

pub reached_step : (m : Phase) (k : Keys) (f : List ℕ) (o i p : ℕ) (t : List ℕ) (n : ℕ) → Reached k f o i p t
    → ReachedAt k f o (plain_in m k f i p t n).next
unfolding plain_in plain refuse
reached_step Open k f o i p t n r = reached_on (judge k.base f i p) k f o i p t n refl r
reached_step Closed k f o i p t n r = r
reached_step Ended k f o i p t n r = r

pub first_data_same : (f g : List ℕ) (p q n : ℕ) → ((j : ℕ) → j < n → block_data f p j ≡ block_data g q j)
    → first_data f p n ≡ first_data g q n
unfolding first_data
first_data_same f g p q zero h = refl
first_data_same f g p q (suc n) h =
    ap₂ (λ (x y : List ℕ). x ++ y) (first_data_same f g p q n (λ j l. h j (omega arith))) (h n (omega arith))
