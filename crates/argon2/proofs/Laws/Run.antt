-- What a run answers and leaves.
--
-- In order:
--   kib_le, figures_fit, lane_le, blocks-le       accepted figures fit a filling, whose words can be counted
--   used_is                                       those words
--   outcome_outside, outcome_long, outcome_short, outcome-accepted    the answers, in the order of the tests
--   left_is, shown_is                             the used part lent, cleared and given back; the tag
--   transformed_is                                a vault's answer
-- Assumes nothing.
use Rattle.std.specs.Prelude.{Ok, Err}
use mathlib.Core.Path.{◌≡◌, refl, sym, ap, ap₂, ◌∙◌}
use mathlib.Core.Bool.{true, false}
use mathlib.Core.List.{List, ◌++◌}
use Prim.Native.Nat.{ℕ, ◌+◌, ◌*◌, ◌/◌, ◌≤◌, ◌<◌}
use native.Mathlib.Nat.{le-div_iff_mul-le, div-le_of_le-mul, mul-div-le}
use native.Mathlib.Omega.{arith}
use lib.Dec.{leb}
use lib.ListN.{length, take, drop, replicate, length-replicate}
use lib.Seq.{length-take-le}
use borrow.Author.Tests.{lt-ltb, le-ltb}
use Rattle.slices.specs.Over.{over}
use Rattle.refusals.specs.declared.Refusal.TheVariants.{TooLong, NoRoom, FigureOutside}
use Rattle.refusals.specs.Numbers.{Outcome}
use Rattle.refusals.specs.Limits.{message_limit, argon2_fits}
use Rattle.refusals.proofs.Laws.Limits.{argon2_fits_bounds}
use Rattle.argon2_fill.specs.State.{Fits}
use Rattle.argon2.specs.Rfc9106.{Inputs, h0, figures, tag_of, tag}
use Rattle.argon2.specs.Run.{used, outcome, left, shown, transformed}
use Rattle.argon2.specs.declared.Transformed.{Transformed}
use Rattle.argon2.proofs.Laws.Prehash.{inputs_length, length-prehash}

-- m is M in KiB
module _ (salt passes bytes lanes m : ℕ) (t : argon2_fits salt passes bytes lanes ≡ true) (e : m ≡ bytes / 1024) where
  pub kib_le : m ≤ 65536
  kib_le = let h = (argon2_fits_bounds salt passes bytes lanes t).memory_most in omega arith

  pub figures_fit : (n kind : ℕ)
      → Fits (record { lanes = lanes; segment = m / (4 * lanes); passes = n; kind = kind })
  figures_fit n kind =
      let b = argon2_fits_bounds salt passes bytes lanes t in
      let some = b.lanes_least in
      let least = b.memory_least in
      let most = b.memory_most in
      let q : 0 < 4 * lanes = omega arith in
      record {
        some = some;
        few = b.lanes_most;
        long = (le-div_iff_mul-le q).1 (omega arith);
        short = div-le_of_le-mul (4 * lanes) (omega arith);
      }

  pub lane_le : 4 * (m / (4 * lanes)) ≤ 65536
  lane_le = let h = (figures_fit 0 0).short in omega arith

-- the blocks are no more than M has
pub blocks-le : (lanes m : ℕ) → lanes * (4 * (m / (4 * lanes))) ≤ m
blocks-le lanes m = let h = mul-div-le m (4 * lanes) in omega arith

-- the words that are used, from M in KiB
pub used_is : (i : Inputs) (m : ℕ) → m ≡ i.memory → i.lanes * (4 * (m / (4 * i.lanes))) * 128 ≡ used i
used_is i m e = ap (λ (k : ℕ). i.lanes * (4 * (k / (4 * i.lanes))) * 128) e

module _ (i : Inputs) (bytes lent : ℕ) where
  pub outcome_outside : argon2_fits (length i.salt) i.passes bytes i.lanes ≡ false
      → Err (FigureOutside 0) ≡ outcome i bytes lent
  unfolding outcome
  outcome_outside a = rw a

  module _ (a : argon2_fits (length i.salt) i.passes bytes i.lanes ≡ true) where
    pub outcome_long : leb (40 + inputs_length i) message_limit ≡ false → Err TooLong ≡ outcome i bytes lent
    unfolding outcome
    outcome_long b = rw (a, length-prehash i, b)

    module _ (b : leb (40 + inputs_length i) message_limit ≡ true) (n : ℕ) (e : n ≡ used i) where
      pub outcome_short : lent < n → Err NoRoom ≡ outcome i bytes lent
      unfolding outcome
      outcome_short h = rw (a, length-prehash i, b, ← e, lt-ltb lent n h)

      pub outcome-accepted : n ≤ lent → (Ok tt) ≡ outcome i bytes lent
      unfolding outcome
      outcome-accepted h = rw (a, length-prehash i, b, ← e, le-ltb lent n h)

-- the used part, lent, cleared and given back
pub left_is : (i : Inputs) (m ys : List ℕ) (n : ℕ) → n ≡ used i → n ≤ length m → ys ≡ replicate (length (take n m)) 0
    → ys ++ drop n m ≡ left (Ok tt) i m
unfolding left over
left_is i m ys n u h e =
    let zs : List ℕ = replicate n 0 in
    let k : length zs ≡ n = length-replicate {A = ℕ} n 0 in
    let g : ys ≡ zs = e ∙ ap (λ (j : ℕ). replicate j 0) (length-take-le n m h) in
    ap (λ (y : List ℕ). y ++ drop n m) g ∙ ap (λ (j : ℕ). zs ++ drop j m) (sym k)
    ∙ ap (λ (j : ℕ). over (replicate j 0) m) u

-- inputs of a type and a memory
abbrev pub typed : Inputs → ℕ → ℕ → Inputs
typed i y m =
    record {
      kind = y;
      lanes = i.lanes;
      tag_length = i.tag_length;
      memory = m;
      passes = i.passes;
      password = i.password;
      salt = i.salt;
      secret = i.secret;
      associated = i.associated;
    }

pub shown_is : (i : Inputs) (y m : ℕ) (h o d : List ℕ) → y ≡ i.kind → m ≡ i.memory → h ≡ h0 (typed i y m)
    → o ≡ tag_of (figures (typed i y m)) h i.tag_length → o ≡ shown (Ok tt) i d
unfolding shown tag
shown_is i y m h o d e g eh eo =
    eo ∙ ap (λ (x : List ℕ). tag_of (figures (typed i y m)) x i.tag_length) eh
    ∙ ap₂ (λ (z k : ℕ). tag (typed i z k)) e g

abbrev answer : Outcome → List ℕ → Transformed
answer o k = record { outcome = o; key = k }

answer_own : (o : Outcome) (i : Inputs) → answer o (shown o i (replicate 32 0)) ≡ transformed o i
unfolding shown transformed
answer_own (Ok tt) i = refl
answer_own (Err r) i = refl

pub transformed_is : (i : Inputs) (r o : Outcome) (k : List ℕ) → r ≡ o → k ≡ shown r i (replicate 32 0)
    → answer r k ≡ transformed o i
transformed_is i r o k e g =
    ap₂ answer e (g ∙ ap (λ (x : Outcome). shown x i (replicate 32 0)) e) ∙ answer_own o i
