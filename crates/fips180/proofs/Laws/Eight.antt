-- The intermediate hash value, a list of eight words, by its elements.
--
-- In order: eight, eight_is, sums_are (6.2.2 and 6.4.2, step 4).
-- Assumes nothing.
use mathlib.Core.Path.{◌≡◌, ap}
use mathlib.Core.List.{List, [], ◌∷◌}
use Prim.Native.Nat.{ℕ, ◌≤◌}
use native.Mathlib.Omega.{arith}
use lib.ListN.{length, get_or, drop_of_length-le}
use lib.Seq.{drop-cons}
use Rattle.words.specs.Word.{plus}
use Rattle.fips180.specs.Fips180.{sums}

abbrev pub eight : List ℕ → List ℕ
eight s = get_or s 0 0 ∷ get_or s 1 0 ∷ get_or s 2 0 ∷ get_or s 3 0 ∷ get_or s 4 0 ∷ get_or s 5 0 ∷ get_or s 6 0 ∷ get_or s 7 0 ∷ []

pub eight_is : (s : List ℕ) → length s ≡ 8 → eight s ≡ s
eight_is s h =
    let e : length s ≤ 8 = omega arith in
    cc (
      drop-cons s 0 0 (omega arith),
      drop-cons s 1 0 (omega arith),
      drop-cons s 2 0 (omega arith),
      drop-cons s 3 0
          (omega arith),
      drop-cons s 4 0 (omega arith),
      drop-cons s 5 0 (omega arith),
      drop-cons s 6 0 (omega arith),
      drop-cons s 7 0 (omega arith),
      drop_of_length-le s e,
    )

pub sums_are : (n : ℕ) (s : List ℕ) {x₀ x₁ x₂ x₃ x₄ x₅ x₆ x₇ : ℕ} (t₀ t₁ t₂ t₃ t₄ t₅ t₆ t₇ : ℕ) → length s ≡ 8
    → x₀ ≡ plus n (get_or s 0 0) t₀ → x₁ ≡ plus n (get_or s 1 0) t₁ → x₂ ≡ plus n (get_or s 2 0) t₂ → x₃
    ≡ plus n (get_or s 3 0) t₃
    → x₄ ≡ plus n (get_or s 4 0) t₄ → x₅ ≡ plus n (get_or s 5 0) t₅ → x₆ ≡ plus n (get_or s 6 0) t₆ → x₇
    ≡ plus n (get_or s 7 0) t₇
    → x₀ ∷ x₁ ∷ x₂ ∷ x₃ ∷ x₄ ∷ x₅ ∷ x₆ ∷ x₇ ∷ [] ≡ sums n s (t₀ ∷ t₁ ∷ t₂ ∷ t₃ ∷ t₄ ∷ t₅ ∷ t₆ ∷ t₇ ∷ [])
unfolding sums
sums_are n s t₀ t₁ t₂ t₃ t₄ t₅ t₆ t₇ h e₀ e₁ e₂ e₃ e₄ e₅ e₆ e₇ =
    rw (e₀, e₁, e₂, e₃, e₄, e₅, e₆, e₇)
    (ap (λ (l : List ℕ). sums n l (t₀ ∷ t₁ ∷ t₂ ∷ t₃ ∷ t₄ ∷ t₅ ∷ t₆ ∷ t₇ ∷ [])) (eight_is s h))
