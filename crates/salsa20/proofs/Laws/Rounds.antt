-- Quarterrounds, in place on a state of sixteen words.
--
-- In order:
--   quarterround_is, qround_is                 these steps are a quarterround
--   doubleround_is                             these eight, in place and in another order, are a doubleround
--   doublerounds_more                          one more doubleround
--   length-doubleround, length-doublerounds    sixteen words stay sixteen
-- Not here: the block function (Block).
-- Assumes nothing.
use mathlib.Core.Path.{◌≡◌, refl, ap, ◌∙◌}
use mathlib.Core.List.{List, [], ◌∷◌}
use Prim.Native.Nat.{ℕ, zero, suc, ◌+◌}
use native.Mathlib.Numerals.{add-one}
use lib.Bits.{bit_xor}
use lib.ListN.{length, set}
use Rattle.words.specs.Word.{plus, rotl}
use Rattle.stream.proofs.Laws.Words.{same_sixteen}
use Rattle.salsa20.specs.Salsa20.{Four, quarterround, quarter, rowround, columnround, doubleround, doublerounds}
use Rattle.salsa20.specs.State.{qround}

pub quarterround_is : (a b c d : ℕ) {s₁ z₁ s₂ z₂ s₃ z₃ s₀ z₀ : ℕ}
    → s₁ ≡ plus 32 a d → z₁ ≡ bit_xor b (rotl 32 7 s₁) → s₂ ≡ plus 32 z₁ a → z₂ ≡ bit_xor c (rotl 32 9 s₂)
    → s₃ ≡ plus 32 z₂ z₁ → z₃ ≡ bit_xor d (rotl 32 13 s₃) → s₀ ≡ plus 32 z₃ z₂ → z₀ ≡ bit_xor a (rotl 32 18 s₀)
    → ◌≡◌ {A = Four} (record { y0 = z₀; y1 = z₁; y2 = z₂; y3 = z₃ })
    (quarterround (record { y0 = a; y1 = b; y2 = c; y3 = d }))
unfolding quarterround
quarterround_is a b c d e₁ e₂ e₃ e₄ e₅ e₆ e₇ e₈ = rw (e₈, e₇, e₆, e₅, e₄, e₃, e₂, e₁)

pub qround_is : (s : List ℕ) (i j k l : ℕ) (q : Four) → q ≡ quarter s i j k l
    → set (set (set (set s i q.y0) j q.y1) k q.y2) l q.y3 ≡ qround s i j k l
unfolding qround
qround_is s i j k l q e = rw e

-- a columnround and a rowround in place, their quarterrounds in the code's order
abbrev columns : List ℕ → List ℕ
columns s = qround (qround (qround (qround s 15 3 7 11) 0 4 8 12) 10 14 2 6) 5 9 13 1

abbrev rows : List ℕ → List ℕ
rows s = qround (qround (qround (qround s 15 12 13 14) 5 6 7 4) 0 1 2 3) 10 11 8 9

-- the four quarterrounds of a round touch different words
columns_same : (a b c d e f g h i j k l m n o p : ℕ)
    → columns (a ∷ b ∷ c ∷ d ∷ e ∷ f ∷ g ∷ h ∷ i ∷ j ∷ k ∷ l ∷ m ∷ n ∷ o ∷ p ∷ [])
    ≡ columnround (a ∷ b ∷ c ∷ d ∷ e ∷ f ∷ g ∷ h ∷ i ∷ j ∷ k ∷ l ∷ m ∷ n ∷ o ∷ p ∷ [])
unfolding qround columnround
columns_same a b c d e f g h i j k l m n o p = refl

rows_same : (a b c d e f g h i j k l m n o p : ℕ)
    → rows (a ∷ b ∷ c ∷ d ∷ e ∷ f ∷ g ∷ h ∷ i ∷ j ∷ k ∷ l ∷ m ∷ n ∷ o ∷ p ∷ [])
    ≡ rowround (a ∷ b ∷ c ∷ d ∷ e ∷ f ∷ g ∷ h ∷ i ∷ j ∷ k ∷ l ∷ m ∷ n ∷ o ∷ p ∷ [])
unfolding qround rowround
rows_same a b c d e f g h i j k l m n o p = refl

length-columnround : (s : List ℕ) → length (columnround s) ≡ 16
unfolding columnround
length-columnround s = refl

length-rowround : (s : List ℕ) → length (rowround s) ≡ 16
unfolding rowround
length-rowround s = refl

pub length-doubleround : (s : List ℕ) → length (doubleround s) ≡ 16
unfolding doubleround
length-doubleround s = length-rowround (columnround s)

in_place : (s : List ℕ) → length s ≡ 16 → rows (columns s) ≡ doubleround s
unfolding doubleround
in_place s l =
    ap rows (same_sixteen columns columnround columns_same s l)
    ∙ same_sixteen rows rowround rows_same (columnround s) (length-columnround s)

pub doubleround_is : (s₀ : List ℕ) {s₁ s₂ s₃ s₄ s₅ s₆ s₇ s₈ : List ℕ} → length s₀ ≡ 16
    → s₁ ≡ qround s₀ 15 3 7 11 → s₂ ≡ qround s₁ 0 4 8 12 → s₃ ≡ qround s₂ 10 14 2 6 → s₄ ≡ qround s₃ 5 9 13 1
    → s₅ ≡ qround s₄ 15 12 13 14 → s₆ ≡ qround s₅ 5 6 7 4 → s₇ ≡ qround s₆ 0 1 2 3 → s₈ ≡ qround s₇ 10 11 8 9
    → s₈ ≡ doubleround s₀
doubleround_is s₀ l e₁ e₂ e₃ e₄ e₅ e₆ e₇ e₈ = cc (in_place s₀ l)

pub doublerounds_more : (s : List ℕ) (i : ℕ) {t u : List ℕ} → t ≡ doublerounds i s → u ≡ doubleround t
    → u ≡ doublerounds (i + 1) s
unfolding doublerounds
doublerounds_more s i e f = rw add-one (cc)

pub length-doublerounds : (n : ℕ) (s : List ℕ) → length s ≡ 16 → length (doublerounds n s) ≡ 16
unfolding doublerounds
length-doublerounds zero s e = e
length-doublerounds (suc n) s e = length-doubleround (doublerounds n s)
