-- Quarter rounds, in place on a state of sixteen words.
--
-- In order:
--   quarter_round_is, qround_is                these steps are a quarter round
--   inner_block_is                             these eight are an inner block: the four of a round in another order
--   inner_blocks_more                          one more inner block
--   length-inner_block, length-inner_blocks    sixteen words stay sixteen
-- Not here: the block function (Block).
-- Assumes nothing.
use mathlib.Core.Path.{◌≡◌, refl, ap, ◌∙◌}
use mathlib.Core.List.{List, [], ◌∷◌}
use Prim.Native.Nat.{ℕ, zero, suc, ◌+◌}
use native.Mathlib.Numerals.{add-one}
use lib.Bits.{bit_xor}
use lib.ListN.{length, get_or, set, length-set}
use Rattle.words.specs.Word.{plus, rotl}
use Rattle.stream.proofs.Laws.Words.{same_sixteen}
use Rattle.chacha20.specs.Rfc8439.{Four, half, quarter_round, qround, inner_block, inner_blocks}

half_is : (m n : ℕ) (s : Four) {a b c d : ℕ} → a ≡ plus 32 s.a s.b → d ≡ rotl 32 m (bit_xor s.d a)
    → c ≡ plus 32 s.c d → b ≡ rotl 32 n (bit_xor s.b c)
    → ◌≡◌ {A = Four} (record { a = a; b = b; c = c; d = d }) (half m n s)
unfolding half
half_is m n s ea ed ec eb = rw (eb, ec, ed, ea)

pub quarter_round_is : (a b c d : ℕ) {a₁ b₁ c₁ d₁ a₂ b₂ c₂ d₂ : ℕ}
    → a₁ ≡ plus 32 a b → d₁ ≡ rotl 32 16 (bit_xor d a₁) → c₁ ≡ plus 32 c d₁ → b₁ ≡ rotl 32 12 (bit_xor b c₁)
    → a₂ ≡ plus 32 a₁ b₁ → d₂ ≡ rotl 32 8 (bit_xor d₁ a₂) → c₂ ≡ plus 32 c₁ d₂ → b₂ ≡ rotl 32 7 (bit_xor b₁ c₂)
    → ◌≡◌ {A = Four} (record { a = a₂; b = b₂; c = c₂; d = d₂ }) (quarter_round (record { a = a; b = b; c = c; d = d }))
unfolding quarter_round
quarter_round_is a b c d {a₁} {b₁} {c₁} {d₁} e₁ e₂ e₃ e₄ e₅ e₆ e₇ e₈ =
    half_is 8 7 (record { a = a₁; b = b₁; c = c₁; d = d₁ }) e₅ e₆ e₇ e₈
    ∙ ap (half 8 7) (half_is 16 12 (record { a = a; b = b; c = c; d = d }) e₁ e₂ e₃ e₄)

pub qround_is : (s : List ℕ) (x y z w : ℕ) (q : Four)
    → q ≡ quarter_round (record { a = get_or s x 0; b = get_or s y 0; c = get_or s z 0; d = get_or s w 0 })
    → set (set (set (set s x q.a) y q.b) z q.c) w q.d ≡ qround s x y z w
unfolding qround
qround_is s x y z w q e = rw e

-- an inner block, its quarter rounds in the code's order
abbrev reordered : List ℕ → List ℕ
reordered s₀ =
    let s₁ : List ℕ = qround s₀ 0 4 8 12 in
    let s₂ : List ℕ = qround s₁ 3 7 11 15 in
    let s₃ : List ℕ = qround s₂ 1 5 9 13 in
    let s₄ : List ℕ = qround s₃ 2 6 10 14 in
    let s₅ : List ℕ = qround s₄ 3 4 9 14 in
    let s₆ : List ℕ = qround s₅ 0 5 10 15 in
    let s₇ : List ℕ = qround s₆ 1 6 11 12 in
    qround s₇ 2 7 8 13

-- the four quarter rounds of a round touch different words
reordered_same : (a b c d e f g h i j k l m n o p : ℕ)
    → reordered (a ∷ b ∷ c ∷ d ∷ e ∷ f ∷ g ∷ h ∷ i ∷ j ∷ k ∷ l ∷ m ∷ n ∷ o ∷ p ∷ [])
    ≡ inner_block (a ∷ b ∷ c ∷ d ∷ e ∷ f ∷ g ∷ h ∷ i ∷ j ∷ k ∷ l ∷ m ∷ n ∷ o ∷ p ∷ [])
unfolding qround inner_block
reordered_same a b c d e f g h i j k l m n o p = refl

reordered_is : (s : List ℕ) → length s ≡ 16 → reordered s ≡ inner_block s
reordered_is s e = same_sixteen reordered inner_block reordered_same s e

pub inner_block_is : (s₀ : List ℕ) {s₁ s₂ s₃ s₄ s₅ s₆ s₇ s₈ : List ℕ} → length s₀ ≡ 16
    → s₁ ≡ qround s₀ 0 4 8 12 → s₂ ≡ qround s₁ 3 7 11 15 → s₃ ≡ qround s₂ 1 5 9 13 → s₄ ≡ qround s₃ 2 6 10 14
    → s₅ ≡ qround s₄ 3 4 9 14 → s₆ ≡ qround s₅ 0 5 10 15 → s₇ ≡ qround s₆ 1 6 11 12 → s₈ ≡ qround s₇ 2 7 8 13
    → s₈ ≡ inner_block s₀
inner_block_is s₀ l e₁ e₂ e₃ e₄ e₅ e₆ e₇ e₈ = cc (reordered_is s₀ l)

pub inner_blocks_more : (s : List ℕ) (i : ℕ) {t u : List ℕ} → t ≡ inner_blocks i s → u ≡ inner_block t
    → u ≡ inner_blocks (i + 1) s
unfolding inner_blocks
inner_blocks_more s i e f = rw add-one (cc)

length-qround : (s : List ℕ) (x y z w : ℕ) → length (qround s x y z w) ≡ length s
unfolding qround
length-qround s x y z w = simp length-set

pub length-inner_block : (s : List ℕ) → length (inner_block s) ≡ length s
unfolding inner_block
length-inner_block s = simp length-qround

pub length-inner_blocks : (n : ℕ) (s : List ℕ) → length (inner_blocks n s) ≡ length s
unfolding inner_blocks
length-inner_blocks zero s = refl
length-inner_blocks (suc n) s = length-inner_block (inner_blocks n s) ∙ length-inner_blocks n s
