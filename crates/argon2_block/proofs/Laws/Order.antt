-- The columns and the rows, by the code's steps.
--
-- In order:
--   gbs_more, cycles_more, turn_row_more, turn_more    these steps are those of the definitions (specs/Order)
--   columns_is                                        and together RFC 9106's columns
--   permuted_is                                       P on a block's rows is P on the columns of the block turned
-- Assumes nothing.
use Rattle.std.proofs.Common.{◌≡◌, ℕ, zero, suc, ◌+◌, ◌*◌, ◌<◌, ◌≤◌, List, [], ◌∷◌, length, get_or, drop, sym, refl, ap, ◌∙◌, subst, add-one, arith, drop_of_length-le, drop-cons}
use Rattle.argon2_block.specs.Rfc9106.{gb_on, p, rows, columns, permuted}
use Rattle.argon2_block.specs.Order.{gbs, cycle, cycles, exchange, turn_row, turn}
use Rattle.argon2_block.proofs.Laws.Permutation.{length-rows}

pub gbs_more : (s : List ℕ) (i j k l n : ℕ) {t u : List ℕ} → t ≡ gbs n s i j k l
    → u ≡ gb_on t (i + n) (j + n) (k + n) (l + n) → u ≡ gbs (n + 1) s i j k l
unfolding gbs
gbs_more s i j k l n e f = rw add-one (cc)

pub cycles_more : (s : List ℕ) (i j k l n : ℕ) {t u : List ℕ} → t ≡ cycles n s i j k l
    → u ≡ cycle t (i + n * 2) (j + n * 2) (k + n * 2) (l + n * 2) → u ≡ cycles (n + 1) s i j k l
unfolding cycles
cycles_more s i j k l n e f = rw add-one (cc)

pub turn_row_more : (s : List ℕ) (n i : ℕ) {t u : List ℕ} → t ≡ turn_row i s n
    → u ≡ exchange t (n * 16 + i * 2) (i * 16 + n * 2) → u ≡ turn_row (i + 1) s n
unfolding turn_row
turn_row_more s n i e f = rw add-one (cc)

pub turn_more : (s : List ℕ) (n : ℕ) {t u : List ℕ} → t ≡ turn n s → u ≡ turn_row n t n → u ≡ turn (n + 1) s
unfolding turn
turn_more s n e f = rw add-one (cc)

-- the elements of a list from i on, n of them
abbrev listed : ℕ → ℕ → List ℕ → List ℕ
listed zero i s = []
listed (suc n) i s = get_or s i 0 ∷ listed n (suc i) s

drop-listed : (n i : ℕ) (s : List ℕ) → length s ≡ i + n → drop i s ≡ listed n i s
drop-listed zero i s e =
    let h : length s ≤ i = omega arith in
    drop_of_length-le s h
drop-listed (suc n) i s e =
    let h : i < length s = omega arith in
    let k : length s ≡ suc i + n = omega arith in
    drop-cons s i 0 h ∙ ap (λ (l : List ℕ). get_or s i 0 ∷ l) (drop-listed n (suc i) s k)

-- the columns, by the code's steps
abbrev stepped : List ℕ → List ℕ
stepped s =
    let t : List ℕ = cycles 8 (cycles 8 (gbs 32 s 0 32 64 96) 32 33 48 49) 113 112 97 96 in
    cycles 8 (cycles 8 (gbs 16 (gbs 16 t 0 32 80 96) 16 48 64 112) 49 48 33 32) 96 97 112 113

-- GBs of different columns touch different words, and so do those of half a column
stepped-listed : (s : List ℕ) → stepped (listed 128 0 s) ≡ columns 8 (listed 128 0 s)
unfolding gb_on p columns gbs cycles
stepped-listed s = refl

stepped_is : (s : List ℕ) → length s ≡ 128 → stepped s ≡ columns 8 s
stepped_is s e = subst (λ (l : List ℕ). stepped l ≡ columns 8 l) (sym (drop-listed 128 0 s e)) (stepped-listed s)

pub columns_is : (s : List ℕ) {t₁ t₂ t₃ t₄ t₅ t₆ t₇ : List ℕ} → length s ≡ 128 → t₁ ≡ gbs 32 s 0 32 64 96
    → t₂ ≡ cycles 8 t₁ 32 33 48 49 → t₃ ≡ cycles 8 t₂ 113 112 97 96 → t₄ ≡ gbs 16 t₃ 0 32 80 96
    → t₅ ≡ gbs 16 t₄ 16 48 64 112 → t₆ ≡ cycles 8 t₅ 49 48 33 32 → t₇ ≡ cycles 8 t₆ 96 97 112 113 → t₇ ≡ columns 8 s
columns_is s n e₁ e₂ e₃ e₄ e₅ e₆ e₇ = cc (stepped_is s n)

length-listed : (s : List ℕ) → length (turn 8 (listed 128 0 s)) ≡ 128
unfolding turn_row turn
length-listed s = refl

length-turn : (s : List ℕ) → length s ≡ 128 → length (turn 8 s) ≡ 128
length-turn s e = subst (λ (l : List ℕ). length (turn 8 l) ≡ 128) (sym (drop-listed 128 0 s e)) (length-listed s)

rows-listed : (s : List ℕ) → turn 8 (columns 8 (turn 8 (listed 128 0 s))) ≡ rows 8 (listed 128 0 s)
unfolding gb_on p columns rows turn_row turn
rows-listed s = refl

-- rows are the columns of the block turned
rows_is : (s : List ℕ) → length s ≡ 128 → turn 8 (columns 8 (turn 8 s)) ≡ rows 8 s
rows_is s e =
    subst (λ (l : List ℕ). turn 8 (columns 8 (turn 8 l)) ≡ rows 8 l) (sym (drop-listed 128 0 s e)) (rows-listed s)

pub permuted_is : (s : List ℕ) {t u v w : List ℕ} → length s ≡ 128 → t ≡ turn 8 s → (length t ≡ 128 → u ≡ columns 8 t)
    → v ≡ turn 8 u → (length v ≡ 128 → w ≡ columns 8 v) → w ≡ permuted s
unfolding permuted
permuted_is s {t} {u} {v} n e f g h =
    let k : u ≡ columns 8 t = f (ap length e ∙ length-turn s n) in
    let r : v ≡ rows 8 s = g ∙ ap (turn 8) (k ∙ ap (columns 8) e) ∙ rows_is s n in
    h (ap length r ∙ length-rows 8 s ∙ n) ∙ ap (columns 8) r
