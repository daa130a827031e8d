-- Rounds, by the columns that any tables give.
--
-- In order:
--   round_by_is, eq_inv_round_by_is        a round
--   sub_by_is, inv_sub_by_is               the last round, before the round key
--   rounds_by_more, eq_inv_rounds_by_more  one round more
-- Not here: that these are FIPS 197's by the right tables (Tabled).
-- Assumes nothing.
use mathlib.Core.Path.{◌≡◌, ◌∙◌, ap}
use mathlib.Core.List.{List}
use Prim.Native.Nat.{ℕ, suc, ◌+◌, ◌*◌, ◌-◌, ◌≤◌, ◌<◌}
use native.Mathlib.Nat.{add-zero}
use native.Mathlib.Omega.{arith}
use lib.ListN.{get_or}
use Rattle.fips197.specs.Fips197.{shift_rows, inv_shift_rows}
use Rattle.fips197.proofs.Laws.Words.{bytes_own}
use Rattle.aes_tables.specs.Tables.{IsColumn, sub_column, inv_sub_column}
use Rattle.aes_tables.proofs.Laws.Columns.{sub_column_bytes}
use Rattle.aes.specs.Columns.{state_of}
use Rattle.aes.specs.Tabled.{sub_by, inv_sub_by, round_by, rounds_by, eq_inv_round_by, eq_inv_rounds_by}
use Rattle.aes.proofs.Laws.Columns.{columns_is}

-- the words e to h are the columns of round i
pub round_by_is : (t w : List ℕ) (i a b c d e f g h : ℕ) → IsColumn t a b c d (get_or w (4 * i) 0) e
    → IsColumn t b c d a (get_or w (4 * i + 1) 0) f → IsColumn t c d a b (get_or w (4 * i + 2) 0) g
    → IsColumn t d a b c (get_or w (4 * i + 3) 0) h → state_of e f g h ≡ round_by t (state_of a b c d) w i
unfolding round_by
round_by_is t w i a b c d e f g h p₀ p₁ p₂ p₃ = simp add-zero (columns_is p₀ p₁ p₂ p₃)

pub eq_inv_round_by_is : (t v : List ℕ) (i a b c d e f g h : ℕ) → IsColumn t a d c b (get_or v (4 * i) 0) e
    → IsColumn t b a d c (get_or v (4 * i + 1) 0) f → IsColumn t c b a d (get_or v (4 * i + 2) 0) g
    → IsColumn t d c b a (get_or v (4 * i + 3) 0) h → state_of e f g h ≡ eq_inv_round_by t (state_of a b c d) v i
unfolding eq_inv_round_by
eq_inv_round_by_is t v i a b c d e f g h p₀ p₁ p₂ p₃ = simp add-zero (columns_is p₀ p₁ p₂ p₃)

pub sub_by_is : (t : List ℕ) (a b c d e f g h : ℕ) → e ≡ sub_column t a b c d → f ≡ sub_column t b c d a
    → g ≡ sub_column t c d a b → h ≡ sub_column t d a b c → state_of e f g h ≡ shift_rows (sub_by t (state_of a b c d))
sub_by_is t a b c d e f g h p₀ p₁ p₂ p₃ =
    rw (p₀, p₁, p₂, p₃)
    (columns_is (sub_column_bytes t a b c d) (sub_column_bytes t b c d a) (sub_column_bytes t c d a b) (sub_column_bytes t d a b c))

pub inv_sub_by_is : (u : List ℕ) (a b c d e f g h : ℕ) → e ≡ inv_sub_column u a d c b → f ≡ inv_sub_column u b a d c
    → g ≡ inv_sub_column u c b a d → h ≡ inv_sub_column u d c b a → state_of e f g h ≡ inv_sub_by u (inv_shift_rows (state_of a b c d))
unfolding inv_sub_column
inv_sub_by_is u a b c d e f g h p₀ p₁ p₂ p₃ = rw (p₀, p₁, p₂, p₃) (columns_is (bytes_own _) (bytes_own _) (bytes_own _) (bytes_own _))

pub rounds_by_more : (t s w : List ℕ) (i : ℕ) (x y : List ℕ) → 1 ≤ i → x ≡ rounds_by t s w (i - 1)
    → y ≡ round_by t x w i → y ≡ rounds_by t s w (i + 1 - 1)
unfolding rounds_by
rounds_by_more t s w i x y h p q =
    let n : i + 1 - 1 ≡ suc (i - 1) = omega arith in
    let m : i ≡ suc (i - 1) = omega arith in
    rw n (q ∙ ap (λ (z : List ℕ). round_by t z w i) p ∙ ap (round_by t (rounds_by t s w (i - 1)) w) m)

-- the rounds count down: i are left
pub eq_inv_rounds_by_more : (t s v : List ℕ) (i : ℕ) (x y : List ℕ) → 0 < i → i ≤ 13 → x ≡ eq_inv_rounds_by t s v (13 - i)
    → y ≡ eq_inv_round_by t x v i → y ≡ eq_inv_rounds_by t s v (13 - (i - 1))
unfolding eq_inv_rounds_by
eq_inv_rounds_by_more t s v i x y h l p q =
    let n : 13 - (i - 1) ≡ suc (13 - i) = omega arith in
    let m : i ≡ 13 - (13 - i) = omega arith in
    rw n (q ∙ ap (λ (z : List ℕ). eq_inv_round_by t z v i) p ∙ ap (eq_inv_round_by t (eq_inv_rounds_by t s v (13 - i)) v) m)
