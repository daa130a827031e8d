-- The mixing function G (3.1) and the rounds (3.2), in place on a working vector of sixteen words.
--
-- In order:
--   sigma_rows-lt                      every entry of SIGMA is the place of a word
--   mixing_g_is, round_on_is              these steps are G, and these eight a round
--   rounds_more                   one more round
--   length-round_on, length-rounds sixteen words stay sixteen
-- Assumes nothing.
use mathlib.Core.Path.{◌≡◌, refl, ◌∙◌}
use mathlib.Core.List.{List}
use Prim.Native.Nat.{ℕ, zero, suc, ◌+◌, ◌*◌, ◌%◌, ◌<◌}
use native.Mathlib.Numerals.{add-one}
use native.Mathlib.Omega.{arith}
use lib.Dec.{ltb, ltb→lt}
use lib.ListN.{length, get_or, set, length-set}
use Rattle.words.proofs.Laws.Tests.{every_at}
use Rattle.blake2b.specs.Rfc7693.{Four, mix, mixing_g, round_on, rounds}
use Rattle.blake2b.specs.Rfc7693.Constants.{sigma_rows}
use Rattle.blake2b.specs.Working.{scheduled_g}

pub mixing_g_is : (v : List ℕ) (a b c d : ℕ) {x y : ℕ} (x' y' : ℕ) (q : Four) → x ≡ x' → y ≡ y'
    → q ≡ mix (record { a = get_or v a 0; b = get_or v b 0; c = get_or v c 0; d = get_or v d 0 }) x y
    → set (set (set (set v a q.a) b q.b) c q.c) d q.d ≡ mixing_g v a b c d x' y'
unfolding mixing_g
mixing_g_is v a b c d x' y' q ex ey e = rw (e, ex, ey)

pub round_on_is : (m : List ℕ) (row : ℕ) (v₀ : List ℕ) {v₁ v₂ v₃ v₄ v₅ v₆ v₇ v₈ : List ℕ}
    → v₁ ≡ scheduled_g m row v₀ 0 4 8 12 → v₂ ≡ scheduled_g m (row + 2) v₁ 1 5 9 13
    → v₃ ≡ scheduled_g m (row + 4) v₂ 2 6 10 14 → v₄ ≡ scheduled_g m (row + 6) v₃ 3 7 11 15
    → v₅ ≡ scheduled_g m (row + 8) v₄ 0 5 10 15 → v₆ ≡ scheduled_g m (row + 10) v₅ 1 6 11 12
    → v₇ ≡ scheduled_g m (row + 12) v₆ 2 7 8 13 → v₈ ≡ scheduled_g m (row + 14) v₇ 3 4 9 14
    → v₈ ≡ round_on m row v₀
unfolding round_on
round_on_is m row v₀ e₁ e₂ e₃ e₄ e₅ e₆ e₇ e₈ =
    let f₂ : row + 2 + 1 ≡ row + 3 = omega arith in
    let f₄ : row + 4 + 1 ≡ row + 5 = omega arith in
    let f₆ : row + 6 + 1 ≡ row + 7 = omega arith in
    let f₈ : row + 8 + 1 ≡ row + 9 = omega arith in
    let f₁₀ : row + 10 + 1 ≡ row + 11 = omega arith in
    let f₁₂ : row + 12 + 1 ≡ row + 13 = omega arith in
    let f₁₄ : row + 14 + 1 ≡ row + 15 = omega arith in
    cc

pub rounds_more : (m v : List ℕ) (i : ℕ) {t u : List ℕ} → t ≡ rounds i m v → u ≡ round_on m (16 * (i % 10)) t
    → u ≡ rounds (i + 1) m v
unfolding rounds
rounds_more m v i e f = rw add-one (cc)

length-mixing_g : (v : List ℕ) (a b c d x y : ℕ) → length (mixing_g v a b c d x y) ≡ length v
unfolding mixing_g
length-mixing_g v a b c d x y = simp length-set

pub length-round_on : (m : List ℕ) (row : ℕ) (v : List ℕ) → length (round_on m row v) ≡ length v
unfolding round_on
length-round_on m row v = simp length-mixing_g

pub length-rounds : (n : ℕ) (m v : List ℕ) → length (rounds n m v) ≡ length v
unfolding rounds
length-rounds zero m v = refl
length-rounds (suc n) m v = length-round_on m (16 * (n % 10)) (rounds n m v) ∙ length-rounds n m v

-- every entry of SIGMA is the place of a word
pub sigma_rows-lt : (i : ℕ) → i < 160 → get_or sigma_rows i 0 < 16
unfolding sigma_rows
sigma_rows-lt i h = ltb→lt (get_or sigma_rows i 0) 16 (every_at (λ (j x : ℕ). ltb x 16) sigma_rows tt i h)
