-- Words of the key schedule, as the code computes them.
--
-- In order: rot_word_is, rcon_is.
-- Not here: the rules of KeyExpansion() (fips197, Laws.Expansion) and of its dual (fips197, Laws.Equivalent).
-- Assumes nothing.
use mathlib.Core.Path.{◌≡◌, refl}
use Prim.Native.Nat.{ℕ, zero, suc, ◌+◌, ◌*◌, ◌/◌, ◌%◌, ◌^◌, ◌<◌}
use native.Mathlib.Omega.{arith}
use lib.Pow.{shr-shr}
use Rattle.words.proofs.Laws.Tests.{same_below}
use Rattle.gf256.specs.Gf256.{x_times}
use Rattle.fips197.specs.Fips197.{byte_of, rot_word, x_pow, rcon}

pub rot_word_is : (w : ℕ) → w < 2 ^ 32 → w % 0x1000000 * 256 + w / 0x1000000 ≡ rot_word w
unfolding rot_word
rot_word_is w h =
    let top : byte_of w 0 ≡ w / 0x1000000 = omega arith in
    omega (arith, shr-shr w 8 8, shr-shr w 16 8)

pub rcon_is : (j : ℕ) → j < 8 → (j ≡ 0 → ⊥) → 1 * 2 ^ (23 + j) % 2 ^ 32 ≡ rcon j
unfolding rcon x_pow x_times
rcon_is zero h n = absurd (n refl)
rcon_is (suc k) h n = same_below (λ k. 1 * 2 ^ (23 + suc k) % 2 ^ 32) (λ k. rcon (suc k)) 7 tt k (omega arith)
