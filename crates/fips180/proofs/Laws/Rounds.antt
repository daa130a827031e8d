-- Four rounds (6.2.2 and 6.4.2, step 3) in a row, as an unrolled loop does them.
--
-- In order: rounds_four (four of all the rounds).
-- Assumes nothing.
use mathlib.Core.Path.{◌≡◌}
use mathlib.Core.List.{List}
use Prim.Native.Nat.{ℕ, suc, ◌+◌}
use native.Mathlib.Omega.{arith}
use lib.ListN.{get_or}
use Rattle.fips180.specs.Fips180.{Sha2, round, rounds}
use Rattle.fips180.specs.Unrolled.{four_rounds}

module _ (p : Sha2) (ks ws s : List ℕ) where
  rounds-suc : (i j : ℕ) → i ≡ suc j → rounds p ks ws i s ≡ round p (rounds p ks ws j s) (get_or ks j 0) (get_or ws j 0)
  unfolding rounds
  rounds-suc i j e = rw e

  pub rounds_four : (j : ℕ) → rounds p ks ws (j + 4) s ≡ four_rounds p ks ws j (rounds p ks ws j s)
  rounds_four j =
      cc (
        rounds-suc (j + 4) (j + 3) (omega arith),
        rounds-suc (j + 3) (j + 2) (omega arith),
        rounds-suc (j + 2) (j + 1) (omega arith),
        rounds-suc (j + 1) j (omega arith),
      )
