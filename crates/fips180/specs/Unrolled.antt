-- Four rounds in a row, as an unrolled loop does them. Assumes nothing.
use Rattle.std.specs.Prelude.{List, ℕ, ◌+◌, get_or}
use Rattle.fips180.specs.Fips180.{Sha2, round}

-- round t with its constant and its word of the schedule
abbrev pub round_at : Sha2 → List ℕ → List ℕ → ℕ → List ℕ → List ℕ
round_at p ks ws t s = round p s (get_or ks t 0) (get_or ws t 0)

-- the rounds j to j + 3
abbrev pub four_rounds : Sha2 → List ℕ → List ℕ → ℕ → List ℕ → List ℕ
four_rounds p ks ws j s = round_at p ks ws (j + 3)
    (round_at p ks ws (j + 2) (round_at p ks ws (j + 1) (round_at p ks ws j s)))
