-- How the code's words stand for the Salsa20 specification's. Assumes nothing.
use Rattle.std.specs.Prelude.{List, ℕ, set}
use Rattle.salsa20.specs.Salsa20 as salsa20
use Rattle.salsa20.specs.declared.block.Four.{Four}

abbrev pub four : Four → salsa20.Four
four q = record { y0 = q.y0; y1 = q.y1; y2 = q.y2; y3 = q.y3 }

-- a quarterround in place, on four words of a state
unfoldable pub qround : List ℕ → ℕ → ℕ → ℕ → ℕ → List ℕ
qround s i j k l =
    let q : salsa20.Four = salsa20.quarter s i j k l in
    set (set (set (set s i q.y0) j q.y1) k q.y2) l q.y3
