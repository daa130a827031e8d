-- A function on blocks, applied n times. Assumes nothing.
use Rattle.std.specs.Prelude.{List, ℕ, zero, suc}

unfoldable pub repeated : (List ℕ → List ℕ) → ℕ → List ℕ → List ℕ
repeated f zero s = s
repeated f (suc n) s = f (repeated f n s)
