-- The number and the value of a size field (document 01, "Refusal numbers"): 5, "a size is negative"; "0 is success. A
-- refusal returns its number with zero in every other answer".
--
--   number, value    0 and the size; 5 and 0 of a negative one
--   said             both
-- Not here: what a size field holds (Size); that 5 is that refusal's number (crate refusals, proofs, Laws.Numbers).
-- Assumes nothing.
use Rattle.std.specs.Prelude.{ℕ, List, [], ◌∷◌, Option, Some, None}

abbrev pub number : Option ℕ → ℕ
number (Some n) = 0
number None = 5

abbrev pub value : Option ℕ → ℕ
value (Some n) = n
value None = 0

abbrev pub said : Option ℕ → List ℕ
said z = number z ∷ value z ∷ []
