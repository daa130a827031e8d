-- Exclusive or of two lists, element by element, as long as the shorter.
-- Not here: exclusive or of numbers (the kit's lib.Bits).
-- Assumes nothing.
use Rattle.std.specs.Prelude.{ℕ, List, [], ◌∷◌, bit_xor}

unfoldable pub xors : List ℕ → List ℕ → List ℕ
xors [] ys = []
xors (x ∷ xs) [] = []
xors (x ∷ xs) (y ∷ ys) = bit_xor x y ∷ xors xs ys
