-- A list cut into pieces of one length.
-- Assumes nothing.
use Rattle.std.specs.Prelude.{List, [], ◌∷◌, ℕ, zero, suc, take, drop}

-- the first n pieces of b bytes
unfoldable pub cut : ℕ → ℕ → List ℕ → List (List ℕ)
cut b zero s = []
cut b (suc n) s = take b s ∷ cut b n (drop b s)
