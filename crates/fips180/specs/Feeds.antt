-- A list of feeds, one after the other, and which of the parts they accept. Assumes nothing.
use Rattle.std.specs.Prelude.{cond, List, [], ◌∷◌, ◌++◌, ℕ, ◌+◌, leb, length}
use Rattle.fips180.specs.Fips180.{Sha2}
use Rattle.fips180.specs.Hashing.{Hashing, feed_to}

-- the state after feeding each part in turn, refused or not
unfoldable pub feeds : Sha2 → ℕ → Hashing → List (List ℕ) → Hashing
feeds p limit h [] = h
feeds p limit h (s ∷ ss) = feeds p limit (feed_to p limit h s).next ss

-- the accepted parts joined, where n bytes came before: a part that would pass the limit is left out, and the next is
-- tried
unfoldable pub accepted : ℕ → ℕ → List (List ℕ) → List ℕ
accepted limit n [] = []
accepted limit n (s ∷ ss) = cond (leb (n + length s) limit) (s ++ accepted limit (n + length s) ss)
    (accepted limit n ss)

-- all parts joined
unfoldable pub joined : List (List ℕ) → List ℕ
joined [] = []
joined (s ∷ ss) = s ++ joined ss
