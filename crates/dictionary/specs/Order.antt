-- Names as numbers, and numbers in rising order: how a repeated name is searched for.
--
--   key, key_of                the number of a name: 1 and then its bytes, the most significant first, so that two names
--                             are the same where their numbers are
--   name_from, key_at           the name of the item at a place, and its number
--   keys_at, held              the numbers of items at places behind a base, and of those in a table
--   order                     how two numbers stand to each other
--   among                     whether a number is one of a list
--   Below, Above, Rising      every number is below one, above one, below all behind it
--   Located                   what a search in a rising list answers
--   inserted, Added           one more number at an index, and one more in a table
-- Not here: what a dictionary is (Dictionary).
-- Assumes nothing.
use Rattle.std.specs.Prelude.{◌≡◌, Bool, true, false, cond, List, [], ◌∷◌, ◌++◌, ℕ, ◌+◌, ◌*◌, ◌≤◌, ◌<◌, eqb, ltb, length, take, drop}
use Rattle.words.specs.Endian.{le}
use Rattle.dictionary.specs.declared.table.Order.{Order}
use Rattle.dictionary.specs.declared.table.Order.TheVariants.{Less, Same, More}
use Rattle.dictionary.specs.declared.table.Spot.{Spot}
use Rattle.dictionary.specs.declared.table.Spot.TheVariants as spot

-- a number, and then bytes
unfoldable pub key : ℕ → List ℕ → ℕ
key a [] = a
key a (x ∷ xs) = key (a * 256 + x) xs

abbrev pub key_of : List ℕ → ℕ
key_of name = key 1 name

-- the name that stands behind the type and the name size at a place
abbrev pub name_from : List ℕ → ℕ → List ℕ
name_from s at = take (le 4 s (at + 1)) (drop (at + 5) s)

abbrev pub key_at : List ℕ → ℕ → ℕ
key_at s at = key_of (name_from s at)

unfoldable pub keys_at : List ℕ → ℕ → List ℕ → List ℕ
keys_at s base [] = []
keys_at s base (p ∷ ps) = key_at s (base + p) ∷ keys_at s base ps

-- the first n places of a table
abbrev pub held : List ℕ → ℕ → ℕ → List ℕ → List ℕ
held s base n t = keys_at s base (take n t)

unfoldable pub order : ℕ → ℕ → Order
order x y = cond (ltb x y) Less (cond (ltb y x) More Same)

unfoldable pub among : ℕ → List ℕ → Bool
among x [] = false
among x (k ∷ ks) = cond (eqb k x) true (among x ks)

unfoldable pub Below : ℕ → List ℕ → Type 0
Below x [] = Unit
Below x (k ∷ ks) = (k < x) × Below x ks

unfoldable pub Above : ℕ → List ℕ → Type 0
Above x [] = Unit
Above x (k ∷ ks) = (x < k) × Above x ks

unfoldable pub Rising : List ℕ → Type 0
Rising [] = Unit
Rising (k ∷ ks) = Above k ks × Rising ks

-- the numbers before an index are below one, and those from it on above
pub record IsFree (ks : List ℕ) (x j : ℕ) : Type 0 where
  pub within : j ≤ length ks
  pub below : Below x (take j ks)
  pub above : Above x (drop j ks)

unfoldable pub Located : List ℕ → ℕ → Spot → Type 0
Located ks x spot.Held = among x ks ≡ true
Located ks x (spot.Free j) = IsFree ks x j

abbrev pub inserted : ℕ → ℕ → List ℕ → List ℕ
inserted j x ks = take j ks ++ x ∷ drop j ks

-- x was among the numbers ks; or it was not, and the numbers ls are rising, with that one more
unfoldable pub Added : ℕ → List ℕ → List ℕ → Bool → Type 0
Added x ks ls true = among x ks ≡ true
Added x ks ls false = (among x ks ≡ false) × Rising ls × ((y : ℕ) → among y ls ≡ among y (x ∷ ks))
