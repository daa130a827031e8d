-- Worked examples of dictionaries, as theorems by computation.
--
-- In order: an empty dictionary, and faults of it; two items of one name.
-- Assumes nothing.
use mathlib.Core.Path.{◌≡◌, refl}
use mathlib.Core.List.{List, [], ◌∷◌, ◌++◌}
use Prim.Native.Nat.{ℕ}
use Rattle.words.specs.Endian.{le, le_bytes}
use Rattle.words.specs.Size.{int32}
use Rattle.slices.specs.Same.{same}
use Rattle.std.specs.Prelude.{Ok, Err}
use Rattle.dictionary.specs.declared.Fault.TheVariants as fault
use Rattle.dictionary.specs.Dictionary.{
  size_fits_type,
  value_at,
  name_at,
  entry_at,
  named_in,
  named,
  walk_in,
  walk,
  verdict,
  item_bytes,
}

-- the version and the last byte
verdict_empty : verdict (0x00 ∷ 0x01 ∷ 0x00 ∷ []) ≡ Ok tt
unfolding verdict walk walk_in entry_at
verdict_empty = refl

-- the version's bytes the other way round
verdict_version : verdict (0x01 ∷ 0x00 ∷ 0x00 ∷ []) ≡ Err (fault.Broken 0)
unfolding verdict
verdict_version = refl

-- a byte behind the last
verdict_behind : verdict (0x00 ∷ 0x01 ∷ 0x00 ∷ 0x00 ∷ []) ≡ Err (fault.Broken 0)
unfolding verdict walk walk_in entry_at
verdict_behind = refl

-- two empty strings of the name `A`
abbrev repeated : List ℕ
repeated = 0x00 ∷ 0x01 ∷ item_bytes 0x18 (0x41 ∷ []) [] ++ item_bytes 0x18 (0x41 ∷ []) [] ++ (0x00 ∷ [])

verdict-repeated : verdict repeated ≡ Err (fault.Repeated 12)
unfolding verdict walk walk_in named named_in entry_at name_at value_at size_fits_type same int32 le le_bytes item_bytes
verdict-repeated = refl
