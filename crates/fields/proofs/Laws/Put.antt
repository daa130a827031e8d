-- How code lays a field: its five bytes, and the value behind them.
-- Assumes nothing.
use mathlib.Core.Path.{◌≡◌, refl, ap, ◌∙◌}
use mathlib.Core.List.{List, [], ◌∷◌}
use Prim.Native.Nat.{ℕ, ◌+◌, ◌≤◌}
use lib.ListN.{length, get_or}
use Rattle.words.specs.Endian.{le_bytes}
use Rattle.slices.specs.Over.{put_at}
use Rattle.slices.proofs.Laws.Put.{put_at-put_at}
use Rattle.fields.specs.Fields.{field_bytes}

-- the ID and the low four bytes of a size
abbrev pub head : ℕ → List ℕ → List ℕ
head id size = id ∷ get_or size 0 0 ∷ get_or size 1 0 ∷ get_or size 2 0 ∷ get_or size 3 0 ∷ []

pub put_field : (id at : ℕ) (size v d x y : List ℕ) → size ≡ le_bytes 8 (length v) → at ≤ length d
    → x ≡ put_at at (head id size) d → y ≡ put_at (at + 5) v x
    → y ≡ put_at at (field_bytes id v) d
unfolding field_bytes le_bytes
put_field id at size v d x y e h f g =
    g ∙ ap (λ (z : List ℕ). put_at (at + 5) v z) (f ∙ ap (λ (z : List ℕ). put_at at (head id z) d) e)
    ∙ put_at-put_at (id ∷ le_bytes 4 (length v)) v d at 5 refl h
