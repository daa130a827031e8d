-- `outer_header::walk::ends_right` meets its contract. Assumes nothing.
use mathlib.Core.Path.{ap, ◌∙◌}
use mathlib.Core.List.{List, [], ◌∷◌}
use Prim.Native.Nat.{ℕ}
use Rattle.slices.specs.Same.{same}
use Rattle.outer_header.specs.Kdbx4Header.{ends_right}
use Rattle.outer_header.proofs.walk.ends_right.Goals as goal

pub returns : goal.returns
unfolding ends_right
returns c =
    c.same.ensures ∙ ap (λ (x : List ℕ). same x (0x0D ∷ 0x0A ∷ 0x0D ∷ 0x0A ∷ [])) c.part.ensures
