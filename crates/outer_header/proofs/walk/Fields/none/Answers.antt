-- `outer_header::walk::Fields::none` meets its contract. Assumes nothing.
use mathlib.Core.Path.{refl}
use Rattle.outer_header.specs.Kdbx4Header.{no_fields}
use Rattle.outer_header.proofs.walk.Fields.none.Goals as goal

pub returns : goal.returns
unfolding no_fields
returns c = refl
