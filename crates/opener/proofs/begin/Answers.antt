-- `opener::begin` meets its contract. Assumes nothing.
use mathlib.Core.Path.{ap}
use mathlib.Core.List.{List}
use Prim.Native.Nat.{ℕ}
use Rattle.opening.specs.declared.Phase.TheVariants.{Open}
use Rattle.opening.specs.Steps.{opener, zeros, open_start}
use Rattle.opener.proofs.begin.Goals as goal

pub returns : goal.returns
unfolding open_start opener
returns c =
    let a = c.args in
    ap (λ (v : List ℕ). opener a.k Open 0 a.p 0 v zeros) c.first_prev-prev.ensures
