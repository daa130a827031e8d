-- `explanations::held` meets its contract. Assumes nothing.
use mathlib.Core.Path.{ap}
use mathlib.Core.List.{List}
use Prim.Native.Nat.{ℕ}
use lib.ListN.{length}
use Rattle.explanations.specs.Sentences.{held}
use Rattle.explanations.proofs.held.Goals as goal

pub returns : goal.returns
unfolding held
returns c =
    let s = c.args.s.now in
    ap (λ (t : List ℕ). record { text = t; length = length s }) c.copy.ensures
