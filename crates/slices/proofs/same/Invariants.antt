-- `slices::same` meets its contract. The invariant: what was seen so far, with what is left to compare, is the whole
-- comparison. Assumes nothing.
use mathlib.Core.Path.{◌≡◌}
use lib.ListN.{length}
use Rattle.slices.specs.Same.{same}
use Rattle.slices.proofs.Laws.Same.{compared}
use Rattle.slices.proofs.same.Given as goal

abbrev pub invariant-loop-x : goal.invariant-loop-x
invariant-loop-x l =
    let s = l.x-iterator.a.rest.now in
    let t = l.x-iterator.b.rest.now in
    (length s ≡ length t) × (compared l.d s t ≡ same l.a l.b)
