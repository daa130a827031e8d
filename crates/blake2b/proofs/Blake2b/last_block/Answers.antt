-- `blake2b::Blake2b::last_block` meets its contract. Assumes nothing.
use mathlib.Core.Path.{◌≡◌, ap, ◌∙◌}
use Prim.Native.Nat.{ℕ, ◌≤◌}
use native.Mathlib.Omega.{arith}
use lib.ListN.{length, take}
use lib.Seq.{length-take-le}
use Rattle.slices.specs.Over.{over}
use Rattle.slices.proofs.Laws.Over.{over_fits}
use Rattle.slices.proofs.Laws.Zeros.{zeros}
use Rattle.blake2b.specs.State.{pending}
use borrow.Author.Rules.{rules}
use Rattle.blake2b.proofs.Blake2b.last_block.Goals as goal

pub returns : goal.returns
unfolding pending
returns c =
    let h = c.args.self in
    let used = c.waiting-used.result in
    let e = c.waiting-used.ensures in
    let long : length h.buffer ≡ 128 = search rules in
    let used_fits : used ≤ length h.buffer = omega arith in
    let n = length-take-le used h.buffer used_fits in
    let l : length (take used h.buffer) ≤ 128 = omega arith in
    c.copy.ensures ∙ over_fits (take used h.buffer) (zeros 128) l
    ∙ ap (λ (n : ℕ). over (take n h.buffer) (zeros 128)) e
