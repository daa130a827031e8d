-- `slices::copy` meets its contract. Assumes nothing.
use mathlib.Core.Path.{◌≡◌, sym, ap, ◌∙◌}
use mathlib.Core.List.{List}
use Prim.Native.Nat.{ℕ, ◌<◌, min}
use native.Mathlib.Omega.{arith}
use lib.ListN.{length, take}
use Rattle.std.proofs.lemmas.List.{take_min}
use Rattle.slices.specs.Over.{over}
use Rattle.slices.proofs.Laws.Over.{over_nil, over_more}
use Rattle.slices.proofs.copy.Goals as goal

pub loop-i-init : goal.loop-i-init
loop-i-init c = sym (over_nil c.args.out.now)

pub loop-i-preserved : goal.loop-i-preserved
loop-i-preserved c =
    let l = c.loop-i in
    let a = c.args in
    let n = c.min-n.ensures in
    let h : l.i < length a.s.now = omega arith in
    let k : l.i < length a.out.now = omega arith in
    rw l.invariant (over_more a.s.now a.out.now l.i h k)

pub returns : goal.returns
returns c =
    let l = c.loop-i in
    let a = c.args in
    let n = c.min-n.ensures in
    let e : l.i ≡ min (length a.out.now) (length a.s.now) = omega arith in
    l.invariant
    ∙ ap (λ (w : List ℕ). over w a.out.now)
    (ap (λ (n : ℕ). take n a.s.now) e ∙ take_min (length a.out.now) a.s.now)
