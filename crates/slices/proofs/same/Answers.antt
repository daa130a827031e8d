-- `slices::same` meets its contract. Assumes nothing.
use mathlib.Core.Path.{◌≡◌, sym, ap, ◌∙◌}
use native.Mathlib.Omega.{arith}
use lib.ListN.{length}
use Rattle.slices.proofs.Laws.Same.{same_length, same_more, same_all}
use Rattle.slices.proofs.same.Goals as goal

pub returns-then-a-b : goal.returns-then-a-b
returns-then-a-b c = sym (same_length c.args.a.now c.args.b.now c.if-a-b.true)

pub loop-x-init : goal.loop-x-init
loop-x-init c =
    let f = c.zip-x-items.ensures.first in
    let g = c.zip-x-items.ensures.second.0 in
    let h = c.iter.ensures.rest in
    let k = c.if-a-b.false in
    (cc, cc)

pub loop-x-preserved : goal.loop-x-preserved
loop-x-preserved c =
    let l = c.loop-x in
    let h = c.in-Some.ensures.steps in
    let x = c.in-Some.x.now in
    let y = c.in-Some.y.now in
    let s = c.next.new.self.a.rest.now in
    let t = c.next.new.self.b.rest.now in
    let m = same_more l.d x y s t in
    (omega (arith, ap length h.0, ap length h.1), cc)

pub returns : goal.returns
returns c =
    let l = c.loop-x in
    let h = c.in-None.ensures.steps in
    let z : length l.x-iterator.a.rest.now ≡ 0 = omega arith in
    same_all l.d l.x-iterator.a.rest.now l.x-iterator.b.rest.now l.invariant.0 z ∙ l.invariant.1
