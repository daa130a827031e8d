-- `salsa20::block::rounds` meets its contract. The invariant: so many doublerounds are done. Assumes nothing.
use mathlib.Core.Path.{◌≡◌, refl, ap, ◌∙◌}
use Prim.Native.Nat.{ℕ}
use native.Mathlib.Omega.{arith}
use lib.ListN.{length}
use Rattle.salsa20.specs.Salsa20.{doublerounds}
use Rattle.salsa20.proofs.Laws.Rounds.{doublerounds_more, length-doubleround}
use Rattle.salsa20.proofs.block.rounds.Goals as goal

pub loop-init : goal.loop-init
unfolding doublerounds
loop-init c = (c.requires, refl)

pub loop-preserved : goal.loop-preserved
loop-preserved c =
    let l = c.loop in
    let e = c.doubleround.ensures in
    (ap length e ∙ length-doubleround l.s, doublerounds_more c.args.s.now l.counter l.invariant.1 e)

pub returns : goal.returns
returns c =
    let l = c.loop in
    let e : l.counter ≡ 10 = omega arith in
    l.invariant.1 ∙ ap (λ (n : ℕ). doublerounds n c.args.s.now) e
