-- `blake2b::mixing::rounds` meets its contract. The invariant: i rounds are done. Assumes nothing.
use mathlib.Core.Path.{refl}
use Rattle.blake2b.specs.Rfc7693.{rounds}
use Rattle.blake2b.proofs.Laws.Mixing.{rounds_more}
use Rattle.blake2b.proofs.mixing.rounds.Goals as goal

pub loop-i-init : goal.loop-i-init
unfolding rounds
loop-i-init c = refl

pub loop-i-preserved : goal.loop-i-preserved
loop-i-preserved c =
    let l = c.loop-i in
    let a = c.args in
    rounds_more a.m.now a.v.now l.i l.invariant c.round.ensures
