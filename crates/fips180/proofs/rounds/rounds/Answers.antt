-- `fips180::rounds::rounds` meets its contract. The invariant: i turns are 4 i rounds. Assumes nothing.
use Rattle.std.proofs.Common.{◌≡◌, ◌+◌, ◌*◌, map, refl, arith}
use Rattle.fips180.specs.Fips180.{rounds}
use Rattle.fips180.specs.Working.{words}
use Rattle.fips180.proofs.Laws.Rounds.{rounds_four}
use Rattle.fips180.proofs.rounds.rounds.Goals as goal

pub loop-i-init : goal.loop-i-init
unfolding rounds
loop-i-init g c = refl

pub loop-i-preserved : goal.loop-i-preserved
loop-i-preserved g c =
    let l = c.loop-i in
    let n = g.W.Word.number in
    let e : (l.i + 1) * 4 ≡ l.i * 4 + 4 = omega arith in
    cc (
      e,
      c.four_rounds-t.ensures,
      l.invariant,
      rounds_four g.W.Word.sha2 (map n c.args.k.now) (map n c.args.w.now) (words n c.args.s) (l.i * 4),
    )
