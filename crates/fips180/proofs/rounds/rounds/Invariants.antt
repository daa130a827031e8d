-- `fips180::rounds::rounds` meets its contract. The invariant: i turns are 4 i rounds. Assumes nothing.
use Rattle.std.proofs.Common.{◌≡◌, ◌*◌, map}
use Rattle.fips180.specs.Fips180.{rounds}
use Rattle.fips180.specs.Working.{words}
use Rattle.fips180.proofs.rounds.rounds.Given as goal

abbrev pub invariant-loop-i : goal.invariant-loop-i
invariant-loop-i g l =
    let n = g.W.Word.number in
    words n l.t ≡ rounds g.W.Word.sha2 (map n l.k) (map n l.w) (l.i * 4) (words n l.initial.t)
