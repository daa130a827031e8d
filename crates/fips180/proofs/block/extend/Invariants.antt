-- `fips180::block::extend` meets its contract. The invariant: the first i words are the schedule's. Assumes nothing.
use Rattle.std.proofs.Common.{◌≡◌, ◌-◌, ◌≤◌, length, map, take}
use Rattle.fips180.specs.Fips180.{grow}
use Rattle.fips180.proofs.block.extend.Given as goal

abbrev pub invariant-loop-i : goal.invariant-loop-i
invariant-loop-i g l =
    let n = g.W.Word.number in
    (16 ≤ l.i) × (length l.w ≡ length l.initial.w)
    × (take l.i (map n l.w) ≡ grow g.W.Word.sha2 (l.i - 16) (take 16 (map n l.initial.w)))
