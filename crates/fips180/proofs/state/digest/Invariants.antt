-- `fips180::state::digest` meets its contract. The invariant: the bytes of the first i words stand. Assumes nothing.
use Rattle.std.proofs.Common.{◌≡◌, ◌*◌, length, map, take}
use Rattle.fips180.specs.Fips180.{digest}
use Rattle.fips180.proofs.state.digest.Given as goal

abbrev pub invariant-loop-i : goal.invariant-loop-i
invariant-loop-i g l =
    let p = g.W.Word.sha2 in
    (length l.room ≡ 8 * p.bytes)
    × (take (l.i * p.bytes) l.room ≡ digest p (take l.i (map g.W.Word.number l.c)))
