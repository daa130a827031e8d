-- `stream::put_word` meets its contract. Assumes nothing.
use mathlib.Core.Path.{◌≡◌}
use mathlib.Core.List.{append_assoc}
use Prim.Native.Nat.{◌+◌, ◌-◌, ◌≤◌}
use native.Mathlib.Omega.{arith}
use lib.ListN.{length}
use lib.Seq.{drop-drop, sets-eq}
use Rattle.words.specs.Endian.{le_bytes}
use Rattle.words.proofs.Laws.Endian.{length-le_bytes}
use Rattle.stream.proofs.put_word.Goals as goal

pub returns : goal.returns
returns c =
    let a = c.args in
    let d = a.out.now in
    let b = le_bytes 4 a.x in
    let n : length b ≡ 4 = length-le_bytes 4 a.x in
    let k : a.at + 4 - a.at ≡ 4 = omega arith in
    let h : a.at + length b ≤ length d = omega arith in
    rw (k, c.copy_from_slice.ensures.after, c.bytes32.ensures, sets-eq b d a.at h, append_assoc, n, drop-drop)
