-- `open_whole::text::block_size` meets its contract. Assumes nothing.
use Prim.Native.Nat.{◌+◌, ◌≤◌, ◌<◌}
use native.Mathlib.Omega.{arith}
use lib.ListN.{length}
use borrow.Author.Tests.{le-leb, lt-leb}
use Rattle.open_whole.specs.Ciphertext.{block_size}
use Rattle.open_whole.proofs.text.block_size.Goals as goal

pub returns-then-f-lt36 : goal.returns-then-f-lt36
unfolding block_size
returns-then-f-lt36 c =
    let l : length c.args.f.now < c.args.at + 36 = omega arith in
    rw (lt-leb _ _ l)

pub returns-then-n-f : goal.returns-then-n-f
unfolding block_size
returns-then-n-f c =
    let l : c.args.at + 36 ≤ length c.args.f.now = omega arith in
    rw (le-leb _ _ l, ← c.u32_at-n.ensures, le-leb _ _ c.if-n-f.true)

pub returns-then-at-f : goal.returns-then-at-f
unfolding block_size
returns-then-at-f c =
    let l : c.args.at + 36 ≤ length c.args.f.now = omega arith in
    rw (le-leb _ _ l, ← c.u32_at-n.ensures, lt-leb _ _ c.if-n-f.false)

pub returns : goal.returns
unfolding block_size
returns c =
    let l : length c.args.f.now < c.args.at + 36 = omega arith in
    rw (lt-leb _ _ l)
