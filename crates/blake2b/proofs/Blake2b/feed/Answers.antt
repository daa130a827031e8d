-- `blake2b::Blake2b::feed` meets its contract. Assumes nothing.
use Prim.Native.Nat.{◌+◌, ◌≤◌, ◌<◌}
use native.Mathlib.Omega.{arith}
use lib.ListN.{length}
use borrow.Author.Tests.{le-leb, lt-leb}
use Rattle.refusals.specs.Limits.{message_limit}
use Rattle.blake2b.specs.State.{fed}
use borrow.Author.Rules.{rules}
use Rattle.blake2b.proofs.Blake2b.feed.Goals as goal

pub returns-then-most-total : goal.returns-then-most-total
unfolding fed message_limit
returns-then-most-total c =
    let a = c.args in
    let l : message_limit < a.self.total + length a.s.now = omega arith in
    rw (lt-leb _ _ l)

pub absorb-next-requires : goal.absorb-next-requires
absorb-next-requires c = search rules

pub returns : goal.returns
unfolding fed message_limit
returns c =
    let a = c.args in
    let l : a.self.total + length a.s.now ≤ message_limit = omega arith in
    rw (le-leb _ _ l, c.absorb-next.ensures)
