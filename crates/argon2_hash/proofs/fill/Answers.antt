-- `argon2_hash::fill` meets its contract. Assumes nothing.
use Prim.Native.Nat.{◌+◌, ◌≤◌, ◌<◌}
use native.Mathlib.Omega.{arith}
use lib.ListN.{length}
use borrow.Author.Tests.{le-leb, lt-leb}
use Rattle.refusals.specs.Limits.{message_limit}
use Rattle.argon2_hash.specs.LongHash.{filled, fill_outcome}
use Rattle.argon2_hash.proofs.fill.Goals as goal

pub returns-then-message : goal.returns-then-message
unfolding filled fill_outcome message_limit
returns-then-message c =
    let m = c.args.message.now in
    let l : message_limit < 4 + length m = omega arith in
    record {
      value = rw (lt-leb _ _ l);
      out_after = rw (lt-leb _ _ l);
    }

pub fill_short-requires-clause-message_bound : goal.fill_short-requires-clause-message_bound
unfolding message_limit
fill_short-requires-clause-message_bound c = omega arith

pub returns-then-out-le64 : goal.returns-then-out-le64
unfolding filled fill_outcome message_limit
returns-then-out-le64 c =
    let l : 4 + length c.args.message.now ≤ message_limit = omega arith in
    record {
      value = rw (le-leb _ _ l);
      out_after = rw (le-leb _ _ l) c.fill_short.ensures;
    }

pub fill_longer-requires-clause-message_bound : goal.fill_longer-requires-clause-message_bound
unfolding message_limit
fill_longer-requires-clause-message_bound c = omega arith

pub returns : goal.returns
unfolding filled fill_outcome message_limit
returns c =
    let l : 4 + length c.args.message.now ≤ message_limit = omega arith in
    record {
      value = rw (le-leb _ _ l);
      out_after = rw (le-leb _ _ l) c.fill_longer.ensures;
    }
