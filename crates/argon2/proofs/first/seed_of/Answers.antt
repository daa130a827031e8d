-- `argon2::first::seed_of` meets its contract. Assumes nothing.
use mathlib.Core.Path.{◌≡◌}
use lib.ListN.{length}
use Rattle.argon2.proofs.Laws.First.{seed_is}
use borrow.Author.Rules.{rules}
use Rattle.argon2.proofs.first.seed_of.Goals as goal

pub returns : goal.returns
returns c =
    let long : length c.args.h ≡ 64 = search rules in
    let a = c.args in
    seed_is a.h _ a.i a.j long (search rules) c.bytes32.ensures c.bytes32-2.ensures
    c.put.ensures c.put-2.ensures c.put-3.ensures
