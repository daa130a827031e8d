-- `argon2_block::gb_on` meets its contract. Assumes nothing.
use Rattle.argon2_block.specs.State.{four}
use Rattle.argon2_block.proofs.Laws.Permutation.{gb_on_is}
use Rattle.argon2_block.proofs.gb_on.Goals as goal

pub returns : goal.returns
returns c =
    let a = c.args in
    gb_on_is a.s.now a.i a.j a.k a.l (four c.gb-q.result) c.gb-q.ensures
