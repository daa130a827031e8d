-- `salsa20::block::doubleround` meets its contract. Assumes nothing.
use Rattle.salsa20.proofs.Laws.Rounds.{doubleround_is}
use Rattle.salsa20.proofs.block.doubleround.Goals as goal

pub returns : goal.returns
returns c =
    doubleround_is c.args.s.now c.requires
    c.qround.ensures c.qround-2.ensures c.qround-3.ensures c.qround-4.ensures
    c.qround-5.ensures c.qround-6.ensures c.qround-7.ensures c.qround-8.ensures
