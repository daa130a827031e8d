-- `words::be::u64_at` meets its contract. Assumes nothing.
use Rattle.std.proofs.Common.{sym}
use Rattle.words.proofs.Laws.Endian.{be_8, be_past}
use Rattle.words.proofs.be.u64_at.Goals as goal

pub returns-then-s-at : goal.returns-then-s-at
returns-then-s-at c =
    sym (be_past 8 c.args.s.now c.args.at c.if-s-at.true)

pub returns : goal.returns
returns c = rw be_8 (cc)
