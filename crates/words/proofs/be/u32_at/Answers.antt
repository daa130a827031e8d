-- `words::be::u32_at` meets its contract. Assumes nothing.
use Rattle.std.proofs.Common.{sym, ◌∙◌}
use Rattle.words.proofs.Laws.Endian.{be_4, be_past}
use Rattle.words.proofs.be.u32_at.Goals as goal

pub returns-then-s-at : goal.returns-then-s-at
returns-then-s-at c =
    sym (be_past 4 c.args.s.now c.args.at c.if-s-at.true)

pub returns-then-s-at-ge4 : goal.returns-then-s-at-ge4
returns-then-s-at-ge4 c =
    c.u32_of.ensures ∙ sym (be_4 c.args.s.now c.args.at)

pub returns : goal.returns
returns c =
    cc (c.u32_of-2.ensures, be_4 c.args.s.now c.args.at)
