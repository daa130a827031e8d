-- `fips180::reading::half_at` meets its contract. Assumes nothing.
use Rattle.std.proofs.Common.{sym, ◌∙◌}
use Rattle.words.proofs.Laws.Endian.{be_4}
use Rattle.fips180.proofs.reading.half_at.Goals as goal

pub returns : goal.returns
returns c = c.u32_of.ensures ∙ sym (be_4 c.args.s.now c.args.at)
