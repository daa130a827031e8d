-- `read` of `fips180::word::Word` at u64 meets its contract. Assumes nothing.
use Rattle.std.proofs.Common.{◌∙◌, ◌-◌, ◌^◌, arith}
use Rattle.fips180.proofs.Laws.Places.{be_at}
use Rattle.fips180.proofs.word.U64Word.read.Goals as goal

pub returns : goal.returns
returns c =
    let a = c.args in
    c.u64_at.ensures
    ∙ be_at 8 (2 ^ 64 - 1) a.block.now a.i 8 c.saturating_mul.result (omega arith) c.saturating_mul.ensures
