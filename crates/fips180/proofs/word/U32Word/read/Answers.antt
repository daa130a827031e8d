-- `read` of `fips180::word::Word` at u32 meets its contract. Assumes nothing.
use Rattle.std.proofs.Common.{◌∙◌, ◌-◌, ◌^◌, arith}
use Rattle.fips180.proofs.Laws.Places.{be_at}
use Rattle.fips180.proofs.word.U32Word.read.Goals as goal

pub returns : goal.returns
returns c =
    let a = c.args in
    c.u32_at.ensures
    ∙ be_at 4 (2 ^ 64 - 1) a.block.now a.i 4 c.saturating_mul.result (omega arith) c.saturating_mul.ensures
