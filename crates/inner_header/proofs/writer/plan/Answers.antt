-- `inner_header::writer::plan` meets its contract. Assumes nothing.
use mathlib.Core.Path.{sym, ◌∙◌}
use Rattle.inner_header.specs.Writer.{run_then, planned}
use Rattle.inner_header.proofs.writer.plan.Goals as goal

pub returns-in-Err : goal.returns-in-Err
unfolding planned run_then
returns-in-Err c =
    rw (
      sym c.is_algorithm.ensures ∙ c.if-is_algorithm.true,
      sym c.check_run.ensures ∙ c.in-Err.is,
    )

pub returns-in-Ok : goal.returns-in-Ok
unfolding planned run_then
returns-in-Ok c =
    rw (
      sym c.is_algorithm.ensures ∙ c.if-is_algorithm.true,
      sym c.check_run.ensures ∙ c.in-Ok.is,
    ) c.size.ensures

pub returns : goal.returns
unfolding planned
returns c = rw (sym c.is_algorithm.ensures ∙ c.if-is_algorithm.false)
