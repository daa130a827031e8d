-- `inner_stream::plan` meets its contract. Assumes nothing.
use mathlib.Core.Path.{sym, ◌∙◌}
use borrow.Author.Tests.{le-leb, lt-leb}
use Rattle.inner_stream.specs.InnerStream.{planned}
use Rattle.inner_stream.proofs.plan.Goals as goal

pub returns-then-n-room : goal.returns-then-n-room
unfolding planned
returns-then-n-room c = rw (sym c.stretch_fits.ensures ∙ c.if-stretch_fits.true, le-leb _ _ c.if-n-room.true)

pub returns-then-stretch_fits : goal.returns-then-stretch_fits
unfolding planned
returns-then-stretch_fits c = rw (sym c.stretch_fits.ensures ∙ c.if-stretch_fits.true, lt-leb _ _ c.if-n-room.false)

pub returns : goal.returns
unfolding planned
returns c = rw (sym c.stretch_fits.ensures ∙ c.if-stretch_fits.false)
