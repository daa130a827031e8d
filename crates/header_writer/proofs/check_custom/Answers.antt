-- `header_writer::check_custom` meets its contract. Assumes nothing.
use mathlib.Core.Path.{sym, ◌∙◌, ap}
use borrow.Author.Tests.{eq-eqb, ne_eqb}
use Rattle.std.specs.Prelude.{Err}
use Rattle.header_writer.specs.Written.{custom_in, custom_verdict, checked_custom}
use Rattle.header_writer.proofs.check_custom.Goals as goal

pub returns-then-custom-eq0 : goal.returns-then-custom-eq0
unfolding custom_verdict custom_in checked_custom
returns-then-custom-eq0 c = rw (eq-eqb _ 0 c.if-custom-eq0.true)

pub returns-in-Ok : goal.returns-in-Ok
unfolding custom_verdict custom_in checked_custom
returns-in-Ok c =
    rw (ne_eqb _ 0 c.if-custom-eq0.false, sym c.check.ensures.value ∙ c.in-Ok.is)

pub returns-in-Err-Broken : goal.returns-in-Err-Broken
unfolding custom_verdict custom_in checked_custom
returns-in-Err-Broken c =
    rw (ne_eqb _ 0 c.if-custom-eq0.false, sym c.check.ensures.value ∙ c.in-Err-Broken.is ∙ ap Err c.in-Err-Broken.field-0-is)

pub returns-in-Err-Repeated : goal.returns-in-Err-Repeated
unfolding custom_verdict custom_in checked_custom
returns-in-Err-Repeated c =
    rw (ne_eqb _ 0 c.if-custom-eq0.false, sym c.check.ensures.value ∙ c.in-Err-Repeated.is ∙ ap Err c.in-Err-Repeated.field-0-is)
