-- `inner_header::fault` meets its contract. Assumes nothing.
use mathlib.Core.Path.{sym, ◌∙◌}
use borrow.Author.Tests.{eq-eqb, ne_eqb}
use Rattle.inner_header.specs.InnerHeader.{fault}
use Rattle.inner_header.proofs.fault.Goals as goal

pub returns-then-t-eq0 : goal.returns-then-t-eq0
unfolding fault
returns-then-t-eq0 c = rw (eq-eqb _ 0 c.if-t-eq0.true, c.end_field.ensures)

pub returns-then-t-eq0-2 : goal.returns-then-t-eq0-2
unfolding fault
returns-then-t-eq0-2 c =
    rw (ne_eqb _ 0 c.if-t-eq0.false, eq-eqb _ 0 c.if-t-eq0-2.true, c.end_field-then-t-eq0-2.ensures)

pub returns-then-is_algorithm : goal.returns-then-is_algorithm
unfolding fault
returns-then-is_algorithm c =
    rw (
      ne_eqb _ 0 c.if-t-eq0.false,
      ne_eqb _ 0 c.if-t-eq0-2.false,
      ← c.u32_at.ensures,
      sym c.is_algorithm.ensures ∙ c.if-is_algorithm.true,
    )

pub returns : goal.returns
unfolding fault
returns c =
    rw (
      ne_eqb _ 0 c.if-t-eq0.false,
      ne_eqb _ 0 c.if-t-eq0-2.false,
      ← c.u32_at.ensures,
      sym c.is_algorithm.ensures ∙ c.if-is_algorithm.false,
      c.begin.ensures,
    )
