-- `outer_header::is_complete` meets its contract. Assumes nothing.
use borrow.Author.Tests.{eq-eqb, ne_eqb}
use Rattle.outer_header.specs.Kdbx4Header.{complete}
use Rattle.outer_header.proofs.is_complete.Goals as goal

pub returns-then-f-eq0 : goal.returns-then-f-eq0
unfolding complete
returns-then-f-eq0 c = rw (eq-eqb _ 0 c.if-f-eq0.true)

pub returns-then-f-eq0-2 : goal.returns-then-f-eq0-2
unfolding complete
returns-then-f-eq0-2 c = rw (ne_eqb _ 0 c.if-f-eq0.false, eq-eqb _ 0 c.if-f-eq0-2.true)

pub returns-then-f-eq0-3 : goal.returns-then-f-eq0-3
unfolding complete
returns-then-f-eq0-3 c =
    rw (
      ne_eqb _ 0 c.if-f-eq0.false,
      ne_eqb _ 0 c.if-f-eq0-2.false,
      eq-eqb _ 0
          c.if-f-eq0-3.true,
    )

pub returns-then-f-eq0-4 : goal.returns-then-f-eq0-4
unfolding complete
returns-then-f-eq0-4 c =
    rw (
      ne_eqb _ 0 c.if-f-eq0.false,
      ne_eqb _ 0
          c.if-f-eq0-2.false,
      ne_eqb _ 0 c.if-f-eq0-3.false,
      eq-eqb _ 0
          c.if-f-eq0-4.true,
    )

pub returns : goal.returns
unfolding complete
returns c =
    rw (
      ne_eqb _ 0 c.if-f-eq0.false,
      ne_eqb _ 0
          c.if-f-eq0-2.false,
      ne_eqb _ 0 c.if-f-eq0-3.false,
      ne_eqb _ 0 c.if-f-eq0-4.false,
    )
