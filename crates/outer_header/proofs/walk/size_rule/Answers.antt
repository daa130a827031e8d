-- `outer_header::walk::size_rule` meets its contract. Assumes nothing.
use borrow.Author.Tests.{ne_eqb}
use Rattle.outer_header.specs.Kdbx4Header.{size_rule}
use Rattle.outer_header.proofs.walk.size_rule.Goals as goal

pub returns-then-id-eq0 : goal.returns-then-id-eq0
unfolding size_rule
returns-then-id-eq0 c = rw c.if-id-eq0.true

pub returns-then-id-eq2 : goal.returns-then-id-eq2
unfolding size_rule
returns-then-id-eq2 c = rw c.if-id-eq2.true

pub returns-then-id-eq3 : goal.returns-then-id-eq3
unfolding size_rule
returns-then-id-eq3 c = rw c.if-id-eq3.true

pub returns-then-id-eq4 : goal.returns-then-id-eq4
unfolding size_rule
returns-then-id-eq4 c = rw c.if-id-eq4.true

pub returns : goal.returns
unfolding size_rule
returns c =
    rw (
      ne_eqb _ 0 c.if-id-eq0.false,
      ne_eqb _ 2 c.if-id-eq2.false,
      ne_eqb _ 3 c.if-id-eq3.false,
      ne_eqb _ 4 c.if-id-eq4.false,
    )
