-- `inner_header::rule_of` meets its contract. Assumes nothing.
use borrow.Author.Tests.{ne_eqb}
use Rattle.inner_header.specs.InnerHeader.{rule_of}
use Rattle.inner_header.proofs.rule_of.Goals as goal

pub returns-then-id-eq0 : goal.returns-then-id-eq0
unfolding rule_of
returns-then-id-eq0 c = rw c.if-id-eq0.true

pub returns-then-id-eq1 : goal.returns-then-id-eq1
unfolding rule_of
returns-then-id-eq1 c = rw c.if-id-eq1.true

pub returns-then-id-eq2 : goal.returns-then-id-eq2
unfolding rule_of
returns-then-id-eq2 c = rw c.if-id-eq2.true

pub returns : goal.returns
unfolding rule_of
returns c =
    rw (ne_eqb _ 0 c.if-id-eq0.false, ne_eqb _ 1 c.if-id-eq1.false, ne_eqb _ 2 c.if-id-eq2.false)
