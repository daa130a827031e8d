-- `inner_header::is_repeated` meets its contract. Assumes nothing.
use borrow.Author.Tests.{ne_eqb}
use Rattle.inner_header.specs.InnerHeader.{repeated}
use Rattle.inner_header.proofs.is_repeated.Goals as goal

pub returns-then-id-eq1 : goal.returns-then-id-eq1
unfolding repeated
returns-then-id-eq1 c = rw c.if-id-eq1.true

pub returns-then-id-eq2 : goal.returns-then-id-eq2
unfolding repeated
returns-then-id-eq2 c = rw c.if-id-eq2.true

pub returns : goal.returns
unfolding repeated
returns c = rw (ne_eqb _ 1 c.if-id-eq1.false, ne_eqb _ 2 c.if-id-eq2.false)
