-- `inner_header::is_algorithm` meets its contract. Assumes nothing.
use borrow.Author.Tests.{eq-eqb, ne_eqb}
use Rattle.inner_header.proofs.is_algorithm.Goals as goal

pub returns-then-n-eq2 : goal.returns-then-n-eq2
returns-then-n-eq2 c = rw (eq-eqb _ 2 c.if-n-eq2.true)

pub returns : goal.returns
returns c = rw (ne_eqb _ 2 c.if-n-eq2.false)
