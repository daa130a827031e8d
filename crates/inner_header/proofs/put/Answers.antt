-- `inner_header::put` meets its contract. Assumes nothing.
use borrow.Author.Tests.{eq-eqb, ne_eqb}
use Rattle.inner_header.specs.Tally.{put_tally}
use Rattle.inner_header.proofs.put.Goals as goal

pub returns-then-id-eq1 : goal.returns-then-id-eq1
unfolding put_tally
returns-then-id-eq1 c = rw c.if-id-eq1.true

pub returns-then-id-eq2 : goal.returns-then-id-eq2
unfolding put_tally
returns-then-id-eq2 c = rw c.if-id-eq2.true

pub returns-then-t-index : goal.returns-then-t-index
unfolding put_tally
returns-then-t-index c = rw (c.if-id-eq3.true, eq-eqb _ _ c.if-t-index.true)

pub returns-then-id-eq3 : goal.returns-then-id-eq3
unfolding put_tally
returns-then-id-eq3 c = rw (c.if-id-eq3.true, ne_eqb _ _ c.if-t-index.false)

pub returns : goal.returns
unfolding put_tally
returns c =
    rw (ne_eqb _ 1 c.if-id-eq1.false, ne_eqb _ 2 c.if-id-eq2.false, ne_eqb _ 3 c.if-id-eq3.false)
