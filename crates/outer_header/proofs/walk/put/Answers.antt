-- `outer_header::walk::put` meets its contract. Assumes nothing.
use borrow.Author.Tests.{ne_eqb}
use Rattle.outer_header.specs.Kdbx4Header.{put}
use Rattle.outer_header.proofs.walk.put.Goals as goal

pub returns-then-id-eq2 : goal.returns-then-id-eq2
unfolding put
returns-then-id-eq2 c = rw c.if-id-eq2.true

pub returns-then-id-eq3 : goal.returns-then-id-eq3
unfolding put
returns-then-id-eq3 c = rw c.if-id-eq3.true

pub returns-then-id-eq4 : goal.returns-then-id-eq4
unfolding put
returns-then-id-eq4 c = rw c.if-id-eq4.true

pub returns-then-id-eq7 : goal.returns-then-id-eq7
unfolding put
returns-then-id-eq7 c = rw c.if-id-eq7.true

pub returns-then-id-eq11 : goal.returns-then-id-eq11
unfolding put
returns-then-id-eq11 c = rw c.if-id-eq11.true

pub returns-then-id-eq12 : goal.returns-then-id-eq12
unfolding put
returns-then-id-eq12 c = rw c.if-id-eq12.true

pub returns : goal.returns
unfolding put
returns c =
    rw (
      ne_eqb _ 2 c.if-id-eq2.false,
      ne_eqb _ 3
          c.if-id-eq3.false,
      ne_eqb _ 4 c.if-id-eq4.false,
      ne_eqb _ 7
          c.if-id-eq7.false,
      ne_eqb _ 11 c.if-id-eq11.false,
      ne_eqb _ 12 c.if-id-eq12.false,
    )
