-- `argon2_fill::segment::given` meets its contract. Assumes nothing.
use borrow.Author.Tests.{eq-eqb, ne_eqb}
use Rattle.argon2_fill.specs.Rfc9106.{given}
use Rattle.argon2_fill.proofs.segment.given.Goals.{else-pass-eq0-via-then-pass-eq0+else-slice-eq0, else-pass-eq0-via-else-pass-eq0}
use Rattle.argon2_fill.proofs.segment.given.Goals as goal

pub returns-then-slice-eq0 : goal.returns-then-slice-eq0
unfolding given
returns-then-slice-eq0 c =
    let a = c.args in
    rw (eq-eqb a.pass 0 c.if-pass-eq0.true, eq-eqb a.slice 0 c.if-slice-eq0.true)

pub returns : goal.returns
unfolding given
returns c =
    let a = c.args in
    elim c.else-pass-eq0.branch [
      | else-pass-eq0-via-then-pass-eq0+else-slice-eq0 w ↦
          rw (eq-eqb a.pass 0 w.if-pass-eq0.true, ne_eqb a.slice 0 w.if-slice-eq0.false)
      | else-pass-eq0-via-else-pass-eq0 w ↦ rw (ne_eqb a.pass 0 w.if-pass-eq0.false)
    ]
