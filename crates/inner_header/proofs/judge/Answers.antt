-- `inner_header::judge` meets its contract. Assumes nothing.
use mathlib.Core.Path.{sym, ◌∙◌}
use lib.ListN.{length}
use Rattle.std.proofs.lemmas.Result.{err_from_is_err_and}
use Rattle.inner_header.specs.InnerHeader.{no_fields, walk, opened}
use Rattle.inner_header.specs.Tally.{tallied}
use Rattle.inner_header.proofs.Laws.Opened.{judged-refused, judged_faulty, judged_fine}
use Rattle.inner_header.proofs.judge.Goals as goal

pub returns-then-not-payload_fits : goal.returns-then-not-payload_fits
unfolding opened tallied
returns-then-not-payload_fits c = rw (sym c.payload_fits.ensures ∙ c.if-not-payload_fits.true)

pub returns-in_err-t : goal.returns-in_err-t
unfolding opened
returns-in_err-t c =
    let a = c.args in
    let s = a.s.now in
    let r = err_from_is_err_and c.from_residual.result c.from_residual.ensures.1 in
    rw (r.1, r.2, sym c.payload_fits.ensures ∙ c.if-not-payload_fits.false)
    (judged-refused a.index s (walk (length s) no_fields s 0) _ (sym c.in_err-t.was ∙ c.walk.ensures))

pub returns-in-Err : goal.returns-in-Err
unfolding opened
returns-in-Err c =
    let a = c.args in
    let s = a.s.now in
    rw (sym c.payload_fits.ensures ∙ c.if-not-payload_fits.false)
    (judged_faulty a.index s (walk (length s) no_fields s 0) c.in_ok-t.t c.in_ok-t.end c.in-Err.r
    (sym c.in_ok-t.was ∙ c.walk.ensures)
    (sym c.in-Err.is ∙ c.fault.ensures))

pub returns-in-Ok : goal.returns-in-Ok
unfolding opened
returns-in-Ok c =
    let a = c.args in
    let s = a.s.now in
    rw (sym c.payload_fits.ensures ∙ c.if-not-payload_fits.false)
    (judged_fine a.index s (walk (length s) no_fields s 0) c.in_ok-t.t c.in_ok-t.end
    (sym c.in_ok-t.was ∙ c.walk.ensures)
    (sym c.in-Ok.is ∙ c.fault.ensures))
