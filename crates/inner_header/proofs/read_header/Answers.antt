-- `inner_header::read_header` meets its contract. Assumes nothing.
use mathlib.Core.Path.{sym, ◌∙◌}
use Rattle.std.proofs.lemmas.Result.{err_from_is_err_and}
use Rattle.inner_header.specs.InnerHeader.{inner, opened}
use Rattle.inner_header.proofs.Laws.Opened.{inner_of-refused, inner_of_ended}
use Rattle.words.proofs.Laws.Said.{said_too}
use Rattle.inner_header.specs.Answers.{said_read}
use Rattle.inner_header.proofs.read_header.Goals as goal

pub returns-in_err-t : goal.returns-in_err-t
unfolding inner
returns-in_err-t c =
    let s = c.args.payload.now in
    let r = err_from_is_err_and c.from_residual.result c.from_residual.ensures.1 in
    said_too said_read (rw (r.1, r.2) (inner_of-refused 0 s (opened s) _ (sym c.in_err-t.was ∙ c.judge.ensures)))

pub returns : goal.returns
unfolding inner
returns c =
    let s = c.args.payload.now in
    said_too said_read
    (inner_of_ended 0 s (opened s) c.in_ok-t.t c.in_ok-t.document c.u32_at.result (sym c.in_ok-t.was ∙ c.judge.ensures)
    c.u32_at.ensures)
