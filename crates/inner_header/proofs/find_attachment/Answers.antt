-- `inner_header::find_attachment` meets its contract. Assumes nothing.
use mathlib.Core.Path.{sym, ◌∙◌}
use Rattle.std.proofs.lemmas.Result.{err_from_is_err_and}
use Rattle.inner_header.specs.InnerHeader.{attachment, opened}
use Rattle.inner_header.proofs.Laws.Opened.{attachment_of-refused, attachment_of-shown, attachment_of_past, asked_within}
use Rattle.words.proofs.Laws.Said.{said_too}
use Rattle.inner_header.specs.Answers.{said_attachment}
use borrow.Author.Rules.{rules}
use Rattle.inner_header.proofs.find_attachment.Goals as goal

pub returns-in_err-t : goal.returns-in_err-t
unfolding attachment
returns-in_err-t c =
    let a = c.args in
    let s = a.payload.now in
    let r = err_from_is_err_and c.from_residual.result c.from_residual.ensures.1 in
    said_too said_attachment
    (rw (r.1, r.2) (attachment_of-refused a.index s (opened s) _ (sym c.in_err-t.was ∙ c.judge.ensures)))

pub overflow_add-start : goal.overflow_add-start
overflow_add-start c =
    let a = c.args in
    let h =
    asked_within a.index a.payload.now c.in_ok-t.t c.in_ok-t.end (sym c.in_ok-t.was ∙ c.judge.ensures)
    c.if-t-index.false in
    search rules

pub overflow_sub-length : goal.overflow_sub-length
overflow_sub-length c =
    let a = c.args in
    let h =
    asked_within a.index a.payload.now c.in_ok-t.t c.in_ok-t.end (sym c.in_ok-t.was ∙ c.judge.ensures)
    c.if-t-index.false in
    search rules

pub returns-then-t-index : goal.returns-then-t-index
unfolding attachment
returns-then-t-index c =
    let a = c.args in
    let s = a.payload.now in
    said_too said_attachment
    (rw c.end_field.ensures
    (attachment_of_past a.index s (opened s) c.in_ok-t.t c.in_ok-t.end (sym c.in_ok-t.was ∙ c.judge.ensures) c.if-t-index.true))

pub returns : goal.returns
unfolding attachment
returns c =
    let a = c.args in
    let s = a.payload.now in
    said_too said_attachment
    (attachment_of-shown a.index s (opened s) c.in_ok-t.t c.in_ok-t.end c.byte_at-flags.result
    (sym c.in_ok-t.was ∙ c.judge.ensures)
    c.if-t-index.false
    c.byte_at-flags.ensures)
