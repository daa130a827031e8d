-- `exports::inner::kdbx4_inner` meets its contract. Assumes nothing.
use mathlib.Core.Path.{◌∙◌}
use Rattle.inner_header.proofs.Laws.Told.{number_read, place_read}
use Rattle.exports.proofs.Laws.{answer_values, answer_no_values}
use Rattle.exports.proofs.inner.kdbx4_inner.Goals as goal

pub returns-then-number-ne0 : goal.returns-then-number-ne0
returns-then-number-ne0 c =
    let a = c.read_header-answer in
    answer_no_values _ a.ensures.result_value (c.number-number.ensures ∙ number_read a.result)
    (c.place.ensures ∙ place_read a.result)
    c.if-number-ne0.true

pub returns : goal.returns
returns c =
    let a = c.read_header-answer in
    answer_values _ a.ensures.result_value (c.number-number.ensures ∙ number_read a.result)
    (c.place.ensures ∙ place_read a.result)
    c.header_values.ensures
    c.if-number-ne0.false
