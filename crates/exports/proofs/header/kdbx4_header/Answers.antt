-- `exports::header::kdbx4_header` meets its contract. Assumes nothing.
use mathlib.Core.Path.{◌∙◌}
use Rattle.outer_header.proofs.Laws.Told.{number_said, place_said}
use Rattle.exports.proofs.Laws.{answer_values, answer_no_values}
use Rattle.exports.proofs.header.kdbx4_header.Goals as goal

pub returns-then-number-ne0 : goal.returns-then-number-ne0
returns-then-number-ne0 c =
    let a = c.read-answer in
    answer_no_values _ a.ensures.result_value (c.number-number.ensures ∙ number_said a.result)
    (c.place.ensures ∙ place_said a.result)
    c.if-number-ne0.true

pub returns : goal.returns
returns c =
    let a = c.read-answer in
    answer_values _ a.ensures.result_value (c.number-number.ensures ∙ number_said a.result)
    (c.place.ensures ∙ place_said a.result)
    c.header_values.ensures
    c.if-number-ne0.false
