-- `exports::dictionaries::kdbx4_dictionary_find` meets its contract. Assumes nothing.
use mathlib.Core.Path.{◌∙◌}
use Rattle.dictionary.proofs.Laws.Told.{number_found, place_found}
use Rattle.exports.proofs.Laws.{answer_values, answer_no_values}
use Rattle.exports.proofs.dictionaries.kdbx4_dictionary_find.Goals as goal

pub returns-then-number-ne0 : goal.returns-then-number-ne0
returns-then-number-ne0 c =
    let a = c.find-answer in
    let x = answer_no_values c.args.found.now a.ensures.result_value (c.number-number.ensures ∙ number_found a.result)
    (c.place.ensures ∙ place_found a.result)
    c.if-number-ne0.true in
    record { value = x.value; place_after = x.place_after; found_after = x.figures_after }

pub returns : goal.returns
returns c =
    let a = c.find-answer in
    let x = answer_values c.args.found.now a.ensures.result_value (c.number-number.ensures ∙ number_found a.result)
    (c.place.ensures ∙ place_found a.result)
    c.found_values.ensures
    c.if-number-ne0.false in
    record { value = x.value; place_after = x.place_after; found_after = x.figures_after }
