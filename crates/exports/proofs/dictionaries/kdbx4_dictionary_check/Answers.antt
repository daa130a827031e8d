-- `exports::dictionaries::kdbx4_dictionary_check` meets its contract. Assumes nothing.
use Rattle.exports.proofs.Laws.{answer-said}
use Rattle.exports.proofs.dictionaries.kdbx4_dictionary_check.Goals as goal

pub returns : goal.returns
returns c =
    answer-said c.check-answer.ensures.result_value c.verdict_number.ensures c.verdict_place.ensures
