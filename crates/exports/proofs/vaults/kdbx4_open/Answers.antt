-- `exports::vaults::kdbx4_open` meets its contract. Assumes nothing.
use mathlib.Core.Path.{ap, ◌∙◌}
use Rattle.exports.proofs.Laws.{answer-wrote, answer_not_written}
use Rattle.refusals.specs.Numbers.{place_of_answer}
use Rattle.exports.proofs.vaults.kdbx4_open.Goals as goal

pub returns-in-Ok : goal.returns-in-Ok
returns-in-Ok c =
    let e = c.open-answer.ensures in
    let a = c.args in
    let x = answer-wrote a.count.now e.value c.in-Ok.is in
    record {
      value = x.value;
      out_after = e.out_after;
      count_after = x.count_after;
      place_after = c.place.ensures ∙ ap place_of_answer e.value;
    }

pub returns-in-Err : goal.returns-in-Err
returns-in-Err c =
    let e = c.open-answer.ensures in
    let a = c.args in
    let x = answer_not_written a.count.now e.value c.number.ensures c.in-Err.is in
    record {
      value = x.value;
      out_after = e.out_after;
      count_after = x.count_after;
      place_after = c.place.ensures ∙ ap place_of_answer e.value;
    }
