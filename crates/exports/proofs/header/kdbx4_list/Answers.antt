-- `exports::header::kdbx4_list` meets its contract. Assumes nothing.
use Rattle.exports.proofs.Laws.{answer-wrote, answer_not_written}
use Rattle.exports.proofs.header.kdbx4_list.Goals as goal

pub returns-in-Ok : goal.returns-in-Ok
returns-in-Ok c =
    let e = c.list-answer.ensures in
    let a = c.args in
    let x = answer-wrote a.count.now e.value c.in-Ok.is in
    record {
      value = x.value;
      out_after = e.out_after;
      count_after = x.count_after;
    }

pub returns-in-Err : goal.returns-in-Err
returns-in-Err c =
    let e = c.list-answer.ensures in
    let a = c.args in
    let x = answer_not_written a.count.now e.value c.number.ensures c.in-Err.is in
    record {
      value = x.value;
      out_after = e.out_after;
      count_after = x.count_after;
    }
