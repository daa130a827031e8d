-- `outer_header::Header::values` meets its contract. Assumes nothing.
use Rattle.outer_header.proofs.Laws.Answers.{values_of_is}
use Rattle.outer_header.proofs.Header.values.Goals as goal

pub returns : goal.returns
returns c =
    values_of_is c.args.self _ _ c.number.ensures c.values-k.ensures
