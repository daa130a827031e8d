-- `aes_tables::sub_column` meets its contract. Assumes nothing.
use Rattle.aes_tables.specs.Tables.{sub_column}
use Rattle.aes_tables.proofs.sub_column.Goals as goal

pub returns : goal.returns
unfolding sub_column
returns c = cc
