-- `aes_tables::inv_sub_column` meets its contract. Assumes nothing.
use Rattle.aes_tables.specs.Tables.{inv_sub_column}
use Rattle.aes_tables.proofs.inv_sub_column.Goals as goal

pub returns : goal.returns
unfolding inv_sub_column
returns c = c.u32_of.ensures
