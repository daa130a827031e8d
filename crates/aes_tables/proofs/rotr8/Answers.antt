-- `aes_tables::rotr8` meets its contract. Assumes nothing.
use Rattle.aes_tables.proofs.Laws.Columns.{rotr8_bytes}
use borrow.Author.Rules.{rules}
use Rattle.aes_tables.proofs.rotr8.Goals as goal

pub returns : goal.returns
returns c = rotr8_bytes c.args.w (search rules)
