-- `aes_tables::times2` meets its contract. Assumes nothing.
use Rattle.aes_tables.proofs.Laws.Entries.{times2_is}
use borrow.Author.Rules.{rules}
use Rattle.aes_tables.proofs.times2.Goals as goal

pub returns : goal.returns
returns c = times2_is c.args.b (search rules)
