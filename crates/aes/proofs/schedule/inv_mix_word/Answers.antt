-- `aes::schedule::inv_mix_word` meets its contract. Assumes nothing.
use mathlib.Core.Path.{ap, ◌∙◌}
use Rattle.aes_tables.specs.Tables.{column_word}
use Rattle.aes_tables.proofs.Laws.Columns.{column_word_is}
use borrow.Author.Rules.{rules}
use Rattle.aes.proofs.schedule.inv_mix_word.Goals as goal

pub returns : goal.returns
returns c =
    let subbed = c.sub_word-z in
    let t = c.args.td.now in
    column_word_is t subbed.result c.column.result (search rules) c.column.ensures ∙ ap (column_word t) subbed.ensures
