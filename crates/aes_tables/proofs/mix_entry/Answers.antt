-- `aes_tables::mix_entry` meets its contract. Assumes nothing.
use mathlib.Core.Path.{◌∙◌}
use Rattle.aes_tables.proofs.Laws.Entries.{mix_entry_is}
use borrow.Author.Rules.{rules}
use Rattle.aes_tables.proofs.mix_entry.Goals as goal

pub returns : goal.returns
returns c =
    let doubled = c.times2-d in
    c.u32_of.ensures ∙ mix_entry_is c.args.s doubled.result (search rules) doubled.ensures
