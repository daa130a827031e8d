-- `aes_tables::inv_mix_entry` meets its contract. Assumes nothing.
use mathlib.Core.Path.{◌∙◌}
use Rattle.aes_tables.proofs.Laws.Entries.{inv_mix_entry_is}
use borrow.Author.Rules.{rules}
use Rattle.aes_tables.proofs.inv_mix_entry.Goals as goal

pub returns : goal.returns
returns c =
    c.u32_of.ensures
    ∙ inv_mix_entry_is c.args.b c.times2-b2.result c.times2-b4.result c.times2-b8.result (search rules)
    c.times2-b2.ensures c.times2-b4.ensures c.times2-b8.ensures
