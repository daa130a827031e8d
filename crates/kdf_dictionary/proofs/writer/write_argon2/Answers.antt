-- `kdf_dictionary::writer::write_argon2` meets its contract. Assumes nothing.
use mathlib.Core.Path.{◌≡◌}
use lib.ListN.{length}
use Rattle.words.specs.Endian.{le_bytes}
use Rattle.kdf_dictionary.proofs.Laws.Layout.{argon2_laid}
use borrow.Author.Rules.{rules}
use Rattle.kdf_dictionary.proofs.writer.write_argon2.Goals as goal

pub returns : goal.returns
unfolding le_bytes
returns c =
    let long_id : length c.args.id ≡ 16 = search rules in
    argon2_laid c.args.id long_id c.args.passes c.args.memory c.args.lanes
    c.args.salt.now c.args.out.now _ _ _ _ c.write_costs.ensures c.put_item.ensures
    c.put_item-2.ensures c.put.ensures
