-- `kdf_dictionary::writer::write_front` meets its contract. Assumes nothing.
use mathlib.Core.Path.{◌≡◌}
use lib.ListN.{length}
use Rattle.kdf_dictionary.proofs.Laws.Layout.{front_laid}
use borrow.Author.Rules.{rules}
use Rattle.kdf_dictionary.proofs.writer.write_front.Goals as goal

pub returns : goal.returns
returns c =
    let long_id : length c.args.id ≡ 16 = search rules in
    front_laid c.args.id long_id c.args.out.now _ _ c.put.ensures c.put_item.ensures
