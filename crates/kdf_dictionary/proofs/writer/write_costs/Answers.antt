-- `kdf_dictionary::writer::write_costs` meets its contract. Assumes nothing.
use mathlib.Core.Path.{◌≡◌}
use lib.ListN.{length}
use Rattle.kdf_dictionary.proofs.Laws.Layout.{costs_laid}
use borrow.Author.Rules.{rules}
use Rattle.kdf_dictionary.proofs.writer.write_costs.Goals as goal

pub returns : goal.returns
returns c =
    let long_id : length c.args.id ≡ 16 = search rules in
    costs_laid c.args.id long_id c.args.passes c.args.memory c.args.lanes
    c.args.out.now _ _ _ _ _ _ _ c.bytes64-i.ensures c.bytes64-m.ensures c.bytes32-p.ensures
    c.write_front.ensures c.put_item.ensures c.put_item-2.ensures c.put_item-3.ensures
