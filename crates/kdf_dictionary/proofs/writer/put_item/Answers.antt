-- `kdf_dictionary::writer::put_item` meets its contract. Assumes nothing.
use Rattle.kdf_dictionary.proofs.Laws.Layout.{item_laid}
use Rattle.kdf_dictionary.proofs.writer.put_item.Goals as goal

pub returns : goal.returns
returns c =
    item_laid c.args.kind c.args.at c.bytes64-size.result c.args.name.now c.args.value.now
    c.args.out.now _ _ _ c.bytes64-size.ensures c.put.ensures c.put-2.ensures c.put-3.ensures
