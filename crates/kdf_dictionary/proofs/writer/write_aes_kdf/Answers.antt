-- `kdf_dictionary::writer::write_aes_kdf` meets its contract. Assumes nothing.
use Rattle.kdf_dictionary.proofs.Laws.Layout.{aes_kdf-laid}
use Rattle.kdf_dictionary.proofs.writer.write_aes_kdf.Goals as goal

pub returns : goal.returns
returns c =
    aes_kdf-laid c.args.seed.now c.args.rounds c.args.out.now _ _ _ _ _ c.bytes64-r.ensures
    c.write_front.ensures c.put_item.ensures c.put_item-2.ensures c.put.ensures
