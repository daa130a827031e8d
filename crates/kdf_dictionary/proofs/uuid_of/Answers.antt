-- `kdf_dictionary::uuid_of` meets its contract. Assumes nothing.
use borrow.Author.Tests.{eq-eqb, ne_eqb}
use Rattle.kdf_dictionary.specs.KdfDictionary.{uuid_in, uuid_of}
use Rattle.kdf_dictionary.proofs.uuid_of.Goals as goal

pub returns-then-q-ne16 : goal.returns-then-q-ne16
unfolding uuid_of uuid_in
returns-then-q-ne16 c =
    rw (← c.item_of-q.ensures, ne_eqb _ 16 c.if-q-ne16.true, c.fault_at.ensures)

pub returns : goal.returns
unfolding uuid_of uuid_in
returns c =
    rw (
      ← c.item_of-q.ensures,
      eq-eqb _ 16 c.if-q-ne16.false,
      ← c.part.ensures,
      ← c.identify-kdf.ensures,
    ) c.listed_of.ensures
