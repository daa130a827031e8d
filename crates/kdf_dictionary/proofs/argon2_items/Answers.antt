-- `kdf_dictionary::argon2_items` meets its contract. Assumes nothing.
use Rattle.kdf_dictionary.specs.KdfDictionary.{argon2_items}
use Rattle.kdf_dictionary.proofs.argon2_items.Goals as goal

pub returns : goal.returns
unfolding argon2_items
returns c =
    rw (
      c.item_of-lanes.ensures,
      c.item_of-memory.ensures,
      c.item_of-passes.ensures,
      c.item_of-salt.ensures,
      c.item_of-version.ensures,
    )
