-- `kdf_dictionary::listed_of` meets its contract. Assumes nothing.
use Rattle.kdf_dictionary.specs.KdfDictionary.{listed_in}
use Rattle.kdf_dictionary.proofs.listed_of.Goals as goal

pub returns-in-Unlisted : goal.returns-in-Unlisted
unfolding listed_in
returns-in-Unlisted c = rw (c.in-Unlisted.is, c.fault_at.ensures)

pub returns-in-AesKdf : goal.returns-in-AesKdf
unfolding listed_in
returns-in-AesKdf c = rw c.in-AesKdf.is c.aes_kdf_of.ensures

pub returns-in-Argon2 : goal.returns-in-Argon2
unfolding listed_in
returns-in-Argon2 c = rw c.in-Argon2.is c.argon2_of.ensures
