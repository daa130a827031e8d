-- `kdf_dictionary::kdf_of` meets its contract. Assumes nothing.
use Rattle.kdf_dictionary.proofs.kdf_of.Goals as goal

pub returns-in-D : goal.returns-in-D
returns-in-D c = rw c.in-D.is

pub returns-in-Id : goal.returns-in-Id
returns-in-Id c = rw c.in-Id.is
