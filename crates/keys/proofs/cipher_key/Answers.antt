-- `keys::cipher_key` meets its contract. Assumes nothing.
use Rattle.keys.specs.Kdbx4Keys.{cipher_key}
use Rattle.keys.proofs.cipher_key.Goals as goal

pub returns : goal.returns
unfolding cipher_key
returns c = c.hash_two.ensures
