-- `ciphers::Cipher::identifier` meets its contract. Assumes nothing.
use Rattle.ciphers.specs.Ciphers.{identifier}
use Rattle.ciphers.proofs.Cipher.identifier.Goals as goal

pub returns-in-Aes256 : goal.returns-in-Aes256
unfolding identifier
returns-in-Aes256 c = rw c.in-Aes256.is

pub returns-in-ChaCha20 : goal.returns-in-ChaCha20
unfolding identifier
returns-in-ChaCha20 c = rw c.in-ChaCha20.is
