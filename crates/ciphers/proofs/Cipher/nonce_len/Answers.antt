-- `ciphers::Cipher::nonce_len` meets its contract. Assumes nothing.
use Rattle.ciphers.specs.Ciphers.{nonce_length}
use Rattle.ciphers.proofs.Cipher.nonce_len.Goals as goal

pub returns-in-Aes256 : goal.returns-in-Aes256
unfolding nonce_length
returns-in-Aes256 c = rw c.in-Aes256.is

pub returns-in-ChaCha20 : goal.returns-in-ChaCha20
unfolding nonce_length
returns-in-ChaCha20 c = rw c.in-ChaCha20.is
