-- `opener::first_prev` meets its contract. Assumes nothing.
use Rattle.opening.specs.Steps.{first_prev}
use Rattle.opener.proofs.first_prev.Goals as goal

pub returns-in-Aes256 : goal.returns-in-Aes256
unfolding first_prev
returns-in-Aes256 c = rw c.in-Aes256.is

pub returns-in-ChaCha20 : goal.returns-in-ChaCha20
unfolding first_prev
returns-in-ChaCha20 c = rw c.in-ChaCha20.is
