-- `writer::blocks::text_len` meets its contract. Assumes nothing.
use native.Mathlib.Omega.{arith}
use Rattle.writer.specs.Stretches.{text_length}
use Rattle.writer.proofs.blocks.text_len.Goals as goal

pub overflow_add-result : goal.overflow_add-result
overflow_add-result c = omega (arith, c.requires, c.padding_length.ensures)

pub returns-in-Aes256 : goal.returns-in-Aes256
unfolding text_length
returns-in-Aes256 c = rw (c.in-Aes256.is, c.padding_length.ensures)

pub returns-in-ChaCha20 : goal.returns-in-ChaCha20
unfolding text_length
returns-in-ChaCha20 c = rw c.in-ChaCha20.is
