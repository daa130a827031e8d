-- `header_writer::is_sized` meets its contract. Assumes nothing.
use Rattle.header_writer.specs.Written.{salt_sized}
use Rattle.header_writer.proofs.is_sized.Goals as goal

pub returns-in-AesKdf : goal.returns-in-AesKdf
unfolding salt_sized
returns-in-AesKdf c = rw c.in-AesKdf.is

pub returns-in-Argon2d : goal.returns-in-Argon2d
unfolding salt_sized
returns-in-Argon2d c = rw c.in-Argon2d.is

pub returns-in-Argon2id : goal.returns-in-Argon2id
unfolding salt_sized
returns-in-Argon2id c = rw c.in-Argon2id.is
