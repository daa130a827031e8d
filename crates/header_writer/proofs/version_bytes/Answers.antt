-- `header_writer::version_bytes` meets its contract. Assumes nothing.
use Rattle.words.specs.Endian.{le_bytes}
use Rattle.header_writer.specs.Written.{version_bytes}
use Rattle.header_writer.proofs.version_bytes.Goals as goal

pub returns : goal.returns
unfolding version_bytes le_bytes
returns c = rw c.bytes32-v.ensures
