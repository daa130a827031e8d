-- `words::be::bytes32` meets its contract. Assumes nothing.
use Rattle.std.proofs.Common.{div-one}
use Rattle.words.specs.Endian.{be_bytes}
use Rattle.words.proofs.be.bytes32.Goals as goal

pub returns : goal.returns
unfolding be_bytes
returns c = rw (div-one, c.to_be_bytes.ensures)
