-- `words::le::bytes64` meets its contract. Assumes nothing.
use Rattle.std.proofs.Common.{shr-shr}
use Rattle.words.specs.Endian.{le_bytes}
use Rattle.words.proofs.le.bytes64.Goals as goal

pub returns : goal.returns
unfolding le_bytes
returns c =
    let x = c.args.x in
    rw (shr-shr x 8 8, shr-shr x 16 8, shr-shr x 24 8, shr-shr x 32 8, shr-shr x 40 8, shr-shr x 48 8, c.to_le_bytes.ensures)
