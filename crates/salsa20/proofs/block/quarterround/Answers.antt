-- `salsa20::block::quarterround` meets its contract. Assumes nothing.
use mathlib.Core.Path.{ap}
use lib.Bits.{bit_xor}
use Rattle.salsa20.proofs.Laws.Rounds.{quarterround_is}
use Rattle.salsa20.proofs.block.quarterround.Goals as goal

pub returns : goal.returns
returns c =
    let a = c.args in
    quarterround_is a.y0 a.y1 a.y2 a.y3
    c.plus32.ensures (ap (bit_xor a.y1) c.rotate_left.ensures)
    c.plus32-2.ensures (ap (bit_xor a.y2) c.rotate_left-2.ensures)
    c.plus32-3.ensures (ap (bit_xor a.y3) c.rotate_left-3.ensures)
    c.plus32-4.ensures (ap (bit_xor a.y0) c.rotate_left-4.ensures)
