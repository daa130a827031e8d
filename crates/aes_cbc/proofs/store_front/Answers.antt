-- `aes_cbc::store_front` meets its contract. Assumes nothing.
use lib.Seq.{length-take-le}
use Rattle.slices.specs.Over.{over}
use Rattle.aes_cbc.proofs.store_front.Goals as goal

pub copy_from_slice-requires : goal.copy_from_slice-requires
copy_from_slice-requires c = rw c.store.ensures (length-take-le 16 c.args.out.now c.requires)

pub returns : goal.returns
unfolding over
returns c = rw (c.copy_from_slice.ensures.after, c.store.ensures)
