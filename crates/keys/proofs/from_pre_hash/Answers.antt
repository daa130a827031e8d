-- `keys::from_pre_hash` meets its contract. Assumes nothing.
use borrow.Author.Tests.{eq-eqb, ne_eqb}
use Rattle.keys.specs.Kdbx4Keys.{composite_of}
use Rattle.keys.proofs.from_pre_hash.Goals as goal

pub returns-then-s-ne32 : goal.returns-then-s-ne32
unfolding composite_of
returns-then-s-ne32 c = rw (ne_eqb _ _ c.if-s-ne32.true)

pub returns : goal.returns
unfolding composite_of
returns c = rw (c.copy_from_slice.ensures.after, eq-eqb _ _ c.if-s-ne32.false)
