-- `argon2_block::gb` meets its contract. Assumes nothing.
use Rattle.argon2_block.specs.Rfc9106.{half, gb}
use Rattle.argon2_block.proofs.gb.Goals as goal

pub returns : goal.returns
unfolding half gb
returns c =
    rw (
      c.rotate_right-b2.ensures,
      c.mul_add-c2.ensures,
      c.rotate_right-d2.ensures,
      c.mul_add-a2.ensures,
      c.rotate_right-b1.ensures,
      c.mul_add-c1.ensures,
      c.rotate_right-d1.ensures,
      c.mul_add-a1.ensures,
    )
