-- `blake2b::mixing::mix` meets its contract. Assumes nothing.
use Rattle.blake2b.specs.Rfc7693.{half, mix}
use Rattle.blake2b.proofs.mixing.mix.Goals as goal

pub returns : goal.returns
unfolding half mix
returns c =
    rw (
      c.rotate_right-b2.ensures,
      c.rotate_right-d2.ensures,
      c.rotate_right-b1.ensures,
      c.rotate_right-d1.ensures,
    )
