-- `aes_kdf::Transformation::advance` meets its contract. Assumes nothing.
use native.Mathlib.Omega.{arith}
use Rattle.aes_kdf.specs.AesKdf.{advanced, half_after}
use Rattle.aes_kdf.specs.State.{held}
use Rattle.aes_kdf.proofs.Laws.{remaining-le, mark-marked}
use Rattle.aes_kdf.proofs.Transformation.advance.Goals as goal

pub overflow_add-result : goal.overflow_add-result
overflow_add-result c =
    omega (
      arith,
      remaining-le (held c.args.self),
      c.least-k.ensures,
      c.remaining.ensures,
    )

pub returns : goal.returns
unfolding advanced half_after
returns c =
    rw (
      c.encrypt_repeated.ensures,
      c.encrypt_repeated-2.ensures,
      c.least-k.ensures,
      c.remaining.ensures,
      mark-marked c.args.self.mark,
    )
