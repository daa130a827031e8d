-- `aes_kdf::Transformation::remaining` meets its contract. Assumes nothing.
use mathlib.Core.Path.{sym, ◌∙◌}
use native.Mathlib.Omega.{arith}
use Rattle.aes_kdf.specs.AesKdf.{remaining}
use Rattle.aes_kdf.specs.State.{held}
use Rattle.aes_kdf.proofs.Laws.{open_done}
use Rattle.aes_kdf.proofs.Transformation.remaining.Goals as goal

pub overflow_sub-result : goal.overflow_sub-result
overflow_sub-result c =
    omega (
      arith,
      open_done (held c.args.self)
          (sym c.is_open.ensures ∙ c.if-is_open.true),
    )

pub returns-then-is_open : goal.returns-then-is_open
unfolding remaining
returns-then-is_open c = rw (sym c.is_open.ensures ∙ c.if-is_open.true)

pub returns : goal.returns
unfolding remaining
returns c = rw (sym c.is_open.ensures ∙ c.if-is_open.false)
