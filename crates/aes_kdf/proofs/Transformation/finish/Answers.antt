-- `aes_kdf::Transformation::finish` meets its contract. Assumes nothing.
use mathlib.Core.Path.{sym, ◌∙◌}
use borrow.Author.Tests.{eq-eqb, ne_eqb}
use Rattle.aes_kdf.specs.AesKdf.{finish}
use Rattle.aes_kdf.proofs.Transformation.finish.Goals.{else-is_open-via-then-is_open+else-self, else-is_open-via-else-is_open}
use Rattle.aes_kdf.proofs.Transformation.finish.Goals as goal

pub returns-then-self : goal.returns-then-self
unfolding finish
returns-then-self c =
    rw (sym c.is_open.ensures ∙ c.if-is_open.true, eq-eqb _ _ c.if-self.true)
    c.joined.ensures

pub returns : goal.returns
unfolding finish
returns c =
    elim c.else-is_open.branch [
      | else-is_open-via-then-is_open+else-self w ↦
          rw (sym c.is_open.ensures ∙ w.if-is_open.true, ne_eqb _ _ w.if-self.false)
      | else-is_open-via-else-is_open w ↦ rw (sym c.is_open.ensures ∙ w.if-is_open.false)
    ]
