-- `kdf_dictionary::unlisted_at` meets its contract. Assumes nothing.
use mathlib.Core.Path.{sym, ◌∙◌}
use borrow.Author.Tests.{eq-eqb, ne_eqb}
use Rattle.kdf_dictionary.specs.KdfDictionary.{unlisted}
use Rattle.kdf_dictionary.proofs.unlisted_at.Goals as goal

pub returns-then-has_item : goal.returns-then-has_item
unfolding unlisted
returns-then-has_item c =
    rw (
      ← c.u32_at.ensures,
      eq-eqb _ 0x13 c.if-u32_at-eq19.true,
      sym c.has_item.ensures ∙ c.if-has_item.true,
    ) c.fault_at.ensures

pub returns-then-u32_at-eq19 : goal.returns-then-u32_at-eq19
unfolding unlisted
returns-then-u32_at-eq19 c =
    rw (
      ← c.u32_at.ensures,
      eq-eqb _ 0x13 c.if-u32_at-eq19.true,
      sym c.has_item.ensures ∙ c.if-has_item.false,
    ) c.fault_at-then-u32_at-eq19.ensures

pub returns : goal.returns
unfolding unlisted
returns c =
    rw (← c.u32_at.ensures, ne_eqb _ 0x13 c.if-u32_at-eq19.false) c.fault_at-2.ensures
