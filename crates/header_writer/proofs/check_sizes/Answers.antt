-- `header_writer::check_sizes` meets its contract. Assumes nothing.
use mathlib.Core.Path.{sym, ◌∙◌}
use borrow.Author.Tests.{eq-eqb, ne_eqb}
use Rattle.header_writer.specs.Written.{checked_sizes}
use Rattle.header_writer.proofs.check_sizes.Goals as goal

pub returns-then-seed-ne32 : goal.returns-then-seed-ne32
unfolding checked_sizes
returns-then-seed-ne32 c = rw (ne_eqb _ 32 c.if-seed-ne32.true)

pub returns-then-nonce-nonce_len : goal.returns-then-nonce-nonce_len
unfolding checked_sizes
returns-then-nonce-nonce_len c =
    rw (eq-eqb _ 32 c.if-seed-ne32.false, ← c.nonce_len.ensures, ne_eqb _ _ c.if-nonce-nonce_len.true)

pub returns-then-is_sized : goal.returns-then-is_sized
unfolding checked_sizes
returns-then-is_sized c =
    rw (
      eq-eqb _ 32 c.if-seed-ne32.false,
      ← c.nonce_len.ensures,
      eq-eqb _ _ c.if-nonce-nonce_len.false,
      sym c.is_sized.ensures ∙ c.if-is_sized.true,
    ) c.check_figures.ensures

pub returns : goal.returns
unfolding checked_sizes
returns c =
    rw (
      eq-eqb _ 32 c.if-seed-ne32.false,
      ← c.nonce_len.ensures,
      eq-eqb _ _ c.if-nonce-nonce_len.false,
      sym c.is_sized.ensures ∙ c.if-is_sized.false,
    )
