-- `refusals::limits::argon2_figures_fit` meets its contract. Assumes nothing.
use mathlib.Core.Path.{sym, ◌∙◌}
use Rattle.refusals.specs.Limits.{argon2_fits}
use Rattle.refusals.proofs.limits.argon2_figures_fit.Goals as goal

pub returns-then-is_within-4 : goal.returns-then-is_within-4
unfolding argon2_fits
returns-then-is_within-4 c =
    rw (
      sym c.is_within.ensures ∙ c.if-is_within.true,
      sym c.is_within-then-is_within.ensures ∙ c.if-is_within-2.true,
      sym c.is_within-then-is_within-2.ensures ∙ c.if-is_within-3.true,
      sym c.is_within-then-is_within-3.ensures ∙ c.if-is_within-4.true,
    )

pub returns-then-is_within-3 : goal.returns-then-is_within-3
unfolding argon2_fits
returns-then-is_within-3 c =
    rw (
      sym c.is_within.ensures ∙ c.if-is_within.true,
      sym c.is_within-then-is_within.ensures ∙ c.if-is_within-2.true,
      sym c.is_within-then-is_within-2.ensures ∙ c.if-is_within-3.true,
      sym c.is_within-then-is_within-3.ensures ∙ c.if-is_within-4.false,
    )

pub returns-then-is_within-2 : goal.returns-then-is_within-2
unfolding argon2_fits
returns-then-is_within-2 c =
    rw (
      sym c.is_within.ensures ∙ c.if-is_within.true,
      sym c.is_within-then-is_within.ensures ∙ c.if-is_within-2.true,
      sym c.is_within-then-is_within-2.ensures ∙ c.if-is_within-3.false,
    )

pub returns-then-is_within : goal.returns-then-is_within
unfolding argon2_fits
returns-then-is_within c =
    rw (
      sym c.is_within.ensures ∙ c.if-is_within.true,
      sym c.is_within-then-is_within.ensures ∙ c.if-is_within-2.false,
    )

pub returns : goal.returns
unfolding argon2_fits
returns c = rw (sym c.is_within.ensures ∙ c.if-is_within.false)
