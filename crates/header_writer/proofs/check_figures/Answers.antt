-- `header_writer::check_figures` meets its contract. Assumes nothing.
use mathlib.Core.Path.{◌≡◌, sym, ◌∙◌}
use mathlib.Core.Bool.{Bool, true, false}
use Prim.Native.Nat.{ℕ}
use lib.Dec.{leb}
use Rattle.refusals.specs.Limits.{rounds_least, rounds_limit}
use Rattle.header_writer.specs.Written.{checked_figures}
use Rattle.header_writer.proofs.check_figures.Goals as goal

-- the rounds that are held to the limit are held to the least
held : (n : ℕ) (b d e : Bool) → b ≡ leb n rounds_limit → d ≡ leb rounds_least n → d ≡ e → leb rounds_least n ≡ e
held n b d e g h i = sym h ∙ i

pub returns-then-rounds_suffice : goal.returns-then-rounds_suffice
unfolding checked_figures
returns-then-rounds_suffice c =
    rw (
      c.in-AesKdf.is,
      sym c.rounds_fit.ensures ∙ c.if-rounds_fit.true,
      held _ _ _ true c.rounds_fit.ensures c.rounds_suffice.ensures c.if-rounds_suffice.true,
    ) c.check_custom.ensures

pub returns-then-rounds_fit : goal.returns-then-rounds_fit
unfolding checked_figures
returns-then-rounds_fit c =
    rw (
      c.in-AesKdf.is,
      sym c.rounds_fit.ensures ∙ c.if-rounds_fit.true,
      held _ _ _ false c.rounds_fit.ensures c.rounds_suffice.ensures c.if-rounds_suffice.false,
    )

pub returns-in-AesKdf : goal.returns-in-AesKdf
unfolding checked_figures
returns-in-AesKdf c =
    rw (c.in-AesKdf.is, sym c.rounds_fit.ensures ∙ c.if-rounds_fit.false)

pub returns-then-argon2_figures_fit : goal.returns-then-argon2_figures_fit
unfolding checked_figures
returns-then-argon2_figures_fit c =
    rw (c.in-Argon2d.is, sym c.argon2_figures_fit.ensures ∙ c.if-argon2_figures_fit.true) c.check_custom-then-argon2_figures_fit.ensures

pub returns-in-Argon2d : goal.returns-in-Argon2d
unfolding checked_figures
returns-in-Argon2d c =
    rw (c.in-Argon2d.is, sym c.argon2_figures_fit.ensures ∙ c.if-argon2_figures_fit.false)

pub returns-then-argon2_figures_fit-2 : goal.returns-then-argon2_figures_fit-2
unfolding checked_figures
returns-then-argon2_figures_fit-2 c =
    rw (c.in-Argon2id.is, sym c.argon2_figures_fit-in-Argon2id.ensures ∙ c.if-argon2_figures_fit-2.true) c.check_custom-then-argon2_figures_fit-2.ensures

pub returns-in-Argon2id : goal.returns-in-Argon2id
unfolding checked_figures
returns-in-Argon2id c =
    rw (c.in-Argon2id.is, sym c.argon2_figures_fit-in-Argon2id.ensures ∙ c.if-argon2_figures_fit-2.false)
