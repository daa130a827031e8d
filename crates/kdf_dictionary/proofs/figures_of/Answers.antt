-- `kdf_dictionary::figures_of` meets its contract. Assumes nothing.
use mathlib.Core.Path.{sym, ◌∙◌}
use Rattle.kdf_dictionary.specs.KdfDictionary.{argon2_figures}
use Rattle.kdf_dictionary.proofs.figures_of.Goals as goal

pub returns-then-argon2_figures_fit : goal.returns-then-argon2_figures_fit
unfolding argon2_figures
returns-then-argon2_figures_fit c =
    rw (
      c.kdf_of.ensures,
      c.place_in-salt.ensures,
      ← c.u32_at-lanes.ensures,
      ← c.u64_at-memory.ensures,
      ← c.u64_at-passes.ensures,
      sym c.argon2_figures_fit.ensures ∙ c.if-argon2_figures_fit.true,
    )

pub returns : goal.returns
unfolding argon2_figures
returns c =
    rw (
      ← c.u32_at-lanes.ensures,
      ← c.u64_at-memory.ensures,
      ← c.u64_at-passes.ensures,
      sym c.argon2_figures_fit.ensures ∙ c.if-argon2_figures_fit.false,
      c.outside_at.ensures,
    )
