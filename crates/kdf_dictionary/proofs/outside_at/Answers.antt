-- `kdf_dictionary::outside_at` meets its contract. Assumes nothing.
use mathlib.Core.Path.{sym, ◌∙◌}
use Rattle.kdf_dictionary.specs.KdfDictionary.{outside}
use Rattle.kdf_dictionary.proofs.outside_at.Goals as goal

pub returns-then-lanes_fit : goal.returns-then-lanes_fit
unfolding outside
returns-then-lanes_fit c =
    rw (
      sym c.salt_fits.ensures ∙ c.if-salt_fits.true,
      sym c.passes_fit.ensures ∙ c.if-passes_fit.true,
      sym c.memory_fits.ensures ∙ c.if-memory_fits.true,
      sym c.lanes_fit.ensures ∙ c.if-lanes_fit.true,
    ) c.fault_at.ensures

pub returns-then-memory_fits : goal.returns-then-memory_fits
unfolding outside
returns-then-memory_fits c =
    rw (
      sym c.salt_fits.ensures ∙ c.if-salt_fits.true,
      sym c.passes_fit.ensures ∙ c.if-passes_fit.true,
      sym c.memory_fits.ensures ∙ c.if-memory_fits.true,
      sym c.lanes_fit.ensures ∙ c.if-lanes_fit.false,
    ) c.fault_at-then-memory_fits.ensures

pub returns-then-passes_fit : goal.returns-then-passes_fit
unfolding outside
returns-then-passes_fit c =
    rw (
      sym c.salt_fits.ensures ∙ c.if-salt_fits.true,
      sym c.passes_fit.ensures ∙ c.if-passes_fit.true,
      sym c.memory_fits.ensures ∙ c.if-memory_fits.false,
    ) c.fault_at-then-passes_fit.ensures

pub returns-then-salt_fits : goal.returns-then-salt_fits
unfolding outside
returns-then-salt_fits c =
    rw (sym c.salt_fits.ensures ∙ c.if-salt_fits.true, sym c.passes_fit.ensures ∙ c.if-passes_fit.false)
    c.fault_at-then-salt_fits.ensures

pub returns : goal.returns
unfolding outside
returns c =
    rw (sym c.salt_fits.ensures ∙ c.if-salt_fits.false) c.fault_at-2.ensures
