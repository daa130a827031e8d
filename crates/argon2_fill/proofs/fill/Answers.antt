-- `argon2_fill::fill` meets its contract. Assumes nothing.
use mathlib.Core.Path.{sym, ◌∙◌}
use lib.ListN.{length}
use Rattle.argon2_fill.specs.State.{figures}
use Rattle.argon2_fill.proofs.Laws.Filled.{accepts-fits, accepts_room, filled_is, filled-not}
use Rattle.argon2_fill.proofs.fill.Goals as goal

pub invariant_of-filling : goal.invariant_of-filling
invariant_of-filling c =
    let a = c.args in
    record { fits = accepts-fits (figures a.f) (length a.memory.now) (sym c.fits.ensures ∙ c.if-fits.true) }

pub fill_passes-requires : goal.fill_passes-requires
fill_passes-requires c =
    let a = c.args in
    record { room = accepts_room (figures a.f) (length a.memory.now) (sym c.fits.ensures ∙ c.if-fits.true) }

pub returns-then-fits : goal.returns-then-fits
returns-then-fits c =
    let a = c.args in
    c.fill_passes.ensures
    ∙ sym (filled_is (figures a.f) a.memory.now (sym c.fits.ensures ∙ c.if-fits.true))

pub returns-else-fits : goal.returns-else-fits
returns-else-fits c =
    let a = c.args in
    sym (filled-not (figures a.f) a.memory.now (sym c.fits.ensures ∙ c.if-fits.false))
