-- `unlocking::open_as` meets its contract. Assumes nothing.
use mathlib.Core.Path.{sym, ◌∙◌}
use lib.ListN.{length}
use Rattle.keys.specs.State.{credential}
use Rattle.unlocking.proofs.Laws.Opening.{as_refused, as_accepted, shows_same}
use Rattle.unlocking.proofs.open_as.Goals as goal

pub returns-in-Err : goal.returns-in-Err
returns-in-Err g c =
    let a = c.args in
    let d = a.out.now in
    as_refused (credential a.password) (credential a.key_file) a.f.now d a.memory.now (length d) _
    (sym c.composite.ensures ∙ c.in-Err.is)

pub returns-in-Ok : goal.returns-in-Ok
returns-in-Ok g c =
    let a = c.args in
    let d = a.out.now in
    shows_same _ _ d _ _ _ c.open_by.ensures
    (as_accepted (credential a.password) (credential a.key_file) a.f.now d a.memory.now (length d) _
    (sym c.composite.ensures ∙ c.in-Ok.is))
