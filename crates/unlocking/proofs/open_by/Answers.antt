-- `unlocking::open_by` meets its contract. Assumes nothing.
use mathlib.Core.Path.{sym, ◌∙◌}
use lib.ListN.{length}
use Rattle.unlocking.proofs.Laws.Opening.{by_refused, by_read, shows_same}
use Rattle.unlocking.proofs.open_by.Goals as goal

pub returns-in-Err : goal.returns-in-Err
returns-in-Err g c =
    let a = c.args in
    let d = a.out.now in
    by_refused _ a.composite a.f.now d a.memory.now (length d) _
    (sym c.read.ensures.value ∙ c.in-Err.is)

pub open_with-requires : goal.open_with-requires
open_with-requires g c =
    sym c.read.ensures.value ∙ c.in-Ok.is

pub returns-in-Ok : goal.returns-in-Ok
returns-in-Ok g c =
    let a = c.args in
    let d = a.out.now in
    shows_same _ _ d _ _ _ c.open_with.ensures
    (by_read _ a.composite a.f.now d a.memory.now (length d) _
    (sym c.read.ensures.value ∙ c.in-Ok.is))
