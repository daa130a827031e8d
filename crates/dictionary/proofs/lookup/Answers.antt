-- `dictionary::lookup` meets its contract. Assumes nothing.
use mathlib.Core.Path.{sym, ap, ◌∙◌}
use Rattle.std.specs.Prelude.{Ok}
use Rattle.dictionary.proofs.Laws.Looked.{looked_at, looked_absent, looked_refused}
use Rattle.dictionary.proofs.lookup.Goals as goal

pub returns-in-Ok-Some : goal.returns-in-Ok-Some
returns-in-Ok-Some c =
    let a = c.args in
    let v = c.in-Ok-Some.v in
    looked_at a.d a.name c.stretch.result v.kind v.start v.length
    (sym c.find.ensures.value ∙ c.in-Ok-Some.is ∙ ap Ok c.in-Ok-Some.field-0-is)
    c.stretch.ensures

pub returns-in-Ok-None : goal.returns-in-Ok-None
returns-in-Ok-None c =
    let a = c.args in
    looked_absent a.d a.name c.stretch-in-Ok-None.result
    (sym c.find.ensures.value ∙ c.in-Ok-None.is ∙ ap Ok c.in-Ok-None.field-0-is)
    c.stretch-in-Ok-None.ensures

pub returns-in-Err : goal.returns-in-Err
returns-in-Err c =
    let a = c.args in
    looked_refused a.d a.name c.stretch-in-Err.result _ (sym c.find.ensures.value ∙ c.in-Err.is)
    c.number.ensures c.place.ensures c.stretch-in-Err.ensures
