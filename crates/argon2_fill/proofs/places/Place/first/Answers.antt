-- `argon2_fill::places::Place::first` meets its contract. Assumes nothing.
use mathlib.Core.Path.{sym, ◌∙◌}
use Rattle.argon2_fill.specs.State.{figures, position}
use Rattle.argon2_fill.proofs.Laws.Reference.{first_front, first_later}
use Rattle.argon2_fill.proofs.places.Place.first.Goals as goal

pub returns-then-self-eq0 : goal.returns-then-self-eq0
returns-then-self-eq0 c =
    let a = c.args in
    sym (first_front (figures a.self.f) (position a.self.p) c.if-self-eq0.true)

pub returns : goal.returns
returns c =
    let a = c.args in
    c.times.ensures.0 ∙ sym (first_later (figures a.self.f) (position a.self.p) c.if-self-eq0.false)
