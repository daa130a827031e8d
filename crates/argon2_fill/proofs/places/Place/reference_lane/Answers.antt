-- `argon2_fill::places::Place::reference_lane` meets its contract. Assumes nothing.
use mathlib.Core.Path.{sym}
use Rattle.argon2_fill.specs.State.{figures, position}
use Rattle.argon2_fill.proofs.Laws.Reference.{reference_lane_own, reference_lane_next, reference_lane_later}
use Rattle.argon2_fill.proofs.places.Place.reference_lane.Goals.{else-self-eq0-via-then-self-eq0+else-self-eq0-2, else-self-eq0-via-else-self-eq0}
use Rattle.argon2_fill.proofs.places.Place.reference_lane.Goals as goal

pub returns-then-self-eq0-2 : goal.returns-then-self-eq0-2
returns-then-self-eq0-2 c =
    let a = c.args.self in
    sym (reference_lane_own (figures a.f) (position a.p) c.args.word c.if-self-eq0.true c.if-self-eq0-2.true)

pub returns : goal.returns
returns c =
    let a = c.args.self in
    elim c.else-self-eq0.branch [
      | else-self-eq0-via-then-self-eq0+else-self-eq0-2 w ↦
          sym (reference_lane_next (figures a.f) (position a.p) c.args.word w.if-self-eq0.true w.if-self-eq0-2.false)
      | else-self-eq0-via-else-self-eq0 w ↦
          sym (reference_lane_later (figures a.f) (position a.p) c.args.word w.if-self-eq0.false)
    ]
