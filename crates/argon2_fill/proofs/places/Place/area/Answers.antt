-- `argon2_fill::places::Place::area` meets its contract. Assumes nothing.
use mathlib.Core.Path.{sym, ap, ◌∙◌}
use Prim.Native.Nat.{ℕ, ◌+◌, ◌-◌}
use native.Mathlib.Omega.{arith}
use Rattle.argon2_fill.specs.Rfc9106.{reference_lane}
use Rattle.argon2_fill.specs.State.{figures, position}
use Rattle.argon2_fill.proofs.Laws.Reference.{finished_le, finished_open, finished_other, area_own, area_front, area_other}
use Rattle.argon2_fill.proofs.places.Place.area.Goals as goal

pub overflow_add-result : goal.overflow_add-result
overflow_add-result c =
    let o = c.args.self.is_open in
    let a = c.args in
    let k = finished_le (figures a.self.f) (position a.self.p) o.placed in
    let e = c.finished-n.ensures in
    let i = o.placed.index in
    let s = o.placed.fits.short in
    record { fits = omega arith }

pub overflow_sub-result : goal.overflow_sub-result
overflow_sub-result c =
    let o = c.args.self.is_open in
    let a = c.args in
    let k = finished_open (figures a.self.f) (position a.self.p) o in
    let e = c.finished-n.ensures in
    omega arith

pub returns-then-reference_lane-self : goal.returns-then-reference_lane-self
returns-then-reference_lane-self c =
    let a = c.args in
    let f = figures a.self.f in
    let p = position a.self.p in
    let w = a.word in
    ap (λ (n : ℕ). n + a.self.p.index - 1) c.finished-n.ensures
    ∙ sym (area_own f p (reference_lane f p w) (sym c.reference_lane.ensures ∙ c.if-reference_lane-self.true))

pub overflow_sub-result-then-self-eq0 : goal.overflow_sub-result-then-self-eq0
overflow_sub-result-then-self-eq0 c =
    let o = c.args.self.is_open in
    let a = c.args in
    let f = figures a.self.f in
    let p = position a.self.p in
    let g = c.reference_lane.ensures in
    let k = finished_other f p a.word o.placed (λ z. c.if-reference_lane-self.false (g ∙ z)) in
    let e = c.finished-n.ensures in
    omega arith

pub returns-then-self-eq0 : goal.returns-then-self-eq0
returns-then-self-eq0 c =
    let a = c.args in
    let f = figures a.self.f in
    let p = position a.self.p in
    let g = c.reference_lane.ensures in
    ap (λ (n : ℕ). n - 1) c.finished-n.ensures
    ∙ sym (area_front f p (reference_lane f p a.word) (λ z. c.if-reference_lane-self.false (g ∙ z)) c.if-self-eq0.true)

pub returns : goal.returns
returns c =
    let a = c.args in
    let f = figures a.self.f in
    let p = position a.self.p in
    let g = c.reference_lane.ensures in
    c.finished-n.ensures
    ∙ sym (area_other f p (reference_lane f p a.word) (λ z. c.if-reference_lane-self.false (g ∙ z)) c.if-self-eq0.false)
