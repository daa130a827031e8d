-- `argon2_fill::places::Place::previous` meets its contract. Assumes nothing.
use mathlib.Core.Path.{sym, ap, ◌∙◌}
use Prim.Native.Nat.{ℕ, ◌-◌}
use native.Mathlib.Omega.{arith}
use Rattle.argon2_fill.specs.Rfc9106.{block_at}
use Rattle.argon2_fill.specs.State.{figures, position}
use Rattle.argon2_fill.proofs.Laws.Places.{column-lt, previous_first, previous_next}
use Rattle.argon2_fill.proofs.places.Place.previous.Goals as goal

pub returns-then-j-eq0 : goal.returns-then-j-eq0
returns-then-j-eq0 c =
    let a = c.args in
    c.block_at.ensures
    ∙ sym (previous_first (figures a.self.f) (position a.self.p) (sym c.column-j.ensures ∙ c.if-j-eq0.true))

pub block_at-requires-2 : goal.block_at-requires-2
block_at-requires-2 c =
    let h = c.args.self.is_open.placed in
    let a = c.args in
    let k = column-lt (figures a.self.f) (position a.self.p) h in
    let e = c.column-j.ensures in
    record { lane_bound = h.lane; column_bound = omega arith }

pub returns : goal.returns
returns c =
    let a = c.args in
    let e = c.column-j.ensures in
    c.block_at-2.ensures
    ∙ ap (λ (n : ℕ). block_at (figures a.self.f) a.self.p.lane (n - 1)) e
    ∙ sym (previous_next (figures a.self.f) (position a.self.p) (λ z. c.if-j-eq0.false (e ∙ z)))
