-- `argon2_fill::places::Place::current` meets its contract. Assumes nothing.
use mathlib.Core.Path.{ap, ◌∙◌}
use Prim.Native.Nat.{ℕ}
use native.Mathlib.Omega.{arith}
use Rattle.argon2_fill.specs.Rfc9106.{block_at}
use Rattle.argon2_fill.specs.State.{figures, position}
use Rattle.argon2_fill.proofs.Laws.Places.{column-lt}
use Rattle.argon2_fill.proofs.places.Place.current.Goals as goal

pub block_at-requires : goal.block_at-requires
block_at-requires c =
    let h = c.args.self.is_open.placed in
    let a = c.args in
    let k = column-lt (figures a.self.f) (position a.self.p) h in
    let e = c.column.ensures in
    record { lane_bound = h.lane; column_bound = omega arith }

pub returns : goal.returns
returns c =
    let a = c.args in
    c.block_at.ensures ∙ ap (λ (n : ℕ). block_at (figures a.self.f) a.self.p.lane n) c.column.ensures
