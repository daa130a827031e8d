-- `argon2_fill::places::Place::reference` meets its contract. Assumes nothing.
use Prim.Native.Nat.{◌+◌, ◌*◌, ◌%◌, ◌<◌}
use native.Mathlib.Nat.{mod-lt}
use native.Mathlib.Omega.{arith}
use Rattle.argon2_fill.specs.Rfc9106.{reference_lane}
use Rattle.argon2_fill.specs.State.{figures, position}
use Rattle.argon2_fill.proofs.Laws.Reference.{area-ge, area-le, first_le, relative-lt, reference_lane-lt, reference_is}
use Rattle.argon2_fill.proofs.places.Place.reference.Goals as goal

pub relative-z-requires : goal.relative-z-requires
relative-z-requires c =
    let o = c.args.self.is_open in
    let a = c.args in
    let f = figures a.self.f in
    let p = position a.self.p in
    let g = area-ge f p a.word o in
    let l = area-le f p (reference_lane f p a.word) o.placed in
    let e = c.area-w.ensures in
    let s = o.placed.fits.short in
    (omega arith, (omega arith, omega arith))

pub overflow_add-first : goal.overflow_add-first
overflow_add-first c =
    let o = c.args.self.is_open in
    let a = c.args in
    let f = figures a.self.f in
    let p = position a.self.p in
    let g = area-ge f p a.word o in
    let l = area-le f p (reference_lane f p a.word) o.placed in
    let e = c.area-w.ensures in
    let n = c.first.ensures in
    let k = first_le f p in
    let s = o.placed.fits.short in
    let z = c.relative-z.ensures in
    let r = relative-lt c.area-w.result (a.word % 4294967296) (omega arith) in
    record { fits = omega arith }

pub block_at-requires : goal.block_at-requires
block_at-requires c =
    let o = c.args.self.is_open in
    let a = c.args in
    let e = c.reference_lane-lane.ensures in
    let k = reference_lane-lt (figures a.self.f) (position a.self.p) a.word o.placed in
    let q : 0 < 4 * a.self.f.segment = let l = o.placed.fits.long in omega arith in
    record { lane_bound = omega arith; column_bound = mod-lt (c.first.result + c.relative-z.result) q }

pub returns : goal.returns
returns c =
    let a = c.args in
    reference_is (figures a.self.f) (position a.self.p) a.word _ _ _ _ _ c.reference_lane-lane.ensures
    c.area-w.ensures c.relative-z.ensures c.first.ensures c.block_at.ensures
