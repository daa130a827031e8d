-- `listing::put_place` meets its contract. Assumes nothing.
use mathlib.Core.Path.{refl}
use Prim.Native.Nat.{◌≤◌}
use native.Mathlib.Omega.{arith}
use lib.ListN.{length, length-set}
use Rattle.slices.proofs.Laws.Over.{over_sets}
use Rattle.listing.proofs.Laws.Places.{front, placed_long, placed_kept, placed_stands}
use borrow.Author.Rules.{rules}
use Rattle.listing.proofs.put_place.Goals as goal

pub bounds-out-k : goal.bounds-out-k
bounds-out-k c =
    let d = c.args.out.now in
    let h : 4 ≤ length d = omega (arith, c.requires) in
    let l = placed_long c.args.n c.args.digits.now d _ _ _ c.requires (over_sets (front c.args.n) d h) refl c.copy.ensures in
    omega (arith, l, c.requires)

pub shape_of-out : goal.shape_of-out
shape_of-out c =
    let d = c.args.out.now in
    let h : 4 ≤ length d = omega (arith, c.requires) in
    placed_kept c.args.n c.args.digits.now d _ _ _ c.requires (over_sets (front c.args.n) d h) refl c.copy.ensures

pub returns : goal.returns
returns c =
    let d = c.args.out.now in
    let h : 4 ≤ length d = omega (arith, c.requires) in
    placed_stands c.args.n c.args.digits.now d _ _ _ c.requires (over_sets (front c.args.n) d h) refl c.copy.ensures

pub bounds-out-1 : goal.bounds-out-1
bounds-out-1 c = simp length-set (search rules)

pub bounds-out-2 : goal.bounds-out-2
bounds-out-2 c = simp length-set (search rules)

pub bounds-out-3 : goal.bounds-out-3
bounds-out-3 c = simp length-set (search rules)

pub slice_bounds-copy-count : goal.slice_bounds-copy-count
slice_bounds-copy-count c = simp length-set (search rules)

pub slice_bounds-copy-start : goal.slice_bounds-copy-start
slice_bounds-copy-start c = simp length-set (search rules)
