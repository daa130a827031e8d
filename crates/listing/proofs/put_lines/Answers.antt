-- `listing::put_lines` meets its contract. Assumes nothing.
use mathlib.Core.Path.{◌≡◌, refl, ap, ◌∙◌}
use mathlib.Core.List.{List}
use Prim.Native.Nat.{ℕ, ◌-◌, ◌≤◌}
use native.Mathlib.Omega.{arith}
use lib.ListN.{length, take, drop, length-drop}
use lib.Seq.{length-take-le}
use Rattle.slices.specs.Over.{over}
use Rattle.outer_header.specs.Frames.{fields_end}
use Rattle.outer_header.proofs.Frames.{fields_end-le}
use Rattle.listing.specs.Listing.{hex_line}
use Rattle.listing.proofs.Laws.Text.{length_lines, first_long, lines_joined}
use Rattle.listing.proofs.put_lines.Goals as goal

-- a header has its first frame whole
long : (s : List ℕ) → fields_end (length s) s 12 ≤ length s → 12 ≤ length s
long s h = omega (arith, fields_end-le (length s) s 12)

-- the first frame's line, from what the two callees say
first_is : (s d f x : List ℕ) → f ≡ take 12 s → x ≡ over (hex_line f) d → x ≡ over (hex_line (take 12 s)) d
first_is s d f x e g = g ∙ ap (λ (y : List ℕ). over (hex_line y) d) e

pub put_line-requires : goal.put_line-requires
put_line-requires c =
    let s = c.args.s.now in
    let h = long s c.requires.s_in_bounds in
    let e = ap (λ (f : List ℕ). length f) c.part.ensures ∙ length-take-le 12 s h in
    let l = length_lines s h in
    omega (arith, c.requires.s_in_bounds_2)

pub slice_bounds-put_fields-count : goal.slice_bounds-put_fields-count
slice_bounds-put_fields-count c =
    let s = c.args.s.now in
    let d = c.args.out.now in
    let h = long s c.requires.s_in_bounds in
    let f = first_long s d _ h c.requires.s_in_bounds_2
    (first_is s d _ _ c.part.ensures c.put_line.ensures) in
    let l = length_lines s h in
    omega (arith, c.requires.s_in_bounds_2)

pub slice_bounds-put_fields-start : goal.slice_bounds-put_fields-start
slice_bounds-put_fields-start c = slice_bounds-put_fields-count c

pub put_fields-requires : goal.put_fields-requires
put_fields-requires c =
    let s = c.args.s.now in
    let d = c.args.out.now in
    let h = long s c.requires.s_in_bounds in
    let x = c.put_line.new.out in
    let f = first_long s d x h c.requires.s_in_bounds_2
    (first_is s d _ _ c.part.ensures c.put_line.ensures) in
    let l = length_lines s h in
    let t = length-take-le (length x - 25) (drop 25 x) (simp length-drop (omega arith)) in
    record {
      s_in_bounds = c.requires.s_in_bounds;
      s_in_bounds_2 = rw t (omega (arith, c.requires.s_in_bounds_2));
    }

pub returns : goal.returns
returns c =
    let s = c.args.s.now in
    let d = c.args.out.now in
    let h = long s c.requires.s_in_bounds in
    let x = c.put_line.new.out in
    lines_joined s d x h c.requires.s_in_bounds_2
    (first_is s d _ _ c.part.ensures c.put_line.ensures)
    _ (length x - 25) refl c.put_fields.ensures
