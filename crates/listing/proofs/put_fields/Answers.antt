-- `listing::put_fields` meets its contract. The invariant: the lines written stand over the front, and the lines of the
-- fields from `at` on are left. Assumes nothing.
use mathlib.Core.Path.{◌≡◌, refl, sym, ap, ◌∙◌}
use mathlib.Core.List.{List}
use Prim.Native.Nat.{ℕ, ◌+◌, ◌-◌}
use native.Mathlib.Omega.{arith}
use lib.ListN.{length, take, drop, length-drop}
use lib.Seq.{length-take-le}
use Rattle.slices.specs.Over.{over}
use Rattle.slices.proofs.Laws.Over.{length_over}
use Rattle.outer_header.specs.Frames.{frame_length}
use Rattle.listing.specs.Listing.{hex_line, field_lines}
use Rattle.listing.proofs.Laws.Frames.{frame_at, frame_within, length-frame_at, laying_none, laying_room, laying_more, laying_last, laying_all}
use borrow.Author.Rules.{rules}
use Rattle.listing.proofs.put_fields.Goals as goal

pub loop-init : goal.loop-init
loop-init c =
    let a = c.args in
    let e : length a.s.now - 0 ≡ length a.s.now = omega arith in
    rw e (laying_none a.s.now a.out.now (search rules))

pub frame_len-n-requires : goal.frame_len-n-requires
frame_len-n-requires c =
    let l = c.loop in
    let s = c.args.s.now in
    omega (arith, l.invariant.within, frame_within (length s - l.counter) s l.at (search rules))

pub slice_bounds-put_line-count : goal.slice_bounds-put_line-count
slice_bounds-put_line-count c = let l = c.loop in omega (arith, l.invariant.to_le, l.invariant.long)

pub slice_bounds-put_line-start : goal.slice_bounds-put_line-start
slice_bounds-put_line-start c = let l = c.loop in omega (arith, l.invariant.to_le, l.invariant.long)

-- what is lent: the tail from `to` on
abbrev tail : ℕ → List ℕ → List ℕ
tail to out = take (length out - to) (drop to out)

-- the part that is written, as the frame that it is
line_is : (s : List ℕ) (at n : ℕ) (f d : List ℕ) → f ≡ take n (drop at s) → n ≡ frame_length s at
    → over (hex_line f) d ≡ over (hex_line (frame_at s at)) d
line_is s at n f d e q = ap (λ (x : List ℕ). over (hex_line x) d) (e ∙ ap (λ (m : ℕ). take m (drop at s)) q)

pub put_line-requires : goal.put_line-requires
put_line-requires c =
    let l = c.loop in
    let a = c.args in
    let s = a.s.now in
    let w = frame_within (length s - l.counter) s l.at (search rules) in
    let i = l.invariant in
    let f = length-frame_at s l.at (omega (arith, i.within)) in
    let e : c.part.result.now ≡ frame_at s l.at =
    c.part.ensures ∙ ap (λ (m : ℕ). take m (drop l.at s)) c.frame_len-n.ensures in
    let r = laying_room s a.out.now l.out l.to l.at (length s - l.counter) i (search rules) in
    let t = length-take-le (length l.out - l.to) (drop l.to l.out) (simp length-drop (omega arith)) in
    rw (e, f, t) (omega (arith, i.long))

pub returns-then-byte_at-eq0 : goal.returns-then-byte_at-eq0
returns-then-byte_at-eq0 c =
    let l = c.loop in
    let a = c.args in
    let p = c.part.ensures in
    let f = c.frame_len-n.ensures in
    let v = c.put_line.ensures
    ∙ line_is a.s.now l.at _ _ (tail l.to l.out) p f in
    laying_last a.s.now a.out.now l.out l.to l.at (length a.s.now - l.counter) l.invariant (search rules) (search rules)
    (length l.out - l.to) _ refl v (sym c.byte_at.ensures ∙ c.if-byte_at-eq0.true)

pub shape_of-out-then-byte_at-eq0 : goal.shape_of-out-then-byte_at-eq0
shape_of-out-then-byte_at-eq0 c =
    let a = c.args in
    ap (λ (x : List ℕ). length x) (returns-then-byte_at-eq0 c) ∙ length_over (field_lines a.s.now) a.out.now (search rules)

pub overflow_mul-to : goal.overflow_mul-to
overflow_mul-to c =
    let l = c.loop in
    let a = c.args in
    let r = laying_room a.s.now a.out.now l.out l.to l.at (length a.s.now - l.counter) l.invariant (search rules) in
    omega (arith, c.frame_len-n.ensures)

pub overflow_add-to : goal.overflow_add-to
overflow_add-to c =
    let l = c.loop in
    let a = c.args in
    let r = laying_room a.s.now a.out.now l.out l.to l.at (length a.s.now - l.counter) l.invariant (search rules) in
    omega (arith, c.frame_len-n.ensures)

pub overflow_add-to-in-loop : goal.overflow_add-to-in-loop
overflow_add-to-in-loop c =
    let l = c.loop in
    let a = c.args in
    let r = laying_room a.s.now a.out.now l.out l.to l.at (length a.s.now - l.counter) l.invariant (search rules) in
    omega (arith, c.frame_len-n.ensures)

pub overflow_add-at : goal.overflow_add-at
overflow_add-at c =
    let l = c.loop in
    let a = c.args in
    let w = frame_within (length a.s.now - l.counter) a.s.now l.at (search rules) in
    omega (arith, l.invariant.within, c.frame_len-n.ensures)

pub loop-preserved : goal.loop-preserved
loop-preserved c =
    let l = c.loop in
    let a = c.args in
    let p = c.part.ensures in
    let f = c.frame_len-n.ensures in
    let v = c.put_line.ensures
    ∙ line_is a.s.now l.at _ _ (tail l.to l.out) p f in
    let e : length a.s.now - (l.counter + 1) ≡ length a.s.now - l.counter - 1 = omega arith in
    rw (c.frame_len-n.ensures, e)
    (laying_more a.s.now a.out.now l.out l.to l.at (length a.s.now - l.counter) l.invariant (search rules) (search rules)
    (length l.out - l.to) _ refl v (λ e. c.if-byte_at-eq0.false (c.byte_at.ensures ∙ e)))

pub shape_of-out : goal.shape_of-out
shape_of-out c = c.loop.invariant.long

pub returns : goal.returns
returns c =
    let l = c.loop in
    let a = c.args in
    laying_all a.s.now a.out.now l.out l.to l.at (length a.s.now - l.counter) l.invariant (omega arith)
