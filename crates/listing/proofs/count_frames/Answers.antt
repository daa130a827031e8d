-- `listing::count_frames` meets its contract. The invariant: those counted, with those left, are all.
-- Assumes nothing.
use mathlib.Core.Path.{◌≡◌, sym, ◌∙◌}
use Prim.Native.Nat.{◌+◌, ◌-◌}
use native.Mathlib.Omega.{arith}
use lib.ListN.{length}
use Rattle.listing.proofs.Laws.Frames.{frame_within, counted_none, counted_more, counted_last, counted_all}
use borrow.Author.Rules.{rules}
use Rattle.listing.proofs.count_frames.Goals as goal

pub loop-init : goal.loop-init
loop-init c =
    let s = c.args.s.now in
    let e : length s - 0 ≡ length s = omega arith in
    rw e (counted_none s (search rules))

pub frame_len-requires : goal.frame_len-requires
frame_len-requires c =
    let l = c.loop in
    let s = c.args.s.now in
    omega (arith, l.invariant.within, frame_within (length s - l.counter) s l.at (search rules))

pub overflow_add-end : goal.overflow_add-end
overflow_add-end c =
    let l = c.loop in
    let s = c.args.s.now in
    omega (arith, c.frame_len.ensures, l.invariant.within, frame_within (length s - l.counter) s l.at (search rules))

pub overflow_add-n : goal.overflow_add-n
overflow_add-n c =
    let l = c.loop in
    let s = c.args.s.now in
    omega (arith, l.invariant.few, l.invariant.within, frame_within (length s - l.counter) s l.at (search rules))

pub returns-then-id-eq0 : goal.returns-then-id-eq0
returns-then-id-eq0 c =
    let l = c.loop in
    let s = c.args.s.now in
    counted_last s l.n l.at (length s - l.counter) l.invariant (search rules)
    (sym c.byte_at-id.ensures ∙ c.if-id-eq0.true)

pub loop-preserved : goal.loop-preserved
loop-preserved c =
    let l = c.loop in
    let s = c.args.s.now in
    let e : length s - (l.counter + 1) ≡ length s - l.counter - 1 = omega arith in
    rw (c.frame_len.ensures, e)
    (counted_more s l.n l.at (length s - l.counter) l.invariant (search rules)
    (λ e. c.if-id-eq0.false (c.byte_at-id.ensures ∙ e)))

pub returns : goal.returns
returns c =
    let l = c.loop in
    counted_all c.args.s.now l.n l.at (length c.args.s.now - l.counter) l.invariant (omega arith)
