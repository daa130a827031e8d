-- `open_whole::text::copy_text` meets its contract. The invariant: the first bytes stand in their place, and what is
-- still to come is the text from the next block on, without the bytes still to skip. Assumes nothing.
use mathlib.Core.Path.{◌≡◌, refl, sym, ap, ◌∙◌}
use mathlib.Core.List.{List, []}
use Prim.Native.Nat.{ℕ, ◌+◌, ◌-◌, ◌≤◌, min}
use native.Mathlib.Omega.{arith}
use lib.ListN.{length, take, drop, length-drop}
use lib.Seq.{drop-nil, length-take-le}
use Rattle.open_whole.specs.Ciphertext.{text}
use Rattle.open_whole.proofs.Laws.Sizes.{block_within, text_skip, text_end}
use Rattle.open_whole.proofs.Laws.Fill.{filling_start, filling_more, filling_end, filling_full}
use Rattle.open_whole.proofs.text.copy_text.Goals as goal

pub loop-done-init : goal.loop-done-init
loop-done-init c =
    let a = c.args in
    filling_start (drop a.skip (text a.f.now a.p)) a.out.now

pub returns-then-n-eq0 : goal.returns-then-n-eq0
returns-then-n-eq0 c =
    let l = c.loop-done in
    let a = c.args in
    let t = drop a.skip (text a.f.now a.p) in
    let e : text a.f.now l.at ≡ [] =
    text_end a.f.now l.at (sym c.block_size-n.ensures ∙ c.if-n-eq0.true) in
    filling_end t (drop l.left (text a.f.now l.at)) a.out.now l.out l.done l.invariant
    (ap (drop l.left) e ∙ drop-nil l.left)

min_l : (s a b : ℕ) → s ≡ min a b → s ≤ a
min_l s a b e = omega arith

min_r : (s a b : ℕ) → s ≡ min a b → s ≤ b
min_r s a b e = omega arith

pub overflow_sub-n : goal.overflow_sub-n
overflow_sub-n c = min_r _ _ _ c.min-s.ensures

pub overflow_add-start-in-loop-done : goal.overflow_add-start-in-loop-done
overflow_add-start-in-loop-done c =
    let there =
    block_within c.args.f.now c.loop-done.at c.block_size-n.result c.block_size-n.ensures c.if-n-eq0.false in
    omega (arith, there, min_r _ _ _ c.min-s.ensures)

pub slice_bounds-copy-start-in-loop-done : goal.slice_bounds-copy-start-in-loop-done
slice_bounds-copy-start-in-loop-done c = omega (arith, min_r _ _ _ c.min-s.ensures)

pub overflow_add-done : goal.overflow_add-done
overflow_add-done c =
    omega (arith, min_l _ _ _ c.min-m.ensures)

pub overflow_sub-left : goal.overflow_sub-left
overflow_sub-left c = min_l _ _ _ c.min-s.ensures

pub loop-done-smaller : goal.loop-done-smaller
loop-done-smaller c =
    let there =
    block_within c.args.f.now c.loop-done.at c.block_size-n.result c.block_size-n.ensures c.if-n-eq0.false in
    omega (arith, there)

-- how long a block's data is behind the bytes to skip
length_part : (f : List ℕ) (p n s : ℕ) → p + 36 + n ≤ length f → s ≤ n
    → length (take (p + 36 + n - (p + 36 + s)) (drop (p + 36 + s) f)) ≡ n - s
length_part f p n s w h =
    let e : p + 36 + n - (p + 36 + s) ≡ n - s = omega arith in
    rw e (length-take-le (n - s) (drop (p + 36 + s) f) (simp length-drop (omega arith)))

pub loop-done-preserved : goal.loop-done-preserved
loop-done-preserved c =
    let there =
    block_within c.args.f.now c.loop-done.at c.block_size-n.result c.block_size-n.ensures c.if-n-eq0.false in
    let l = c.loop-done in
    let a = c.args in
    let f = a.f.now in
    let n = c.block_size-n.result in
    let s = c.min-s.result in
    let t = drop a.skip (text f a.p) in
    let b = take (l.at + 36 + n - (l.at + 36 + s)) (drop (l.at + 36 + s) f) in
    let e : c.min-m.result ≡ min (length l.out - l.done) (length b) =
    c.min-m.ensures
    ∙ ap (min (length l.out - l.done))
    (sym (length_part f l.at n s there (min_r _ _ _ c.min-s.ensures))) in
    filling_more t (drop l.left (text f l.at)) a.out.now l.out l.done l.invariant
    b (drop (l.left - s) (text f (l.at + 36 + n))) c.copy.new.out (length l.out - l.done)
    c.min-m.result
    (text_skip f l.at n l.left s c.block_size-n.ensures c.if-n-eq0.false
    c.min-s.ensures)
    refl c.copy.ensures e

pub returns : goal.returns
returns c =
    let l = c.loop-done in
    let a = c.args in
    let t = drop a.skip (text a.f.now a.p) in
    filling_full t (drop l.left (text a.f.now l.at)) a.out.now l.out l.done l.invariant
    c.loop-done-test.false

pub overflow_add-start : goal.overflow_add-start
overflow_add-start c =
    let there =
    block_within c.args.f.now c.loop-done.at c.block_size-n.result c.block_size-n.ensures c.if-n-eq0.false in
    omega (arith, there)

pub overflow_add-end : goal.overflow_add-end
overflow_add-end c =
    let there =
    block_within c.args.f.now c.loop-done.at c.block_size-n.result c.block_size-n.ensures c.if-n-eq0.false in
    omega (arith, there)

pub overflow_add-end-in-loop-done : goal.overflow_add-end-in-loop-done
overflow_add-end-in-loop-done c =
    let there =
    block_within c.args.f.now c.loop-done.at c.block_size-n.result c.block_size-n.ensures c.if-n-eq0.false in
    omega (arith, there)

pub slice_bounds-copy-end-in-loop-done : goal.slice_bounds-copy-end-in-loop-done
slice_bounds-copy-end-in-loop-done c =
    let there =
    block_within c.args.f.now c.loop-done.at c.block_size-n.result c.block_size-n.ensures c.if-n-eq0.false in
    omega (arith, there)
