-- `inner_header::writer::check_run` meets its contract. The invariant: the verdict on what is left is that on the
-- whole. Assumes nothing.
use mathlib.Core.Path.{◌≡◌, refl, sym, ap, ◌∙◌}
use mathlib.Core.Bool.{false}
use Prim.Native.Nat.{ℕ, ◌+◌, ◌-◌}
use native.Mathlib.Omega.{arith}
use lib.Dec.{eqb}
use lib.ListN.{length}
use Rattle.fields.specs.declared.SizeRule.TheVariants.{AtLeast}
use Rattle.fields.specs.Fields.{field_at}
use Rattle.inner_header.specs.Writer.{Run, run_at, run_in, run_from, run, verdict}
use Rattle.inner_header.proofs.Laws.Run.{run_at_stands, run_from_past, run_from_more, verdict_before}
use borrow.Author.Rules.{rules}
use Rattle.inner_header.proofs.writer.check_run.Goals as goal

pub loop-init : goal.loop-init
unfolding run
loop-init c =
    let z : length c.args.run.now - 0 ≡ length c.args.run.now = omega arith in
    rw z refl

pub returns-then-run-at : goal.returns-then-run-at
unfolding verdict
returns-then-run-at c =
    let l = c.loop in
    let s = c.args.run.now in
    ap (λ (w : Run). verdict w) (sym (run_from_past (length s - l.counter) s l.at c.if-run-at.true)) ∙ l.invariant

pub returns-in-Err : goal.returns-in-Err
unfolding run_at run_in verdict
returns-in-Err c =
    let l = c.loop in
    let s = c.args.run.now in
    let b = c.byte_at.ensures in
    let m =
    run_from_more (length s - l.counter) s l.at c.field_at.result (search rules) (search rules)
    (c.field_at.ensures.value ∙ ap (λ (n : ℕ). field_at (eqb n 3) false (AtLeast 1) s l.at) b) in
    rw c.unplaced.ensures (sym (ap (λ (w : Run). verdict w) (rw c.in-Err.is at m)) ∙ l.invariant)

pub overflow_add-at : goal.overflow_add-at
unfolding run_at
overflow_add-at c =
    let l = c.loop in
    let s = c.args.run.now in
    let b = c.byte_at.ensures in
    let w =
    run_at_stands s l.at c.in-Ok.field-0-0 c.in-Ok.p
    (sym (ap (λ (n : ℕ). field_at (eqb n 3) false (AtLeast 1) s l.at) b) ∙ sym c.field_at.ensures.value ∙ c.in-Ok.is) in
    search rules

pub loop-preserved : goal.loop-preserved
unfolding run_at run_in
loop-preserved c =
    let l = c.loop in
    let s = c.args.run.now in
    let b = c.byte_at.ensures in
    let p = c.in-Ok.p in
    let k = length s - l.counter in
    let m =
    run_from_more k s l.at c.field_at.result (search rules) (search rules)
    (c.field_at.ensures.value ∙ ap (λ (n : ℕ). field_at (eqb n 3) false (AtLeast 1) s l.at) b) in
    let less : length s - (l.counter + 1) ≡ k - 1 = omega arith in
    rw less (sym (verdict_before p (run_from (k - 1) s (p.start + p.length)))
    ∙ sym (ap (λ (w : Run). verdict w) (rw c.in-Ok.is at m)) ∙ l.invariant)

pub returns : goal.returns
unfolding run_from verdict
returns c = let z : length c.args.run.now - c.loop.counter ≡ 0 = omega arith in rw z at c.loop.invariant
