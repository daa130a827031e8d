-- `stepping::run_steps` meets its contract. The invariant: what is handed over stands at the front, and with what the
-- steps that are left hand over it is what all of them do. Assumes nothing.
use mathlib.Core.Path.{◌≡◌, sym, ap, ◌∙◌}
use Prim.Native.Nat.{◌+◌, ◌-◌}
use native.Mathlib.Omega.{arith}
use lib.ListN.{length}
use Rattle.opening.specs.declared.Opener.{Opener}
use Rattle.stepping.proofs.Laws.Stepping.{going_start, count_fits, on_refusal, on_closing, on_data, going_none}
use borrow.Author.Rules.{rules}
use Rattle.stepping.proofs.run_steps.Goals as goal

pub loop-init : goal.loop-init
loop-init c =
    let f = c.args.f.now in
    let e : length f - 0 ≡ length f = omega arith in
    rw e (going_start _ _ _)

pub returns-in-Err : goal.returns-in-Err
returns-in-Err c =
    let l = c.loop in
    let a = c.args in
    on_refusal a.f.now a.out.now _ l.o l.at (length a.f.now - l.counter) l.out l.invariant
    (search rules) _ c.step-s.ensures.out_after _ (sym c.step-s.ensures.answer_value ∙ c.in-Err.is)

pub overflow_add-result : goal.overflow_add-result
overflow_add-result c =
    let l = c.loop in
    let a = c.args in
    let g = count_fits a.f.now a.out.now _ l.o l.at (length a.f.now - l.counter) l.out l.invariant
    (search rules) _ c.step-s.ensures.out_after _
    (sym c.step-s.ensures.answer_value ∙ c.in-Ok.is) in
    omega (arith, g)

pub returns-in-Ended : goal.returns-in-Ended
returns-in-Ended c =
    let l = c.loop in
    let a = c.args in
    on_closing a.f.now a.out.now _ l.o l.at (length a.f.now - l.counter) l.out l.invariant
    (search rules) _ c.step-s.ensures.out_after _
    (sym c.step-s.ensures.answer_value ∙ c.in-Ok.is)
    (sym (ap (λ (z : Opener). z.phase) c.step-s.ensures.next_value) ∙ c.in-Ended.is)

pub overflow_add-at : goal.overflow_add-at
overflow_add-at c =
    let l = c.loop in
    let a = c.args in
    let g = count_fits a.f.now a.out.now _ l.o l.at (length a.f.now - l.counter) l.out l.invariant
    (search rules) _ c.step-s.ensures.out_after _ (sym c.step-s.ensures.answer_value ∙ c.in-Ok.is) in
    omega (arith, g)

pub loop-preserved : goal.loop-preserved
loop-preserved c =
    let l = c.loop in
    let a = c.args in
    let e : length a.f.now - (l.counter + 1) ≡ length a.f.now - l.counter - 1 = omega arith in
    rw e
    (on_data a.f.now a.out.now _ l.o l.at (length a.f.now - l.counter) l.out l.invariant
    (search rules) _ c.step-s.ensures.out_after _ _ (sym c.step-s.ensures.answer_value ∙ c.in-Ok.is)
    c.step-s.ensures.next_value c.in_default.not-Ended)

pub returns : goal.returns
returns c =
    let l = c.loop in
    let a = c.args in
    going_none a.f.now a.out.now _ l.o l.at (length a.f.now - l.counter) l.out l.invariant (omega arith)
