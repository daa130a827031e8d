-- `open_whole::survey::survey` meets its contract. The invariant: what is left of the pass answers what the whole pass
-- answers. A block has 36 bytes at least, so the number and the count stay below the place. Assumes nothing.
use mathlib.Core.Path.{sym, ◌∙◌}
use native.Mathlib.Nat.{sub-zero}
use native.Mathlib.Omega.{arith}
use lib.ListN.{length}
use Rattle.open_whole.proofs.Laws.Sizes.{judge_data, judge_closing}
use Rattle.open_whole.proofs.Laws.Passes.{survey_more, survey-refused, survey_trailing, survey-text}
use borrow.Author.Rules.{rules}
use Rattle.open_whole.proofs.survey.survey.Goals as goal

pub loop-r-init : goal.loop-r-init
loop-r-init c = (search rules, (search rules, (search rules, rw sub-zero)))

pub returns-in-Refused : goal.returns-in-Refused
returns-in-Refused c =
    let l = c.loop-r in
    let a = c.args in
    survey-refused (length a.f.now) a.base a.f.now l.number l.at l.taken l.invariant.0
    c.in-Refused.r (sym c.judge.ensures.value ∙ c.in-Refused.is)
    ∙ l.invariant.1.1.1

-- a block that closes is all there
pub overflow_add-at : goal.overflow_add-at
overflow_add-at c =
    let l = c.loop-r in
    let a = c.args in
    let w =
    (judge_closing a.base a.f.now l.number l.at
    (sym c.judge.ensures.value ∙ c.in-Closing.is)).within in
    omega (arith, w)

pub returns-then-at-f : goal.returns-then-at-f
returns-then-at-f c =
    let l = c.loop-r in
    let a = c.args in
    survey_trailing (length a.f.now) a.base a.f.now l.number l.at l.taken l.invariant.0
    (sym c.judge.ensures.value ∙ c.in-Closing.is) c.if-at-f.true
    ∙ l.invariant.1.1.1

pub returns-in-Closing : goal.returns-in-Closing
returns-in-Closing c =
    let l = c.loop-r in
    let a = c.args in
    survey-text (length a.f.now) a.base a.f.now l.number l.at l.taken l.invariant.0
    (sym c.judge.ensures.value ∙ c.in-Closing.is) c.if-at-f.false
    ∙ l.invariant.1.1.1

pub loop-r-preserved : goal.loop-r-preserved
loop-r-preserved c =
    let there =
    judge_data c.args.base c.args.f.now c.loop-r.number c.loop-r.at c.in-Data.n
    (sym c.judge.ensures.value ∙ c.in-Data.is) in
    let l = c.loop-r in
    let a = c.args in
    let w = there.0.within in
    let m = there.1 in (
      omega (arith, w, m),
      (
        omega (arith, w, m),
        (
          omega (arith, w, m),
          survey_more (length a.f.now) a.base a.f.now l.number l.at l.taken l.invariant.0
              c.in-Data.n (sym c.judge.ensures.value ∙ c.in-Data.is)
              ∙ l.invariant.1.1.1,
        ),
      ),
    )

pub overflow_add-number : goal.overflow_add-number
overflow_add-number c =
    let there =
    judge_data c.args.base c.args.f.now c.loop-r.number c.loop-r.at c.in-Data.n
    (sym c.judge.ensures.value ∙ c.in-Data.is) in
    omega (arith, there.0.within)

pub overflow_add-at-in-Data : goal.overflow_add-at-in-Data
overflow_add-at-in-Data c =
    let there =
    judge_data c.args.base c.args.f.now c.loop-r.number c.loop-r.at c.in-Data.n
    (sym c.judge.ensures.value ∙ c.in-Data.is) in
    omega (arith, there.0.within)

pub overflow_add-at-in-Data-2 : goal.overflow_add-at-in-Data-2
overflow_add-at-in-Data-2 c =
    let there =
    judge_data c.args.base c.args.f.now c.loop-r.number c.loop-r.at c.in-Data.n
    (sym c.judge.ensures.value ∙ c.in-Data.is) in
    omega (arith, there.0.within)

pub overflow_add-taken : goal.overflow_add-taken
overflow_add-taken c =
    let there =
    judge_data c.args.base c.args.f.now c.loop-r.number c.loop-r.at c.in-Data.n
    (sym c.judge.ensures.value ∙ c.in-Data.is) in
    omega (arith, there.0.within)

pub loop-r-smaller : goal.loop-r-smaller
loop-r-smaller c = omega arith
