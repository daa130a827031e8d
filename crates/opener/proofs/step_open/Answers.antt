-- `opener::step_open` meets its contract. Assumes nothing.
use mathlib.Core.Path.{sym, ap, ◌∙◌}
use native.Mathlib.Omega.{arith}
use lib.ListN.{length}
use Rattle.block_stream.specs.declared.Block.{Block}
use Rattle.block_stream.proofs.Laws.Judged.{judge_data, judge_closing}
use Rattle.opening.specs.declared.Phase.TheVariants.{Closed}
use Rattle.opening.specs.Runs.{refuse}
use Rattle.opening.specs.Steps.{blank, step_on, step_in}
use Rattle.opener.proofs.Laws.Replies.{close_does, does_by}
use Rattle.opener.proofs.step_open.Goals as goal

pub returns-in-Refused : goal.returns-in-Refused
unfolding step_in step_on
returns-in-Refused c =
    let a = c.args in
    let d = a.out.now in
    does_by _ (refuse _ (blank Closed)) _ d d
    (ap (λ (b : Block). step_on b a.f.now a.o (length d))
    (sym c.judge.ensures.value ∙ c.in-Refused.is))
    (close_does _ _ _ d c.blank.ensures c.refuse.ensures)

pub step_data-requires : goal.step_data-requires
step_data-requires c =
    let a = c.args in
    let k = judge_data a.o.keys.base a.f.now a.o.number a.o.at _
    (sym c.judge.ensures.value ∙ c.in-Data.is) in
    record {
      f_len_bound = k.limit;
      n_in_bounds = k.inside;
      taken_bound = c.requires;
    }

pub returns-in-Data : goal.returns-in-Data
unfolding step_in
returns-in-Data c =
    let a = c.args in
    let d = a.out.now in
    does_by _ _ _ d _
    (ap (λ (b : Block). step_on b a.f.now a.o (length d))
    (sym c.judge.ensures.value ∙ c.in-Data.is))
    c.step_data.ensures

pub step_closing-requires : goal.step_closing-requires
step_closing-requires c =
    let a = c.args in
    let k = judge_closing a.o.keys.base a.f.now a.o.number a.o.at
    (sym c.judge.ensures.value ∙ c.in-Closing.is) in
    omega (arith, k.inside)

pub returns-in-Closing : goal.returns-in-Closing
unfolding step_in
returns-in-Closing c =
    let a = c.args in
    let d = a.out.now in
    does_by _ _ _ d _
    (ap (λ (b : Block). step_on b a.f.now a.o (length d))
    (sym c.judge.ensures.value ∙ c.in-Closing.is))
    c.step_closing.ensures
