-- `stepping::open_steps` meets its contract. Assumes nothing.
use lib.ListN.{length}
use Rattle.stepping.proofs.Laws.Stepping.{ran_refused, ran_accepted}
use Rattle.stepping.proofs.open_steps.Goals as goal

pub returns-in-Err : goal.returns-in-Err
returns-in-Err c =
    let a = c.args in
    ran_refused a.t a.f.now a.out.now (length a.out.now) _ _ c.start-s.ensures.outcome_value
    c.in-Err.is

pub returns-in-Ok : goal.returns-in-Ok
returns-in-Ok c =
    let a = c.args in
    let g = c.run_steps.ensures in
    ran_accepted a.t a.f.now a.out.now _ (length a.out.now) _ _ _ c.start-s.ensures.outcome_value
    c.start-s.ensures.next_value c.in-Ok.is g.value g.out_after
