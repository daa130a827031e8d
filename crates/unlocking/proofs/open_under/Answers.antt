-- `unlocking::open_under` meets its contract. Assumes nothing.
use mathlib.Core.Path.{◌≡◌, ap, ◌∙◌}
use mathlib.Core.List.{List}
use Prim.Native.Nat.{ℕ}
use lib.ListN.{length}
use Rattle.slices.specs.Over.{over}
use Rattle.stepping.specs.Stepping.{ran_from}
use Rattle.unlocking.specs.Unlocking.{Opened, opening}
use Rattle.unlocking.proofs.Laws.Opening.{steps_refused, steps_opened, under_refused, under_accepted}
use Rattle.unlocking.proofs.open_under.Goals as goal

-- what the steps wrote
written_is : (t f d x : List ℕ) (o : Opened) → x ≡ over (ran_from t f (length d)).bytes d → opening t f (length d) ≡ o
    → x ≡ over o.bytes d
unfolding opening
written_is t f d x o e g = e ∙ ap (λ (z : Opened). over z.bytes d) g

pub returns-in-Err : goal.returns-in-Err
returns-in-Err c =
    let a = c.args in
    let d = a.out.now in
    under_refused a.outcome a.t a.f.now d (length d) _ c.in-Err.is

pub returns-in-Err-open_steps : goal.returns-in-Err-open_steps
returns-in-Err-open_steps c =
    let a = c.args in
    let f = a.f.now in
    let d = a.out.now in
    let o = c.open_steps in
    let g = under_accepted a.outcome a.t f d (length d) c.in-Ok.is in
    record {
      value = steps_refused a.t f d (length d) o.result o.ensures.value _ c.in-Err-open_steps.is
          ∙ ap (λ (z : Opened). z.answer) g;
      out_after = written_is a.t f d _ _ o.ensures.out_after g;
    }

pub returns-in-Ok-open_steps : goal.returns-in-Ok-open_steps
returns-in-Ok-open_steps c =
    let a = c.args in
    let f = a.f.now in
    let d = a.out.now in
    let o = c.open_steps in
    let g = under_accepted a.outcome a.t f d (length d) c.in-Ok.is in
    record {
      value = steps_opened a.t f d (length d) o.result o.ensures.value _ _ _ _ c.in-Ok-open_steps.is
          o.ensures.out_after c.part.ensures c.find_document.ensures
          ∙ ap (λ (z : Opened). z.answer) g;
      out_after = written_is a.t f d _ _ o.ensures.out_after g;
    }
