-- `exports::vaults::kdbx4_step` meets its contract. Assumes nothing.
use mathlib.Core.Path.{ap, ◌∙◌}
use lib.ListN.{length}
use Rattle.slices.specs.Over.{over}
use Rattle.opening.specs.declared.Opener.{Opener}
use Rattle.opening.specs.Steps.{step_of}
use Rattle.states.specs.OpenerState.{packed}
use Rattle.exports.proofs.Laws.{answer-wrote, answer_not_written, kept_or-wrote, kept_or_next}
use Rattle.exports.proofs.vaults.kdbx4_step.Goals as goal

pub returns-in-Ok : goal.returns-in-Ok
returns-in-Ok c =
    let a = c.args in
    let f = a.file.now in
    let d = a.out.now in
    let u = c.unpack-o.ensures in
    let e = c.step-s.ensures in
    let w = e.answer_value ∙ ap (λ (o : Opener). (step_of f o (length d)).answer.written) u in
    let b = e.out_after ∙ ap (λ (o : Opener). over (step_of f o (length d)).answer.bytes d) u in
    let s = e.next_value ∙ ap (λ (o : Opener). (step_of f o (length d)).next) u in
    let x = answer-wrote a.count.now w c.in-Ok.is in
    record {
      value = x.value;
      state_after = kept_or-wrote _ x.value (c.pack.ensures ∙ ap packed s);
      out_after = b;
      count_after = x.count_after;
    }

pub returns-in-Err : goal.returns-in-Err
returns-in-Err c =
    let a = c.args in
    let f = a.file.now in
    let d = a.out.now in
    let u = c.unpack-o.ensures in
    let e = c.step-s.ensures in
    let w = e.answer_value ∙ ap (λ (o : Opener). (step_of f o (length d)).answer.written) u in
    let b = e.out_after ∙ ap (λ (o : Opener). over (step_of f o (length d)).answer.bytes d) u in
    let s = e.next_value ∙ ap (λ (o : Opener). (step_of f o (length d)).next) u in
    let x = answer_not_written a.count.now w c.number-number.ensures c.in-Err.is in
    record {
      value = x.value;
      state_after = kept_or_next _ x.value c.if-number-eq17.false c.if-number-eq19.false (c.pack-in-Err.ensures ∙ ap packed s);
      out_after = b;
      count_after = x.count_after;
    }
