-- `exports::streams::kdbx4_inner_stream_apply` meets its contract. Assumes nothing.
use mathlib.Core.Path.{ap, ◌∙◌}
use lib.ListN.{length}
use Rattle.slices.specs.Over.{over}
use Rattle.inner_stream.specs.State.{applied, handed}
use Rattle.inner_stream.specs.declared.InnerStream.{InnerStream}
use Rattle.inner_stream.specs.declared.Applied.{Applied}
use Rattle.states.specs.InnerStreamState.{packed}
use Rattle.exports.proofs.Laws.{answer-wrote, answer_not_written, kept_wrote, kept_refused}
use Rattle.exports.proofs.streams.kdbx4_inner_stream_apply.Goals as goal

pub returns-in-Ok : goal.returns-in-Ok
returns-in-Ok c =
    let a = c.args in
    let b = a.bytes.now in
    let d = a.out.now in
    let u = c.unpack-s.ensures in
    let e = c.apply-applied.ensures in
    let x = e.value ∙ ap (λ (s : InnerStream). applied s b (length d)) u in
    let o = e.out_after ∙ ap (λ (s : InnerStream). over (handed s b (length d)) d) u in
    let w = ap (λ (y : Applied). y.written) x in
    let n = ap (λ (y : Applied). packed y.next) x in
    let g = c.in-Ok.is in
    let r = answer-wrote a.count.now w g in
    record {
      value = r.value;
      state_after = kept_wrote _ w g (c.pack.ensures ∙ n);
      out_after = o;
      count_after = r.count_after;
    }

pub returns-in-Err : goal.returns-in-Err
returns-in-Err c =
    let a = c.args in
    let b = a.bytes.now in
    let d = a.out.now in
    let u = c.unpack-s.ensures in
    let e = c.apply-applied.ensures in
    let x = e.value ∙ ap (λ (s : InnerStream). applied s b (length d)) u in
    let o = e.out_after ∙ ap (λ (s : InnerStream). over (handed s b (length d)) d) u in
    let w = ap (λ (y : Applied). y.written) x in
    let g = c.in-Err.is in
    let r = answer_not_written a.count.now w c.number.ensures g in
    record {
      value = r.value;
      state_after = kept_refused _ w g;
      out_after = o;
      count_after = r.count_after;
    }
