-- `inner_stream::InnerStream::apply` meets its contract. Assumes nothing.
use mathlib.Core.Path.{sym, ◌∙◌}
use native.Mathlib.Omega.{arith}
use lib.ListN.{length}
use Rattle.slices.proofs.Laws.Over.{over_nil}
use Rattle.refusals.proofs.Laws.Limits.{stream_word}
use Rattle.inner_stream.specs.InnerStream.{due}
use Rattle.inner_stream.specs.State.{answer, applied, handed}
use Rattle.inner_stream.proofs.Laws.{planned-wrote, open_cipher}
use Rattle.inner_stream.proofs.InnerStream.apply.Goals as goal

pub write-requires : goal.write-requires
write-requires c =
    open_cipher c.args.self (sym c.is_open.ensures ∙ c.if-is_open.true)

pub behind-requires : goal.behind-requires
behind-requires c =
    let a = c.args in
    let p = planned-wrote a.self.position (length a.bytes.now) (length a.out.now) c.in-Ok.n
    (sym c.write.ensures.value ∙ c.in-Ok.is) in
    let s = stream_word in
    omega arith

pub returns-in-Ok : goal.returns-in-Ok
unfolding answer applied handed due
returns-in-Ok c =
    let t = sym c.is_open.ensures ∙ c.if-is_open.true in
    let g = sym c.write.ensures.value ∙ c.in-Ok.is in
    record {
      value = c.behind.ensures ∙ rw (t, g);
      out_after = rw (t, g) (rw c.in-Ok.is at c.write.ensures.out_after);
    }

pub returns-in-Err : goal.returns-in-Err
unfolding answer applied handed due
returns-in-Err c =
    let t = sym c.is_open.ensures ∙ c.if-is_open.true in
    let g = sym c.write.ensures.value ∙ c.in-Err.is in
    record {
      value = c.keep.ensures ∙ rw (t, g);
      out_after = rw (t, g) (rw c.in-Err.is at c.write.ensures.out_after);
    }

pub returns : goal.returns
unfolding answer applied handed due
returns c =
    let t = sym c.is_open.ensures ∙ c.if-is_open.false in
    record {
      value = c.keep-2.ensures ∙ rw t;
      out_after = rw t (sym (over_nil c.args.out.now));
    }
