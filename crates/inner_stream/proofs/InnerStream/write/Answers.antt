-- `inner_stream::InnerStream::write` meets its contract. Assumes nothing.
use mathlib.Core.Path.{◌≡◌, sym, ◌∙◌}
use native.Mathlib.Omega.{arith}
use lib.ListN.{length}
use lib.Seq.{length-take-le}
use Rattle.slices.proofs.Laws.Over.{over_nil}
use Rattle.inner_stream.specs.InnerStream.{due}
use Rattle.inner_stream.specs.State.{covered}
use Rattle.inner_stream.proofs.Laws.{planned-wrote, length-covered, covered_front}
use borrow.Author.Rules.{rules}
use Rattle.inner_stream.proofs.InnerStream.write.Goals as goal

pub returns-in-Err : goal.returns-in-Err
unfolding due
returns-in-Err c =
    let a = c.args in
    let g = sym c.in-Err.is ∙ c.plan.ensures in
    record {
      value = g;
      out_after = sym (over_nil a.out.now);
    }

pub slice_bounds-fill-end : goal.slice_bounds-fill-end
slice_bounds-fill-end c =
    let a = c.args in
    let w =
    planned-wrote a.self.position (length a.bytes.now) (length a.out.now) c.in-Ok.n
    (sym c.plan.ensures ∙ c.in-Ok.is) in
    search rules

pub slice_bounds-fill-end-in-Ok : goal.slice_bounds-fill-end-in-Ok
slice_bounds-fill-end-in-Ok c =
    let a = c.args in
    let w =
    planned-wrote a.self.position (length a.bytes.now) (length a.out.now) c.in-Ok.n
    (sym c.plan.ensures ∙ c.in-Ok.is) in
    sym (length-take-le c.in-Ok.n a.out.now (omega arith))

pub fill-requires : goal.fill-requires
fill-requires c =
    let a = c.args in
    let w =
    planned-wrote a.self.position (length a.bytes.now) (length a.out.now) c.in-Ok.n
    (sym c.plan.ensures ∙ c.in-Ok.is) in
    let l = length-take-le c.in-Ok.n a.out.now (omega arith) in
    search rules

pub returns-in-Ok : goal.returns-in-Ok
unfolding due
returns-in-Ok c =
    let a = c.args in
    let g = sym c.plan.ensures ∙ c.in-Ok.is in
    let w = planned-wrote a.self.position (length a.bytes.now) (length a.out.now) c.in-Ok.n g in
    let v = covered a.self a.bytes.now in
    let l : length v ≡ c.in-Ok.n = length-covered a.self a.bytes.now ∙ sym w.long in
    record {
      value = sym g;
      out_after = covered_front v a.out.now _ c.in-Ok.n c.fill.ensures l;
    }
