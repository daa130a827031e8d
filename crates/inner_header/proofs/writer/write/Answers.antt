-- `inner_header::writer::write` meets its contract. Assumes nothing.
use mathlib.Core.Path.{sym, ◌∙◌}
use lib.ListN.{length}
use Rattle.slices.proofs.Laws.Over.{over_nil}
use Rattle.inner_header.specs.Writer.{writing, due, written_bytes}
use Rattle.inner_header.proofs.Laws.Planned.{planned-wrote}
use borrow.Author.Rules.{rules}
use Rattle.inner_header.proofs.writer.write.Goals as goal

pub returns-in-Err : goal.returns-in-Err
unfolding writing due written_bytes
returns-in-Err c =
    let a = c.args in
    let g = sym c.plan.ensures ∙ c.in-Err.is in
    record {
      value = sym g;
      out_after = rw g (sym (over_nil a.out.now));
    }

pub lay-requires : goal.lay-requires
lay-requires c =
    let a = c.args in
    let w =
    planned-wrote a.algorithm (length a.key.now) a.run.now (length a.document.now)
    (length a.out.now)
    c.in-Ok.n
    (sym c.plan.ensures ∙ c.in-Ok.is) in
    search rules

pub returns-in-Ok : goal.returns-in-Ok
unfolding writing due written_bytes
returns-in-Ok c =
    let g = sym c.plan.ensures ∙ c.in-Ok.is in
    record {
      value = sym g;
      out_after = rw g c.lay.ensures;
    }
