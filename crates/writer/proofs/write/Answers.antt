-- `writer::write` meets its contract. Assumes nothing.
use mathlib.Core.Path.{sym, ap, ◌∙◌}
use mathlib.Core.List.{List}
use Prim.Native.Nat.{ℕ}
use lib.ListN.{length}
use Rattle.slices.specs.Over.{over}
use Rattle.slices.proofs.Laws.Over.{over_nil}
use Rattle.writer.specs.Written.{figures, header_of, file_cut, checked_of}
use Rattle.writer.proofs.Laws.Checks.{checked-sized, writing-refused, shown-refused, writing_as, shown_as}
use Rattle.writer.proofs.write.Goals as goal

pub returns-in-Err : goal.returns-in-Err
unfolding checked_of
returns-in-Err c =
    let a = c.args in
    let given = figures a.minor a.cipher.now a.seed.now a.nonce.now a.figures a.salt.now a.custom.now in
    let b = a.payload.now in
    let d = a.out.now in
    let e = sym c.check.ensures.value ∙ c.in-Err.is in
    record {
      value = writing-refused given a.t b (length d) _ e;
      out_after = sym (over_nil d) ∙ ap (λ (w : List ℕ). over w d) (shown-refused given a.t b (length d) _ e);
    }

pub write_checked-requires : goal.write_checked-requires
write_checked-requires c =
    let a = c.args in
    checked-sized a.minor a.cipher.now a.seed.now a.nonce.now a.figures a.salt.now
    a.custom.now _ (sym c.check.ensures.value ∙ c.in-Ok.is)

pub returns-in-Ok : goal.returns-in-Ok
unfolding checked_of file_cut header_of
returns-in-Ok c =
    let a = c.args in
    let given = figures a.minor a.cipher.now a.seed.now a.nonce.now a.figures a.salt.now a.custom.now in
    let b = a.payload.now in
    let d = a.out.now in
    let e = sym c.check.ensures.value ∙ c.in-Ok.is in
    let h = c.write_checked.ensures in
    let w = h.value ∙ writing_as given _ a.t b (length d) e in
    record {
      value = w;
      out_after = h.out_after ∙ ap (λ (x : List ℕ). over x d) (shown_as given _ a.t b (length d) _ e w);
    }
