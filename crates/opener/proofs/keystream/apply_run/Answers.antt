-- `opener::keystream::apply_run` meets its contract. Assumes nothing.
use mathlib.Core.Path.{sym, ap₂, ◌∙◌}
use mathlib.Core.List.{List}
use Prim.Native.Nat.{ℕ}
use Rattle.slices.proofs.Laws.Over.{over_whole}
use Rattle.stream.specs.Stream.{apply}
use Rattle.chacha20.specs.Rfc8439.{blocks}
use Rattle.opener.proofs.keystream.apply_run.Goals as goal

pub returns : goal.returns
returns c =
    let a = c.args in
    c.apply.ensures
    ∙ ap₂ (λ (v d : List ℕ). apply (blocks a.keys.key v) a.c d) c.short_nonce.ensures
    (c.copy.ensures ∙ over_whole a.d.now a.out.now (sym c.requires))
