-- `exports::derivation::kdbx4_aes_kdf_advance` meets its contract. Assumes nothing.
use mathlib.Core.Path.{ap, ◌∙◌}
use mathlib.Core.List.{◌++◌}
use Rattle.aes_kdf.specs.declared.Transformation.{Transformation}
use Rattle.aes_kdf.specs.State.{advanced}
use Rattle.states.specs.AesKdfState.{packed}
use Rattle.exports.proofs.derivation.kdbx4_aes_kdf_advance.Goals as goal

pub returns : goal.returns
returns c =
    let n = c.args.n in
    let e = c.advance-next.ensures ∙ ap (advanced n) c.unpack.ensures in
    record {
      state_after = c.pack.ensures ∙ ap packed e;
      done_after = ap (λ (t : Transformation). t.done) e;
      halves_after = c.join.ensures ∙ ap (λ (t : Transformation). t.left ++ t.right) e;
    }
