-- `exports::derivation::kdbx4_aes_kdf_finish` meets its contract. Assumes nothing.
use mathlib.Core.Path.{ap, ◌∙◌}
use Rattle.aes_kdf.specs.declared.Transformed.{Transformed}
use Rattle.aes_kdf.specs.State.{finished}
use Rattle.exports.proofs.Laws.{answer-accepted, answer-refused}
use Rattle.exports.proofs.derivation.kdbx4_aes_kdf_finish.Goals as goal

pub returns-in-Ok : goal.returns-in-Ok
returns-in-Ok c =
    let e = c.finish-finished.ensures ∙ ap finished c.unpack.ensures in
    answer-accepted _ (ap (λ (x : Transformed). x.outcome) e) (ap (λ (x : Transformed). x.key) e)
    c.in-Ok.is

pub returns : goal.returns
returns c =
    let e = c.finish-finished.ensures ∙ ap finished c.unpack.ensures in
    answer-refused _ (ap (λ (x : Transformed). x.outcome) e) c.number.ensures c.in_default.is
