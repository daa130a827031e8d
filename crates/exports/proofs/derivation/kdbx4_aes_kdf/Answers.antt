-- `exports::derivation::kdbx4_aes_kdf` meets its contract. Assumes nothing.
use mathlib.Core.Path.{sym, ap, ◌∙◌}
use Rattle.aes_kdf.specs.State.{advanced, finished}
use Rattle.aes_kdf.specs.declared.Started.{Started}
use Rattle.aes_kdf.specs.declared.Transformed.{Transformed}
use Rattle.aes_kdf.proofs.Steps.{key_in_one_step, started_within}
use Rattle.exports.proofs.Laws.{answer-accepted, answer-refused}
use Rattle.exports.proofs.derivation.kdbx4_aes_kdf.Goals as goal

pub returns-in-Ok : goal.returns-in-Ok
returns-in-Ok c =
    let a = c.args in
    let k = a.composite.now in
    let s = a.seed.now in
    let r = a.rounds in
    let e = c.start-started.ensures in
    let o = ap (λ (x : Started). x.outcome) e in
    let within = started_within k s r (sym o ∙ c.in-Ok.is) in
    let advance = c.advance.ensures ∙ ap (λ (x : Started). advanced r x.next) e in
    let finish = c.finish.ensures ∙ ap finished advance ∙ key_in_one_step k s r within in
    answer-accepted _ o (ap (λ (x : Transformed). x.key) finish) c.in-Ok.is

pub returns : goal.returns
returns c =
    answer-refused _ (ap (λ (x : Started). x.outcome) c.start-started.ensures) c.number.ensures c.in_default.is
