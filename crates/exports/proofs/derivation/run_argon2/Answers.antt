-- `exports::derivation::run_argon2` meets its contract. Assumes nothing.
use Rattle.std.specs.Prelude.{Ok}
use mathlib.Core.Path.{◌≡◌, sym, ap, ◌∙◌}
use Rattle.refusals.specs.Numbers.{Outcome}
use Rattle.argon2.specs.Rfc9106.{Inputs, tag}
use Rattle.argon2.specs.Run.{transformed, transformed_key}
use Rattle.argon2.specs.declared.Transformed.{Transformed}
use Rattle.exports.proofs.Laws.{answer-accepted, answer-refused, outcome-transformed, key-transformed}
use Rattle.exports.proofs.derivation.run_argon2.Goals as goal

outcome_of_run : {t : Transformed} {o : Outcome} (i : Inputs) → t ≡ transformed o i → t.outcome ≡ o
outcome_of_run {t} {o} i e = ap (λ (x : Transformed). x.outcome) e ∙ outcome-transformed o i

key_of_run : {t : Transformed} (o : Outcome) (i : Inputs) → t ≡ transformed o i → o ≡ (Ok tt) → t.key ≡ tag i
key_of_run {t} o i e a = ap (λ (x : Transformed). x.key) e ∙ key-transformed o i a

pub returns-in-Ok : goal.returns-in-Ok
unfolding transformed_key
returns-in-Ok c =
    let e = c.transform-transformed.ensures in
    let o = outcome_of_run _ e.value in
    let a = c.in-Ok.is in
    let x = answer-accepted c.args.out.now o (key_of_run _ _ e.value (sym o ∙ a)) a in
    record {
      value = x.value;
      words_after = e.memory_after;
      out_after = x.out_after;
    }

pub returns : goal.returns
returns c =
    let e = c.transform-transformed.ensures in
    let x = answer-refused _ (outcome_of_run _ e.value) c.number.ensures c.in_default.is in
    record {
      value = x.value;
      words_after = e.memory_after;
      out_after = x.out_after;
    }
