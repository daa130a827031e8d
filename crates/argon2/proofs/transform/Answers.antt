-- `argon2::transform` meets its contract. Assumes nothing.
use mathlib.Core.Path.{ap, ◌∙◌}
use Rattle.refusals.specs.Numbers.{Outcome}
use Rattle.argon2.specs.Run.{vault_inputs, left}
use Rattle.argon2.proofs.Laws.Run.{transformed_is}
use Rattle.argon2.proofs.transform.Goals as goal

pub returns : goal.returns
returns c =
    let a = c.args in
    let i = vault_inputs a.kind a.composite a.salt.now a.passes a.bytes a.lanes in
    let e = c.hash-outcome.ensures in
    record {
      value = transformed_is i c.hash-outcome.result _ _ e.value e.out_after;
      memory_after = e.memory_after ∙ ap (λ (o : Outcome). left o i a.memory.now) e.value;
    }
