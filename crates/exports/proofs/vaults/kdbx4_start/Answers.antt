-- `exports::vaults::kdbx4_start` meets its contract. Assumes nothing.
use mathlib.Core.Path.{ap, ◌∙◌}
use Rattle.refusals.specs.Numbers.{number_of, place_of_answer}
use Rattle.states.specs.OpenerState.{packed}
use Rattle.exports.proofs.vaults.kdbx4_start.Goals as goal

pub returns : goal.returns
returns c =
    let e = c.start-s.ensures in
    record {
      value = c.number.ensures ∙ ap number_of e.outcome_value;
      place_after = c.place.ensures ∙ ap place_of_answer e.outcome_value;
      state_after = c.pack.ensures ∙ ap packed e.next_value;
    }
