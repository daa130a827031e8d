-- The number and the place of what a name is found as (crate refusals) are those that the answer says.
--
-- In order: number_found, place_found.
-- Not here: what the answer says (specs, Answers).
-- Assumes nothing.
use mathlib.Core.Path.{◌≡◌, refl}
use Rattle.std.specs.Prelude.{Option, Some, None, Result, Ok, Err}
use Rattle.refusals.specs.Numbers.{number_of, place_of_answer}
use Rattle.refusals.specs.declared.Refusal.{Refusal}
use Rattle.dictionary.specs.declared.Value.{Value}
use Rattle.dictionary.specs.Answers.{said_found}

pub number_found : (x : Result (Option Value) Refusal) → number_of x ≡ (said_found x).number
number_found (Ok (Some v)) = refl
number_found (Ok None) = refl
number_found (Err r) = refl

pub place_found : (x : Result (Option Value) Refusal) → place_of_answer x ≡ (said_found x).place
place_found (Ok (Some v)) = refl
place_found (Ok None) = refl
place_found (Err r) = refl
