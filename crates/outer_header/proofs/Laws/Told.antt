-- The number and the place of a reader's answer (crate refusals) are those that its answer says.
--
-- In order: number_said, place_said.
-- Not here: what the answer says (specs, Answers).
-- Assumes nothing.
use mathlib.Core.Path.{◌≡◌, refl}
use Rattle.std.specs.Prelude.{Result, Ok, Err}
use Rattle.refusals.specs.Numbers.{number_of, place_of_answer}
use Rattle.refusals.specs.declared.Refusal.{Refusal}
use Rattle.outer_header.specs.declared.Header.{Header}
use Rattle.outer_header.specs.Answers.{said}

pub number_said : (x : Result Header Refusal) → number_of x ≡ (said x).number
number_said (Ok h) = refl
number_said (Err r) = refl

pub place_said : (x : Result Header Refusal) → place_of_answer x ≡ (said x).place
place_said (Ok h) = refl
place_said (Err r) = refl
