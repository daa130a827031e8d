-- The number and the place of a reader's answer (crate refusals) are those that its answer says.
--
-- In order: number_read, place_read of the header; number_attachment, place_attachment.
-- Not here: what the answers say (specs, Answers).
-- Assumes nothing.
use mathlib.Core.Path.{◌≡◌, refl}
use Prim.Native.Nat.{ℕ}
use Rattle.std.specs.Prelude.{Result, Ok, Err}
use Rattle.refusals.specs.Numbers.{number_of, place_of_answer}
use Rattle.refusals.specs.declared.Refusal.{Refusal}
use Rattle.fields.specs.declared.Place.{Place}
use Rattle.inner_header.specs.declared.Inner.{Inner}
use Rattle.inner_header.specs.Answers.{said_read, said_attachment}

pub number_read : (x : Result Inner Refusal) → number_of x ≡ (said_read x).number
number_read (Ok h) = refl
number_read (Err r) = refl

pub place_read : (x : Result Inner Refusal) → place_of_answer x ≡ (said_read x).place
place_read (Ok h) = refl
place_read (Err r) = refl

pub number_attachment : (x : Result (ℕ × Place) Refusal) → number_of x ≡ (said_attachment x).number
number_attachment (Ok (flags, p)) = refl
number_attachment (Err r) = refl

pub place_attachment : (x : Result (ℕ × Place) Refusal) → place_of_answer x ≡ (said_attachment x).place
place_attachment (Ok (flags, p)) = refl
place_attachment (Err r) = refl
