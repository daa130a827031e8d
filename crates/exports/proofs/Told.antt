-- The number and the place of an answer (crate refusals) are those that the answer says, of the readers and the writer whose
-- answers no exported function hands over: the others' stand in crates dictionary, inner_header and outer_header (Laws.Told).
--
-- In order: number_field, place_field; number_kdf, place_kdf; number_checked, place_checked.
-- Not here: what the answers say (each crate's specs, Answers).
-- Assumes nothing.
use mathlib.Core.Path.{◌≡◌, refl}
use Prim.Native.Nat.{ℕ}
use Rattle.std.specs.Prelude.{Result, Ok, Err}
use Rattle.refusals.specs.Numbers.{number_of, place_of_answer}
use Rattle.refusals.specs.declared.Refusal.{Refusal}
use Rattle.ciphers.specs.declared.Cipher.{Cipher}
use Rattle.fields.specs.declared.Place.{Place}
use Rattle.fields.specs.Answers as field
use Rattle.kdf_dictionary.specs.declared.Kdf.{Kdf}
use Rattle.kdf_dictionary.specs.Answers as kdf
use Rattle.header_writer.specs.Answers as writer

pub number_field : (x : Result (ℕ × Place) Refusal) → number_of x ≡ (field.said x).number
number_field (Ok (id, p)) = refl
number_field (Err r) = refl

pub place_field : (x : Result (ℕ × Place) Refusal) → place_of_answer x ≡ (field.said x).place
place_field (Ok (id, p)) = refl
place_field (Err r) = refl

pub number_kdf : (x : Result Kdf Refusal) → number_of x ≡ (kdf.said x).number
number_kdf (Ok k) = refl
number_kdf (Err r) = refl

pub place_kdf : (x : Result Kdf Refusal) → place_of_answer x ≡ (kdf.said x).place
place_kdf (Ok k) = refl
place_kdf (Err r) = refl

pub number_checked : (x : Result Cipher Refusal) → number_of x ≡ (writer.said x).number
number_checked (Ok c) = refl
number_checked (Err r) = refl

pub place_checked : (x : Result Cipher Refusal) → place_of_answer x ≡ (writer.said x).place
place_checked (Ok c) = refl
place_checked (Err r) = refl
