-- What a field's answer says (document 01, "Refusal numbers": "0 is success. A refusal returns its number with zero in
-- every other answer").
--
--   said    the field's ID, the start and the length of its value
-- Not here: what the answer is (Fields).
-- Assumes nothing.
use Rattle.std.specs.Prelude.{[], ◌∷◌, ℕ, Result, Ok, Err}
use Rattle.refusals.specs.Numbers.{Said, success, refused}
use Rattle.refusals.specs.declared.Refusal.{Refusal}
use Rattle.fields.specs.declared.Place.{Place}

abbrev pub said : Result (ℕ × Place) Refusal → Said
said (Ok (id, p)) = success (id ∷ p.start ∷ p.length ∷ [])
said (Err r) = refused 3 r
