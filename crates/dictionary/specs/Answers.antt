-- What each answer says (document 01, "Refusal numbers": "0 is success. A refusal returns its number with zero in every
-- other answer"; "Header": "A name that isn't there is answered as absent, with nothing shown").
--
--   said_verdict    a check: 0, 10 or 6, and no values
--   said_entry      what stands at a place: 1, the type, start and length of name and value; zeros at the last byte; 10
--   said_found      a name: 1, the type, the value's start and length; zeros where a sound dictionary has no such name
-- Not here: what the answers are (Dictionary).
-- Assumes nothing.
use Rattle.std.specs.Prelude.{[], ◌∷◌, replicate, ℕ, Option, Some, None, Result, Ok, Err}
use Rattle.refusals.specs.Numbers.{Said, success, refused}
use Rattle.refusals.specs.declared.Refusal.TheVariants.{BrokenDictionary, Repeated}
use Rattle.dictionary.specs.declared.Fault.TheVariants as fault
use Rattle.dictionary.specs.declared.Fault.{Fault}
use Rattle.dictionary.specs.declared.Value.{Value}
use Rattle.refusals.specs.declared.Refusal.{Refusal}
use Rattle.dictionary.specs.declared.Item.{Item}

abbrev pub said_verdict : Result Unit Fault → Said
said_verdict (Ok tt) = success []
said_verdict (Err (fault.Broken at)) = refused 0 (BrokenDictionary at)
said_verdict (Err (fault.Repeated at)) = refused 0 (Repeated at)

abbrev pub said_entry : Result (Option Item) ℕ → Said
said_entry (Ok (Some i)) =
    success (1 ∷ i.kind ∷ i.name ∷ i.name_len ∷ i.value ∷ i.value_len ∷ [])
said_entry (Ok None) = success (replicate 6 0)
said_entry (Err at) = refused 6 (BrokenDictionary at)

abbrev pub said_found : Result (Option Value) Refusal → Said
said_found (Ok (Some v)) = success (1 ∷ v.kind ∷ v.start ∷ v.length ∷ [])
said_found (Ok None) = success (replicate 4 0)
said_found (Err r) = refused 4 r
