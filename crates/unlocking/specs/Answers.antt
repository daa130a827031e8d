-- What an opening's answer says (document 01, "Refusal numbers": "0 is success. A refusal returns its number with zero
-- in every other answer").
--
--   said    where the document starts and ends in the output
-- A refusal's place is one in the payload where the inner header is refused, else one in the file.
-- Not here: what the answer is (Unlocking).
-- Assumes nothing.
use Rattle.std.specs.Prelude.{[], ◌∷◌}
use Rattle.refusals.specs.Numbers.{Said, success, refused}
use Rattle.unlocking.specs.declared.Unlocked.{Unlocked}
use Rattle.unlocking.specs.declared.Unlocked.TheVariants.{Document, Refused, PayloadRefused}

abbrev pub said : Unlocked → Said
said (Document start end) = success (start ∷ end ∷ [])
said (Refused r) = refused 2 r
said (PayloadRefused r) = refused 2 r
