-- What each answer says (document 01, "Refusal numbers": "0 is success. A refusal returns its number with zero in every
-- other answer").
--
--   said_read          an inner header: the algorithm, the key's start and length, how many attachments there are, the
--                     document's start
--   said_attachment    an attachment: its flags, its content's start and length
-- Not here: what the answer is (InnerHeader, Writer); a writing's number and length (refusals, Numbers).
-- Assumes nothing.
use Rattle.std.specs.Prelude.{[], ◌∷◌, Result, Ok, Err, ℕ}
use Rattle.refusals.specs.Numbers.{Said, success, refused}
use Rattle.refusals.specs.declared.Refusal.{Refusal}
use Rattle.inner_header.specs.declared.Inner.{Inner}
use Rattle.fields.specs.declared.Place.{Place}

abbrev pub said_read : Result Inner Refusal → Said
said_read (Ok h) =
    success (h.algorithm ∷ h.key.start ∷ h.key.length ∷ h.attachments ∷ h.document ∷ [])
said_read (Err r) = refused 5 r

abbrev pub said_attachment : Result (ℕ × Place) Refusal → Said
said_attachment (Ok (flags, p)) = success (flags ∷ p.start ∷ p.length ∷ [])
said_attachment (Err r) = refused 3 r
