-- What the code keeps of an inner header's fields: not the list of attachments, but their number and the place of the
-- one that is asked for.
--
-- Not here: the fields themselves (InnerHeader).
-- Assumes nothing.
use Rattle.std.specs.Prelude.{cond, ℕ, ◌+◌, eqb, length, get_or, Result, Ok, Err}
use Rattle.fields.specs.declared.Place.{Place}
use Rattle.fields.specs.Fields.{nowhere}
use Rattle.inner_header.specs.declared.Tally.{Tally}
use Rattle.refusals.specs.declared.Refusal.{Refusal}
use Rattle.inner_header.specs.InnerHeader.{Fields, Walked, ended, refused}

-- the tally of some fields, where the attachment of index i is asked for
abbrev pub tally_of : ℕ → Fields → Tally
tally_of i f =
    record {
      algorithm = f.algorithm;
      key = f.key;
      attachments = length f.attachments;
      asked = get_or f.attachments i nowhere;
    }

unfoldable pub tallied : ℕ → Walked → Result (Tally × ℕ) Refusal
tallied i (ended f end) = Ok (tally_of i f, end)
tallied i (refused r) = Err r

-- a tally with one field more
unfoldable pub put_tally : Tally → ℕ → ℕ → Place → Tally
put_tally t i id p =
    record {
      algorithm = cond (eqb id 1) p t.algorithm;
      key = cond (eqb id 2) p t.key;
      attachments = cond (eqb id 3) (t.attachments + 1) t.attachments;
      asked = cond (eqb id 3) (cond (eqb t.attachments i) p t.asked) t.asked;
    }
