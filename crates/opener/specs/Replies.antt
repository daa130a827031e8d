-- How a step's answer, the state that it gives and the lent slice stand for a reply of crate opening.
-- Assumes nothing.
use Rattle.std.specs.Prelude.{◌≡◌, List, ℕ}
use Rattle.slices.specs.Over.{over}
use Rattle.opening.specs.declared.Opener.{Opener}
use Rattle.opening.specs.declared.Stepped.{Stepped}
use Rattle.opening.specs.Runs.{Reply}

-- the answer and the next state, without the bytes
abbrev pub stepped : Reply Opener → Stepped
stepped q = record { answer = q.answer.written; next = q.next }

-- a step gives r and leaves `after` in a slice that held `before`
pub record Does (q : Reply Opener) (r : Stepped) (before after : List ℕ) : Type 0 where
  pub gives : r ≡ stepped q
  pub leaves : after ≡ over q.answer.bytes before
