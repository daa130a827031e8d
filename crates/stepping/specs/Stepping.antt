-- The steps of an opening one after the other, each lent what is left of the output: up to the first refusal, or to the
-- closing block. Document 01, "File after the header": "A step that succeeds takes exactly one block".
--
--   stepping m f o n    at most m steps from the state o over the file f, with n bytes lent: an outcome, and the bytes
--   ran_from t f n       the same from the start on: a refused start hands over nothing
--   written_by           the answer of an outcome and a count of bytes
-- A block has 36 bytes at least, so the file's length as a count never ends it.
-- Not here: a step (crate opening, Steps); that the steps agree with the whole opener (crate vault, Agreement).
-- Assumes nothing.
use Rattle.std.specs.Prelude.{List, [], ◌++◌, ℕ, zero, suc, ◌-◌, length, Ok, Err}
use Rattle.refusals.specs.Numbers.{Outcome}
use Rattle.refusals.specs.declared.Refusal.TheVariants.{CutShort}
use Rattle.refusals.specs.Numbers.{Written}
use Rattle.opening.specs.declared.Phase.{Phase}
use Rattle.opening.specs.declared.Phase.TheVariants.{Open, Closed, Ended}
use Rattle.opening.specs.declared.Opener.{Opener}
use Rattle.opening.specs.Steps.{step_of}
use Rattle.vault.specs.Vault as vault

pub record Ran : Type 0 where
  pub outcome : Outcome
  pub bytes : List ℕ

-- what a step's answer, the mark after it and its bytes make of the steps that follow
unfoldable pub go_on : Written → Phase → List ℕ → Ran → Ran
go_on (Err r) m b more = record { outcome = Err r; bytes = [] }
go_on (Ok c) Ended b more = record { outcome = Ok tt; bytes = b }
go_on (Ok c) Open b more = record { outcome = more.outcome; bytes = b ++ more.bytes }
go_on (Ok c) Closed b more = record { outcome = more.outcome; bytes = b ++ more.bytes }

unfoldable pub stepping : ℕ → List ℕ → Opener → ℕ → Ran
stepping zero f o n = record { outcome = Err (CutShort 0); bytes = [] }
stepping (suc m) f o n =
    go_on (step_of f o n).answer.written (step_of f o n).next.phase (step_of f o n).answer.bytes
    (stepping m f (step_of f o n).next (n - length (step_of f o n).answer.bytes))

unfoldable pub ran_by : Outcome → Ran → Ran
ran_by (Err r) more = record { outcome = Err r; bytes = [] }
ran_by (Ok tt) more = more

unfoldable pub ran_from : List ℕ → List ℕ → ℕ → Ran
ran_from t f n =
    ran_by (vault.outcome_of (vault.start t f)) (stepping (length f) f (vault.state_of (vault.start t f)) n)

-- how many bytes were handed over in all, or why the last step was refused
unfoldable pub written_by : Outcome → ℕ → Written
written_by (Ok tt) n = Ok n
written_by (Err r) n = Err r

abbrev pub written_of : Ran → Written
written_of x = written_by x.outcome (length x.bytes)
