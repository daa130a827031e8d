-- `unlocking::Unlocked::values` meets its contract. Assumes nothing.
use mathlib.Core.Path.{sym, ap}
use Rattle.unlocking.specs.declared.Unlocked.{Unlocked}
use Rattle.unlocking.specs.Answers.{said}
use Rattle.unlocking.proofs.Unlocked.values.Goals as goal

pub returns-in-Document : goal.returns-in-Document
returns-in-Document c = ap (λ (a : Unlocked). (said a).values) (sym c.in-Document.is)
