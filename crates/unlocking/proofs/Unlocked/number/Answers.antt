-- `unlocking::Unlocked::number` meets its contract. Assumes nothing.
use mathlib.Core.Path.{sym, ap, ◌∙◌}
use Rattle.unlocking.specs.declared.Unlocked.{Unlocked}
use Rattle.unlocking.specs.Answers.{said}
use Rattle.unlocking.proofs.Unlocked.number.Goals as goal

pub returns-in-Refused : goal.returns-in-Refused
returns-in-Refused c = c.number.ensures ∙ ap (λ (a : Unlocked). (said a).number) (sym c.in-Refused.is)

pub returns-in-PayloadRefused : goal.returns-in-PayloadRefused
returns-in-PayloadRefused c = c.number-in-PayloadRefused.ensures ∙ ap (λ (a : Unlocked). (said a).number) (sym c.in-PayloadRefused.is)
