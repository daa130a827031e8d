-- `unlocking::Unlocked::place` meets its contract. Assumes nothing.
use mathlib.Core.Path.{sym, ap, ◌∙◌}
use Rattle.unlocking.specs.declared.Unlocked.{Unlocked}
use Rattle.unlocking.specs.Answers.{said}
use Rattle.unlocking.proofs.Unlocked.place.Goals as goal

pub returns-in-Refused : goal.returns-in-Refused
returns-in-Refused c = c.place.ensures ∙ ap (λ (a : Unlocked). (said a).place) (sym c.in-Refused.is)

pub returns-in-PayloadRefused : goal.returns-in-PayloadRefused
returns-in-PayloadRefused c = c.place-in-PayloadRefused.ensures ∙ ap (λ (a : Unlocked). (said a).place) (sym c.in-PayloadRefused.is)
