-- `unlocking::words_needed` meets its contract. Assumes nothing.
use mathlib.Core.Path.{sym, ◌∙◌}
use Rattle.unlocking.proofs.Laws.Key.{needed_refused, needed_read}
use Rattle.unlocking.proofs.words_needed.Goals as goal

pub returns-in-Err : goal.returns-in-Err
returns-in-Err c = needed_refused _ _ (sym c.read.ensures.value ∙ c.in-Err.is)

pub words_of-requires : goal.words_of-requires
words_of-requires c = sym c.read.ensures.value ∙ c.in-Ok.is

pub returns-in-Ok : goal.returns-in-Ok
returns-in-Ok c =
    c.words_of.ensures ∙ needed_read _ _ (sym c.read.ensures.value ∙ c.in-Ok.is)
