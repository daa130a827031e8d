-- `unlocking::find_document` meets its contract. Assumes nothing.
use mathlib.Core.Path.{sym, ◌∙◌}
use Rattle.unlocking.proofs.Laws.Opening.{document_refused, document_found}
use Rattle.unlocking.proofs.find_document.Goals as goal

pub returns-in-Err : goal.returns-in-Err
returns-in-Err c = document_refused _ _ _ (sym c.read_header.ensures.value ∙ c.in-Err.is)

pub returns-in-Ok : goal.returns-in-Ok
returns-in-Ok c = document_found _ _ _ (sym c.read_header.ensures.value ∙ c.in-Ok.is)
