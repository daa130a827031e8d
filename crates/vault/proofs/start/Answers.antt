-- `vault::start` meets its contract. Assumes nothing.
use mathlib.Core.Path.{sym, ◌∙◌}
use Rattle.vault.specs.Vault.{start}
use Rattle.vault.proofs.Laws.Answers.{start-accepted, start-refused}
use Rattle.vault.proofs.start.Goals as goal

pub returns-in-Ok : goal.returns-in-Ok
returns-in-Ok c =
    start-accepted (start c.args.t c.args.f.now) _ _ _ (sym c.in-Ok.is ∙ c.check.ensures) c.begin.ensures

pub returns-in-Err : goal.returns-in-Err
returns-in-Err c =
    start-refused (start c.args.t c.args.f.now) _ _ (sym c.in-Err.is ∙ c.check.ensures) c.blank.ensures
