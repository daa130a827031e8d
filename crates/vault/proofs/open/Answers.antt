-- `vault::open` meets its contract. Assumes nothing.
use mathlib.Core.Path.{sym, ◌∙◌}
use lib.ListN.{length}
use Rattle.std.proofs.lemmas.Result.{err_from_is_err_and}
use Rattle.vault.specs.Vault.{start, opened_in}
use Rattle.vault.proofs.Laws.Answers.{open_accepted, open_refused}
use Rattle.vault.proofs.open.Goals as goal

pub returns-in_err-k : goal.returns-in_err-k
unfolding opened_in
returns-in_err-k c =
    let p = err_from_is_err_and c.from_residual.result c.from_residual.ensures.1 in
    rw (p.1, p.2)
    (open_refused (start c.args.t c.args.f.now) c.args.f.now c.args.out.now (length c.args.out.now) _
    (sym c.in_err-k.was ∙ c.check.ensures))

pub returns : goal.returns
unfolding opened_in
returns c =
    open_accepted (start c.args.t c.args.f.now) _ _ c.args.f.now c.args.out.now _ (length c.args.out.now) _
    (sym c.in_ok-k.was ∙ c.check.ensures) c.open_blocks.ensures.value c.open_blocks.ensures.out_after
