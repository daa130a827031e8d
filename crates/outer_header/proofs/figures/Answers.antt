-- `outer_header::figures` meets its contract. Assumes nothing.
use mathlib.Core.Path.{sym, ◌∙◌}
use Rattle.std.proofs.lemmas.Result.{err_from_is_err_and}
use Rattle.outer_header.specs.Kdbx4Header.{figures_in, figures}
use Rattle.outer_header.proofs.figures.Goals as goal

pub returns-in_err-kdf : goal.returns-in_err-kdf
unfolding figures figures_in
returns-in_err-kdf c =
    let r = err_from_is_err_and c.from_residual.result c.from_residual.ensures.1 in
    rw (r.1, r.2, sym c.read.ensures.value ∙ c.in_err-kdf.was)

pub returns-in-Err : goal.returns-in-Err
unfolding figures figures_in
returns-in-Err c =
    rw (
      sym c.read.ensures.value ∙ c.in_ok-kdf.was,
      sym c.custom_of.ensures ∙ c.in-Err.is,
    )

pub returns-in-Ok : goal.returns-in-Ok
unfolding figures figures_in
returns-in-Ok c =
    rw (
      sym c.read.ensures.value ∙ c.in_ok-kdf.was,
      sym c.custom_of.ensures ∙ c.in-Ok.is,
    )
