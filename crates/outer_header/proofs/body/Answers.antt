-- `outer_header::body` meets its contract. Assumes nothing.
use mathlib.Core.Path.{sym, ◌∙◌}
use Rattle.std.proofs.lemmas.Result.{err_from_is_err_and}
use Rattle.outer_header.specs.Kdbx4Header.{judged_in, body}
use Rattle.outer_header.proofs.body.Goals as goal

pub returns-in_err-f : goal.returns-in_err-f
unfolding body judged_in
returns-in_err-f c =
    let r = err_from_is_err_and c.from_residual.result c.from_residual.ensures.1 in
    rw (r.1, r.2, sym c.walk.ensures ∙ c.in_err-f.was)

pub returns : goal.returns
unfolding body judged_in
returns c = rw (sym c.walk.ensures ∙ c.in_ok-f.was) c.judge.ensures
