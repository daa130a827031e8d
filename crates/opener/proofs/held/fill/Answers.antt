-- `opener::held::fill` meets its contract. Assumes nothing.
use mathlib.Core.Path.{◌≡◌, refl, sym, ◌∙◌}
use native.Mathlib.Omega.{arith}
use lib.ListN.{length}
use lib.Seq.{length-take-le}
use Rattle.opener.proofs.Laws.Runs.{fill_both, fill-held}
use borrow.Author.Rules.{rules}
use Rattle.opener.proofs.held.fill.Goals as goal

pub slice_bounds-copy-end : goal.slice_bounds-copy-end
slice_bounds-copy-end c =
    let long : length c.args.held ≡ 16 = search rules in
    let l : length c.args.held ≡ 16 = long in
    sym (length-take-le c.args.h c.args.held (omega arith))

pub returns-then-h-out : goal.returns-then-h-out
returns-then-h-out c =
    let long : length c.args.held ≡ 16 = search rules in
    let a = c.args in
    let l : length a.held ≡ 16 = long in
    fill_both a.held a.d.now a.out.now c.copy.new.out _ a.h _ (omega arith) (search rules)
    (search rules) c.copy.ensures refl c.copy-then-h-out.ensures

pub returns-else-h-out : goal.returns-else-h-out
returns-else-h-out c =
    let long : length c.args.held ≡ 16 = search rules in
    let a = c.args in
    let l : length a.held ≡ 16 = long in
    c.copy.ensures ∙ fill-held a.held a.d.now a.out.now a.h (omega arith) (search rules)
