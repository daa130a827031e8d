-- `opener::close_aes` meets its contract. Assumes nothing.
use mathlib.Core.Path.{◌≡◌, sym, ap, ◌∙◌}
use native.Mathlib.Omega.{arith}
use lib.ListN.{length}
use lib.Seq.{length-take-le}
use Rattle.refusals.specs.declared.Refusal.TheVariants.{WrongPadding}
use Rattle.pkcs7.specs.Pkcs7.{padding}
use Rattle.pkcs7.proofs.Laws.Check.{answer_of, answer_wrong}
use Rattle.pkcs7.proofs.Laws.Padding.{padding-le}
use Rattle.opening.specs.declared.Phase.TheVariants.{Closed}
use Rattle.opening.specs.Decryption.{aes_from}
use Rattle.opening.specs.Runs.{refuse}
use Rattle.opening.specs.Steps.{blank}
use Rattle.opener.proofs.Laws.Replies.{close_does, does_by}
use Rattle.opener.proofs.Laws.Replies.{last_none, last_odd, last_wrong, last_short, last_does}
use borrow.Author.Rules.{rules}
use Rattle.opener.proofs.close_aes.Goals as goal

pub returns-then-o-eq0 : goal.returns-then-o-eq0
returns-then-o-eq0 c =
    let a = c.args in
    let o = a.o in
    let d = a.out.now in
    does_by _ (refuse WrongPadding (blank Closed)) _ d d
    (last_none o.keys o.taken o.prev o.held o (length d) c.if-o-eq0.true)
    (close_does WrongPadding _ _ d c.blank-closed.ensures c.refuse.ensures)

pub returns-then-o-ne0 : goal.returns-then-o-ne0
returns-then-o-ne0 c =
    let a = c.args in
    let o = a.o in
    let d = a.out.now in
    does_by _ (refuse WrongPadding (blank Closed)) _ d d
    (last_odd o.keys o.taken o.prev o.held o (length d) c.if-o-eq0.false
    c.if-o-ne0.true)
    (close_does WrongPadding _ _ d c.blank-closed.ensures c.refuse-then-o-ne0.ensures)

pub returns-in-None : goal.returns-in-None
returns-in-None c =
    let a = c.args in
    let o = a.o in
    let d = a.out.now in
    let e : padding (aes_from o.keys o.prev o.held) ≡ 0 =
    ap padding (sym c.last_piece-piece.ensures)
    ∙ answer_wrong (padding c.last_piece-piece.result)
    (sym c.check.ensures.value ∙ c.in-None.is) in
    does_by _ (refuse WrongPadding (blank Closed)) _ d d
    (last_wrong o.keys o.taken o.prev o.held o (length d) c.if-o-eq0.false
    c.if-o-ne0.false e)
    (close_does WrongPadding _ _ d c.blank-closed.ensures c.refuse-in-None.ensures)

pub overflow_sub-n : goal.overflow_sub-n
overflow_sub-n c =
    let x = c.last_piece-piece.result in
    let e = (answer_of (padding x) _ (sym c.check.ensures.value ∙ c.in-Some.is)).0 in
    omega (arith, e, padding-le x)

pub returns-then-out-n : goal.returns-then-out-n
returns-then-out-n c =
    let long_prev : length c.args.o.prev ≡ 16 = search rules in
    let long_held : length c.args.o.held ≡ 16 = search rules in
    let o = c.args.o in
    let d = c.args.out.now in
    last_short o.keys o.taken o.prev o.held o d c.if-o-eq0.false c.if-o-ne0.false
    long_prev long_held _ c.last_piece-piece.ensures _ c.check.ensures.value _
    c.in-Some.is _
    c.if-out-n.true c.refuse-then-out-n.ensures

pub slice_bounds-copy-end : goal.slice_bounds-copy-end
slice_bounds-copy-end c =
    let x = c.last_piece-piece.result in
    let l : length x ≡ 16 = search rules in
    sym (length-take-le _ x (rw l (omega arith)))

pub returns-in-Some : goal.returns-in-Some
returns-in-Some c =
    let long_prev : length c.args.o.prev ≡ 16 = search rules in
    let long_held : length c.args.o.held ≡ 16 = search rules in
    let o = c.args.o in
    let d = c.args.out.now in
    last_does o.keys o.taken o.prev o.held o d c.if-o-eq0.false c.if-o-ne0.false
    long_prev long_held _ c.last_piece-piece.ensures _ c.check.ensures.value _
    c.in-Some.is _ _
    c.if-out-n.false c.blank-ended.ensures c.copy.ensures
