-- `dictionary::check` meets its contract. Assumes nothing.
use mathlib.Core.Path.{◌∙◌}
use native.Mathlib.Omega.{arith}
use lib.ListN.{length}
use borrow.Author.Tests.{lt-ltb, le-ltb, ne_eqb}
use Rattle.words.proofs.Laws.Said.{said_too}
use Rattle.dictionary.specs.Answers.{said_verdict}
use Rattle.dictionary.specs.Dictionary.{verdict}
use Rattle.dictionary.proofs.Laws.Judge.{filled_done}
use Rattle.dictionary.proofs.Laws.Verdict.{verdict-judge}
use Rattle.dictionary.proofs.check.Goals as goal

pub returns-then-s-lt3 : goal.returns-then-s-lt3
unfolding verdict
returns-then-s-lt3 c = said_too said_verdict (rw (lt-ltb _ _ c.if-s-lt3.true))

pub returns-then-s-ne1 : goal.returns-then-s-ne1
unfolding verdict
returns-then-s-ne1 c = said_too said_verdict (rw (le-ltb _ _ c.if-s-lt3.false, ne_eqb _ _ c.if-s-ne1.true))

pub returns-in-Done : goal.returns-in-Done
returns-in-Done c =
    let s = c.args.s.now in
    said_too said_verdict
    (filled_done s 2 (length s) c.fill.new.t c.fill.result c.in-Done.o
    c.fill.ensures c.in-Done.is
    ∙ verdict-judge s (λ k. omega (arith, c.type_inv.s k))
    c.if-s-lt3.false c.if-s-ne1.false)

pub returns-in-Full : goal.returns-in-Full
returns-in-Full c =
    let s = c.args.s.now in
    said_too said_verdict
    (c.judge.ensures
    ∙ verdict-judge s (λ k. omega (arith, c.type_inv.s k))
    c.if-s-lt3.false c.if-s-ne1.false)
