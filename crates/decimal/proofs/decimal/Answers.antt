-- `decimal::decimal` meets its contract. The invariant: the digits of what is left, as many as there is room for, and
-- those that stand at the text's end are all. Assumes nothing.
use mathlib.Core.Path.{refl}
use native.Mathlib.Omega.{arith}
use Rattle.decimal.proofs.Laws.Digits.{stands_none, stands_last, stands_more, stands_all}
use borrow.Author.Rules.{rules}
use Rattle.decimal.proofs.decimal.Goals as goal

pub loop-at-init : goal.loop-at-init
loop-at-init c = stands_none _ _ refl

pub returns-then-rest-lt10 : goal.returns-then-rest-lt10
returns-then-rest-lt10 c =
    let l = c.loop-at in
    stands_last _ _ _ _ l.invariant (search rules) c.if-rest-lt10.true

pub loop-at-preserved : goal.loop-at-preserved
loop-at-preserved c =
    let l = c.loop-at in
    stands_more _ _ _ _ l.invariant (search rules) (omega arith)

pub returns : goal.returns
returns c =
    let l = c.loop-at in
    stands_all _ _ _ _ l.invariant (omega arith)
