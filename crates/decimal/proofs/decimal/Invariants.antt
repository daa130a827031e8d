-- `decimal::decimal` meets its contract. The invariant: the digits of what is left, as many as there is room for, and
-- those that stand at the text's end are all. Assumes nothing.
use Rattle.decimal.proofs.Laws.Digits.{Stands}
use Rattle.decimal.proofs.decimal.Given as goal

abbrev pub invariant-loop-at : goal.invariant-loop-at
invariant-loop-at l = Stands l.n l.text l.at l.rest
