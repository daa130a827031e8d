-- `dictionary::table::compare` meets its contract. Assumes nothing.
use native.Mathlib.Omega.{arith}
use Rattle.dictionary.specs.Order.{key_of}
use Rattle.dictionary.proofs.Laws.Key.{key-length-lt, order_less, order_more}
use Rattle.dictionary.proofs.table.compare.Goals as goal

pub returns-then-a-b : goal.returns-then-a-b
returns-then-a-b c =
    let a = c.args in
    order_less (key_of a.a.now) (key_of a.b.now)
    (key-length-lt a.a.now a.b.now c.if-a-b.true
    (λ k. omega (arith, c.type_inv.a k)))

pub returns-then-b-a : goal.returns-then-b-a
returns-then-b-a c =
    let a = c.args in
    order_more (key_of a.a.now) (key_of a.b.now)
    (key-length-lt a.b.now a.a.now c.if-b-a.true
    (λ k. omega (arith, c.type_inv.b k)))
