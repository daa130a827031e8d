-- `dictionary::table::compare_bytes` meets its contract. Assumes nothing.
-- The invariant: the bytes before i are the same.
use mathlib.Core.Path.{sym, ap}
use native.Mathlib.Omega.{arith}
use Rattle.dictionary.specs.Order.{key_of}
use Rattle.dictionary.proofs.Laws.Key.{key_differ_lt, take_more, take_whole, order_less, order_more, order_same}
use Rattle.dictionary.proofs.table.compare_bytes.Goals as goal

pub returns-then-a-i : goal.returns-then-a-i
returns-then-a-i c =
    let a = c.args in
    order_less (key_of a.a.now) (key_of a.b.now)
    (key_differ_lt a.a.now a.b.now c.loop-i.i
    (λ k. omega (arith, c.type_inv.a k)) c.requires (omega arith)
    c.loop-i.invariant c.if-a-i.true)

pub returns-then-b-i : goal.returns-then-b-i
returns-then-b-i c =
    let a = c.args in
    order_more (key_of a.a.now) (key_of a.b.now)
    (key_differ_lt a.b.now a.a.now c.loop-i.i
    (λ k. omega (arith, c.type_inv.b k)) (sym c.requires) (omega arith)
    (sym c.loop-i.invariant) c.if-b-i.true)

pub loop-i-preserved : goal.loop-i-preserved
loop-i-preserved c =
    let a = c.args in
    take_more a.a.now a.b.now c.loop-i.i c.requires (omega arith) c.loop-i.invariant (omega arith)

pub returns : goal.returns
returns c =
    let a = c.args in
    order_same (key_of a.a.now) (key_of a.b.now)
    (ap key_of (take_whole a.a.now a.b.now c.loop-i.i c.requires (omega arith) c.loop-i.invariant))
