-- `unlocking::stack::reaches` meets its contract. The invariant: what is left of the text continues the number to the
-- same. Assumes nothing.
use mathlib.Core.Path.{refl, sym, ap, ◌∙◌}
use Prim.Native.Nat.{ℕ}
use native.Mathlib.Omega.{arith}
use lib.Dec.{leb}
use lib.ListN.{get_or, drop}
use Rattle.unlocking.proofs.Laws.Stack.{digit-ge, digit-le, decimal_stop, decimal_more, decimal_none, reached, missed}
use borrow.Author.Rules.{rules}
use Rattle.unlocking.proofs.stack.reaches.Goals as goal

pub loop-x-init : goal.loop-x-init
loop-x-init c = refl

pub returns-then-least-n : goal.returns-then-least-n
returns-then-least-n c =
    let a = c.args in
    reached a.least c.loop-x.n _ (drop c.loop-x.x-index a.s.now) (search rules) c.loop-x.invariant

pub returns-then-not-is_digit : goal.returns-then-not-is_digit
returns-then-not-is_digit c =
    let a = c.args in
    missed a.least c.loop-x.n _ (search rules)
    (decimal_stop a.s.now c.loop-x.x-index c.loop-x.n (search rules)
    (sym c.is_digit.ensures ∙ c.if-not-is_digit.true)
    ∙ c.loop-x.invariant)

pub overflow_sub-x : goal.overflow_sub-x
overflow_sub-x c =
    omega (
      arith,
      digit-ge (get_or c.args.s.now c.loop-x.x-index 0)
          (sym c.is_digit.ensures ∙ c.if-not-is_digit.false),
    )

pub overflow_add-n : goal.overflow_add-n
overflow_add-n c =
    omega (
      arith,
      digit-le (get_or c.args.s.now c.loop-x.x-index 0)
          (sym c.is_digit.ensures ∙ c.if-not-is_digit.false),
      c.from.ensures,
    )

pub loop-x-preserved : goal.loop-x-preserved
loop-x-preserved c =
    let a = c.args in
    rw c.from.ensures
    (decimal_more a.s.now c.loop-x.x-index c.loop-x.n (search rules) (sym c.is_digit.ensures ∙ c.if-not-is_digit.false)
    ∙ c.loop-x.invariant)

pub returns : goal.returns
returns c =
    let a = c.args in
    rw c.from-least.ensures
    (ap (λ (x : ℕ). leb a.least x)
    (decimal_none a.s.now c.loop-x.x-index c.loop-x.n (search rules) ∙ c.loop-x.invariant))
