-- `dictionary::table::locate` meets its contract. Assumes nothing.
-- The invariant: the names before `low` are lesser, those from `high` on greater.
use mathlib.Core.Path.{◌≡◌, sym, subst, ◌∙◌}
use Prim.Native.Nat.{ℕ, ◌+◌, ◌-◌, ◌/◌}
use native.Mathlib.Omega.{arith}
use lib.ListN.{drop}
use Rattle.dictionary.specs.Order.{key_at, held, Below, Above, Located}
use Rattle.dictionary.proofs.Laws.Key.{less_order, more_order, same_order}
use Rattle.dictionary.proofs.Laws.Table.{length-held, held_less, held_more, held_same, above_none}
use Rattle.dictionary.proofs.table.locate.Goals as goal

pub loop-low-init : goal.loop-low-init
unfolding Below
loop-low-init c =
    let a = c.args in (
      omega arith,
      omega arith,
      tt,
      above_none a.s.now a.base a.n a.t.now c.requires.n_in_bounds (key_at a.s.now a.at),
    )

pub overflow_cast-t : goal.overflow_cast-t
overflow_cast-t c =
    let l = c.loop-low in
    omega (arith, c.type_inv.t (l.low + (l.high - l.low) / 2))

pub overflow_add-base : goal.overflow_add-base
overflow_add-base c =
    let l = c.loop-low in
    omega (arith, c.type_inv.t (l.low + (l.high - l.low) / 2))

pub name_at-requires : goal.name_at-requires
name_at-requires c =
    let l = c.loop-low in
    omega (arith, c.type_inv.t (l.low + (l.high - l.low) / 2))

pub loop-low-preserved-in-Less : goal.loop-low-preserved-in-Less
loop-low-preserved-in-Less c =
    let a = c.args in
    let m = c.loop-low.low + (c.loop-low.high - c.loop-low.low) / 2 in
    let f = sym c.in-Less.is ∙ c.compare.ensures in
    let g = rw (c.name_at.ensures, c.name_at-name.ensures) at f in (
      omega arith,
      omega arith,
      held_less a.s.now a.base a.n a.t.now c.requires.n_in_bounds m (key_at a.s.now a.at)
          (omega arith) c.requires.rising (less_order _ _ g),
      c.loop-low.invariant.3,
    )

pub returns-in-Same : goal.returns-in-Same
unfolding Located
returns-in-Same c =
    let a = c.args in
    let m = c.loop-low.low + (c.loop-low.high - c.loop-low.low) / 2 in
    let f = sym c.in-Same.is ∙ c.compare.ensures in
    let g = rw (c.name_at.ensures, c.name_at-name.ensures) at f in
    held_same a.s.now a.base a.n a.t.now c.requires.n_in_bounds m (key_at a.s.now a.at)
    (omega arith) (same_order _ _ g)

pub loop-low-preserved : goal.loop-low-preserved
loop-low-preserved c =
    let a = c.args in
    let m = c.loop-low.low + (c.loop-low.high - c.loop-low.low) / 2 in
    let f = sym c.in-More.is ∙ c.compare.ensures in
    let g = rw (c.name_at.ensures, c.name_at-name.ensures) at f in (
      omega arith,
      omega arith,
      c.loop-low.invariant.2,
      held_more a.s.now a.base a.n a.t.now c.requires.n_in_bounds m (key_at a.s.now a.at)
          (omega arith) c.requires.rising (more_order _ _ g),
    )

pub returns : goal.returns
unfolding Located
returns c =
    let l = c.loop-low in
    let a = c.args in
    let e : l.high ≡ l.low = omega arith in
    let n = length-held a.s.now a.base a.n a.t.now c.requires.n_in_bounds in
    let x = key_at a.s.now a.at in
    let ks = held a.s.now a.base a.n a.t.now in
    record { within = omega arith; below = l.invariant.2; above = subst (λ (k : ℕ). Above x (drop k ks)) e l.invariant.3 }

pub name_at-name-requires : goal.name_at-name-requires
name_at-name-requires c = omega arith

pub overflow_sub-middle : goal.overflow_sub-middle
overflow_sub-middle c = omega arith

pub overflow_add-middle : goal.overflow_add-middle
overflow_add-middle c = omega arith

pub offset_bounds-t-middle : goal.offset_bounds-t-middle
offset_bounds-t-middle c = omega arith

pub bounds-t-middle : goal.bounds-t-middle
bounds-t-middle c = omega arith

pub overflow_add-low : goal.overflow_add-low
overflow_add-low c = omega arith

pub loop-low-smaller-in-Less : goal.loop-low-smaller-in-Less
loop-low-smaller-in-Less c = omega arith

pub loop-low-smaller : goal.loop-low-smaller
loop-low-smaller c = omega arith
