-- `listing::list_place` meets its contract. Assumes nothing.
use mathlib.Core.Path.{ap, ◌∙◌}
use mathlib.Core.List.{List}
use Prim.Native.Nat.{ℕ, ◌≤◌, ◌<◌}
use native.Mathlib.Omega.{arith}
use lib.ListN.{length}
use Rattle.slices.specs.Over.{over}
use Rattle.decimal.specs.Decimal.{decimal}
use Rattle.listing.specs.Listing.{placed_line}
use Rattle.listing.proofs.Laws.Text.{answer-wrote, after_wrote, answer-refused, after_refused}
use Rattle.listing.proofs.Laws.Places.{length-placed, part_is}
use Rattle.listing.proofs.list_place.Goals as goal

pub overflow_sub-k : goal.overflow_sub-k
overflow_sub-k c = omega (arith, c.decimal-d.ensures.n_value)

pub returns-then-out-k : goal.returns-then-out-k
returns-then-out-k c =
    let a = c.args in
    let d = a.out.now in
    let w = decimal a.place in
    let h : length d < length (placed_line a.n w) = omega (arith, length-placed a.n w, c.decimal-d.ensures.n_value, c.if-out-k.true) in
    record {
      value = answer-refused (placed_line a.n w) d h;
      out_after = after_refused (placed_line a.n w) d h;
    }

pub put_place-requires : goal.put_place-requires
put_place-requires c =
    let e = c.decimal-d.ensures in
    let a = c.args in
    let p = part_is _ (decimal a.place) _ _ e.text_value e.n_value c.part.ensures in
    let l = ap (λ (v : List ℕ). length v) p in
    omega (arith, l, e.n_value, c.if-out-k.false)

pub returns : goal.returns
returns c =
    let e = c.decimal-d.ensures in
    let a = c.args in
    let d = a.out.now in
    let w = decimal a.place in
    let p = part_is _ w _ _ e.text_value e.n_value c.part.ensures in
    let l = length-placed a.n w in
    let m : length (placed_line a.n w) ≤ length d = omega (arith, l, e.n_value, c.if-out-k.false) in
    record {
      value = answer-wrote (placed_line a.n w) d _ (omega (arith, l, e.n_value)) (omega (arith, e.n_value, c.if-out-k.false));
      out_after = after_wrote (placed_line a.n w) d _ m (c.put_place.ensures ∙ ap (λ (v : List ℕ). over (placed_line a.n v) d) p);
    }
