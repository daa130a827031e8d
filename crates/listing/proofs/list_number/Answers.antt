-- `listing::list_number` meets its contract. Assumes nothing.
use mathlib.Core.Path.{refl}
use Prim.Native.Nat.{◌≤◌, ◌<◌}
use native.Mathlib.Omega.{arith}
use lib.ListN.{length, length-set}
use Rattle.slices.proofs.Laws.Over.{over_sets}
use Rattle.listing.specs.Listing.{number_line}
use Rattle.listing.proofs.Laws.Text.{answer-wrote, after_wrote, answer-refused, after_refused}
use borrow.Author.Rules.{rules}
use Rattle.listing.proofs.list_number.Goals as goal

pub returns-then-out-lt4 : goal.returns-then-out-lt4
returns-then-out-lt4 c =
    let a = c.args in
    let d = a.out.now in
    let h : length d < length (number_line a.n) = omega arith in
    record {
      value = answer-refused (number_line a.n) d h;
      out_after = after_refused (number_line a.n) d h;
    }

pub bounds-out-1 : goal.bounds-out-1
bounds-out-1 c = simp length-set (search rules)

pub bounds-out-2 : goal.bounds-out-2
bounds-out-2 c = simp length-set (search rules)

pub returns : goal.returns
returns c =
    let a = c.args in
    let d = a.out.now in
    let h : 4 ≤ length d = omega arith in
    record {
      value = answer-wrote (number_line a.n) d 4 refl h;
      out_after = after_wrote (number_line a.n) d _ h (over_sets (number_line a.n) d h);
    }
