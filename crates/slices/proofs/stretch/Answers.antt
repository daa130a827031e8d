-- `slices::stretch` meets its contract. Assumes nothing.
use mathlib.Core.Path.{◌≡◌, ap}
use mathlib.Core.List.{List}
use Prim.Native.Nat.{ℕ, ◌+◌, ◌-◌, min}
use native.Mathlib.Omega.{arith}
use lib.ListN.{length, take, drop, length-drop}
use Rattle.std.proofs.lemmas.List.{drop_min, take_min}
use Rattle.slices.specs.Stretch.{behind}
use Rattle.slices.proofs.stretch.Goals as goal

-- a part cut where the list ends
part_min : (s : List ℕ) (start len : ℕ)
    → take (min len (length s - min start (length s))) (drop (min start (length s)) s) ≡ take len (drop start s)
part_min s start len = rw (← length-drop (min start (length s)) s, drop_min, take_min)

pub returns : goal.returns
returns c =
    let a = c.args in
    let from = c.min-from.result in
    let n = c.min.result in
    let e : from + n - from ≡ n = omega arith in
    record {
      bytes = rw (e, c.min.ensures, c.min-from.ensures) (part_min a.s.now a.start a.len);
      place = ap (λ (k : ℕ). behind k a.s.ref_ptr) c.min-from.ensures;
    }
