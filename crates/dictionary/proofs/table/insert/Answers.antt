-- `dictionary::table::insert` meets its contract. Assumes nothing.
-- The invariant: what is before i is as it was, and the rest moved one up.
use mathlib.Core.Path.{◌≡◌, subst}
use Prim.Native.Nat.{ℕ, ◌+◌, ◌-◌}
use native.Mathlib.Omega.{arith}
use Rattle.dictionary.proofs.Laws.Insert.{Shifted, shifted_none, shifted_more, shifted_all}
use Rattle.dictionary.proofs.table.insert.Goals as goal

pub loop-i-init : goal.loop-i-init
loop-i-init c = (shifted_none c.args.t.now c.args.n, omega arith)

pub loop-i-preserved : goal.loop-i-preserved
loop-i-preserved c =
    let l = c.loop-i in
    let a = c.args in
    let e : (l.i - 1) + 1 ≡ l.i = omega arith in (
      rw e (shifted_more a.t.now l.t a.n l.i (omega arith) (omega arith) (omega arith) l.auto.t l.invariant.0),
      omega arith,
    )

pub returns : goal.returns
returns c =
    let l = c.loop-i in
    let a = c.args in
    let e : l.i ≡ a.j = omega arith in
    let s : Shifted a.t.now l.t a.n a.j =
    subst (λ (k : ℕ). Shifted a.t.now l.t a.n k) e l.invariant.0 in
    shifted_all a.t.now l.t a.n a.j a.place (omega arith) (omega arith) s
