-- `unlocking::rounds::advance` meets its contract. The invariant: the steps that are left give what all of them do.
-- Assumes nothing.
use mathlib.Core.Path.{◌≡◌, refl, sym, ap₂, ◌∙◌}
use Prim.Native.Nat.{ℕ, ◌+◌, ◌-◌}
use native.Mathlib.Omega.{arith}
use lib.ListN.{replicate}
use Rattle.aes_kdf.specs.State.{advances}
use Rattle.aes_kdf.specs.declared.Transformation.{Transformation}
use Rattle.unlocking.proofs.Laws.Key.{advances_more, advances_end}
use borrow.Author.Rules.{rules}
use Rattle.unlocking.proofs.rounds.advance.Goals as goal

pub loop-init : goal.loop-init
loop-init g c = refl

pub loop-preserved : goal.loop-preserved
loop-preserved g c =
    let l = c.loop in
    let n = c.args.n in
    let e : 50 - (l.counter + 1) ≡ 50 - l.counter - 1 = omega arith in
    ap₂ (λ (m : ℕ) (z : Transformation). advances (replicate m n) z) e c.advance-next.ensures
    ∙ sym (advances_more (50 - l.counter) n l.x (search rules)) ∙ l.invariant

pub returns : goal.returns
returns g c =
    let l = c.loop in
    advances_end (50 - l.counter) c.args.n l.x _ (omega arith) l.invariant
