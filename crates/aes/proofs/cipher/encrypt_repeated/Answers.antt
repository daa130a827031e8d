-- `aes::cipher::encrypt_repeated` meets its contract. The invariant: so many encryptions are done. Assumes nothing.
use mathlib.Core.Path.{◌≡◌, refl, ap, ◌∙◌}
use Prim.Native.Nat.{ℕ}
use native.Mathlib.Omega.{arith}
use Rattle.aes.specs.Columns.{columns}
use Rattle.aes.specs.Repeated.{repeated}
use Rattle.aes.specs.Tabled.{cipher_by}
use Rattle.aes.proofs.Laws.Repeated.{repeated_more}
use Rattle.aes.proofs.cipher.encrypt_repeated.Goals as goal

pub loop-init : goal.loop-init
unfolding repeated
loop-init c = refl

pub loop-preserved : goal.loop-preserved
loop-preserved c =
    let l = c.loop in
    let a = c.args in
    repeated_more (λ s. cipher_by a.te.now s a.w.now) _ l.counter (columns l.x) _ l.invariant c.encrypt-x.ensures

pub returns : goal.returns
returns c =
    let l = c.loop in
    let a = c.args in
    let n : l.counter ≡ a.n = omega arith in
    l.invariant ∙ ap (λ (k : ℕ). repeated (λ s. cipher_by a.te.now s a.w.now) k (columns a.s)) n
