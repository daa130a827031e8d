-- `aes::inv_cipher::decrypt` meets its contract. The invariant: i rounds are left. Assumes nothing.
use mathlib.Core.Path.{◌≡◌, refl, ap, ◌∙◌}
use mathlib.Core.List.{List}
use Prim.Native.Nat.{ℕ, ◌+◌, ◌-◌}
use native.Mathlib.Omega.{arith}
use Rattle.aes.specs.Columns.{columns}
use Rattle.aes.specs.Tabled.{eq_inv_rounds_by, eq_inv_final_round_by, eq_inv_cipher_by}
use Rattle.aes.proofs.Laws.Rounds.{eq_inv_rounds_by_more}
use Rattle.aes.proofs.inv_cipher.decrypt.Goals as goal

pub loop-i-init : goal.loop-i-init
unfolding eq_inv_rounds_by
loop-i-init c = refl

pub loop-i-preserved : goal.loop-i-preserved
loop-i-preserved c =
    let l = c.loop-i in
    let e : l.i - 1 + 1 ≡ l.i = omega arith in
    eq_inv_rounds_by_more _ _ _ l.i (columns l.x) _ (omega arith) (omega arith) l.invariant (rw e at c.inv_round-x.ensures)

pub returns : goal.returns
unfolding eq_inv_cipher_by
returns c =
    let l = c.loop-i in
    let a = c.args in
    let t = a.td.now in
    let v = a.v.now in
    let n : 13 - l.i ≡ 13 = omega arith in
    c.inv_final_round.ensures
    ∙ ap (λ (x : List ℕ). eq_inv_final_round_by a.inverse.now x v)
    (l.invariant ∙ ap (eq_inv_rounds_by t _ v) n ∙ ap (λ (x : List ℕ). eq_inv_rounds_by t x v 13) c.add_round_key-x.ensures)
