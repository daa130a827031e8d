-- `aes::cipher::encrypt` meets its contract. The invariant: the rounds before i are done. Assumes nothing.
use mathlib.Core.Path.{◌≡◌, refl, ap, ◌∙◌}
use mathlib.Core.List.{List}
use Prim.Native.Nat.{ℕ, ◌-◌}
use native.Mathlib.Omega.{arith}
use Rattle.aes.specs.Columns.{columns}
use Rattle.aes.specs.Tabled.{rounds_by, final_round_by, cipher_by}
use Rattle.aes.proofs.Laws.Rounds.{rounds_by_more}
use Rattle.aes.proofs.cipher.encrypt.Goals as goal

pub loop-i-init : goal.loop-i-init
unfolding rounds_by
loop-i-init c = refl

pub loop-i-preserved : goal.loop-i-preserved
loop-i-preserved c =
    let l = c.loop-i in
    rounds_by_more _ _ _ l.i (columns l.x) _ (omega arith) l.invariant c.round-x.ensures

pub returns : goal.returns
unfolding cipher_by
returns c =
    let l = c.loop-i in
    let a = c.args in
    let t = a.te.now in
    let w = a.w.now in
    let n : l.i - 1 ≡ 13 = omega arith in
    c.final_round.ensures
    ∙ ap (λ (x : List ℕ). final_round_by t x w)
    (l.invariant ∙ ap (rounds_by t _ w) n ∙ ap (λ (x : List ℕ). rounds_by t x w 13) c.add_round_key-x.ensures)
