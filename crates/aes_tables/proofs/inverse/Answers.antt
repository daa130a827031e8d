-- `aes_tables::inverse` meets its contract. The invariant: each number below i stands at its value. Assumes nothing.
use Prim.Native.Nat.{ℕ, ◌<◌}
use mathlib.Core.Path.{◌≡◌}
use native.Mathlib.Omega.{arith}
use lib.ListN.{length-replicate}
use Rattle.gf256.proofs.Laws.Sbox.{get_or-sbox_table, sbox-lt}
use Rattle.aes_tables.proofs.Laws.Entries.{inverse_more, inverse_all}
use Rattle.aes_tables.proofs.inverse.Goals as goal

pub loop-i-init : goal.loop-i-init
loop-i-init c =
    record { long = length-replicate {A = ℕ} 256 0; placed = λ k m. absurd (let z : ⊥ = omega arith in z) }

pub overflow_cast-y : goal.overflow_cast-y
overflow_cast-y c =
    let l = c.loop-i in
    let h : l.i < 256 = omega arith in
    omega (arith, get_or-sbox_table l.i h, sbox-lt l.i h)

pub bounds-t-y : goal.bounds-t-y
bounds-t-y c =
    let l = c.loop-i in
    let h : l.i < 256 = omega arith in
    omega (arith, get_or-sbox_table l.i h, sbox-lt l.i h)

pub loop-i-preserved : goal.loop-i-preserved
loop-i-preserved c =
    let l = c.loop-i in
    let h : l.i < 256 = omega arith in
    inverse_more l.t l.i _ h (get_or-sbox_table l.i h) l.invariant

pub returns : goal.returns
returns c =
    let l = c.loop-i in
    let e : l.i ≡ 256 = omega arith in
    inverse_all l.t l.i e l.invariant
