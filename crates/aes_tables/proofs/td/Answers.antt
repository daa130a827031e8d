-- `aes_tables::td` meets its contract. The invariant: the first i entries are there. Assumes nothing.
use mathlib.Core.Path.{◌≡◌, refl}
use Prim.Native.Nat.{ℕ, ◌<◌}
use native.Mathlib.Omega.{arith}
use lib.ListN.{length, get_or, length-set, length-replicate}
use Rattle.fips197.specs.Tabulate.{tabulate}
use Rattle.fips197.proofs.Laws.Tabulate.{tabulate_more, tabulate_all}
use borrow.Author.Rules.{rules}
use Rattle.aes_tables.specs.Tables.{inv_mix_entry, mixed}
use Rattle.aes_tables.proofs.td.Goals as goal

pub loop-i-init : goal.loop-i-init
unfolding tabulate
loop-i-init c = (length-replicate {A = ℕ} 256 0, refl)

pub loop-i-preserved : goal.loop-i-preserved
loop-i-preserved c =
    let l = c.loop-i in
    let x = c.args.inverse.now in
    let m : l.i < length l.t = omega arith in (
      simp length-set (search rules),
      tabulate_more (λ k. inv_mix_entry (get_or x k 0)) l.t l.i c.inv_mix_entry.result m l.invariant.1 c.inv_mix_entry.ensures,
    )

pub returns : goal.returns
unfolding mixed
returns c =
    let l = c.loop-i in
    let x = c.args.inverse.now in
    let e : l.i ≡ 256 = omega arith in
    tabulate_all 256 (λ k. inv_mix_entry (get_or x k 0)) l.t l.i e l.invariant.0 l.invariant.1
