-- `aes_tables::te` meets its contract. The invariant: the first i entries are there. Assumes nothing.
use mathlib.Core.Path.{◌≡◌, refl, ap, ◌∙◌}
use Prim.Native.Nat.{ℕ, ◌<◌}
use native.Mathlib.Omega.{arith}
use lib.ListN.{length, length-set, length-replicate}
use Rattle.fips197.specs.Tabulate.{tabulate}
use Rattle.fips197.proofs.Laws.Tabulate.{tabulate_more, tabulate_all}
use borrow.Author.Rules.{rules}
use Rattle.gf256.specs.Gf256.{sbox}
use Rattle.gf256.proofs.Laws.Sbox.{get_or-sbox_table}
use Rattle.aes_tables.specs.Tables.{mix_entry, te}
use Rattle.aes_tables.proofs.te.Goals as goal

pub loop-i-init : goal.loop-i-init
unfolding tabulate
loop-i-init c = (length-replicate {A = ℕ} 256 0, refl)

pub loop-i-preserved : goal.loop-i-preserved
loop-i-preserved c =
    let l = c.loop-i in
    let h : l.i < 256 = omega arith in
    let m : l.i < length l.t = omega arith in (
      simp length-set (search rules),
      tabulate_more (λ x. mix_entry (sbox x)) l.t l.i c.mix_entry.result m l.invariant.1
          (c.mix_entry.ensures ∙ ap mix_entry (get_or-sbox_table l.i h)),
    )

pub returns : goal.returns
unfolding te
returns c =
    let l = c.loop-i in
    let e : l.i ≡ 256 = omega arith in
    tabulate_all 256 (λ x. mix_entry (sbox x)) l.t l.i e l.invariant.0 l.invariant.1
