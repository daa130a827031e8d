-- `aes::schedule::dual` meets its contract. The invariant: the first i words are there. Assumes nothing.
use mathlib.Core.Path.{◌≡◌, refl}
use Prim.Native.Nat.{ℕ, ◌<◌}
use native.Mathlib.Omega.{arith}
use lib.ListN.{length, get_or, length-set, length-replicate}
use Rattle.fips197.specs.Tabulate.{tabulate}
use Rattle.fips197.proofs.Laws.Tabulate.{tabulate_more, tabulate_all}
use Rattle.aes.specs.Tabled.{dual_word_by, dual_by}
use borrow.Author.Rules.{rules}
use Rattle.aes.proofs.schedule.dual.Goals as goal

pub loop-i-init : goal.loop-i-init
unfolding tabulate
loop-i-init c = (length-replicate {A = ℕ} 60 0, refl)

pub loop-i-preserved : goal.loop-i-preserved
loop-i-preserved c =
    let l = c.loop-i in
    let a = c.args in
    let m : l.i < length l.v = omega arith in (
      simp length-set (search rules),
      tabulate_more (λ k. dual_word_by a.te.now a.td.now k (get_or a.w k 0)) l.v l.i c.dual_word.result m l.invariant.1
          c.dual_word.ensures,
    )

pub returns : goal.returns
unfolding dual_by
returns c =
    let l = c.loop-i in
    let a = c.args in
    let n : l.i ≡ 60 = omega arith in
    tabulate_all 60 (λ k. dual_word_by a.te.now a.td.now k (get_or a.w k 0)) l.v l.i n l.invariant.0 l.invariant.1
