-- `aes::schedule::key_words` meets its contract. The invariant: the first i words are there. Assumes nothing.
use mathlib.Core.Path.{◌≡◌, refl, subst}
use Prim.Native.Nat.{ℕ, ◌*◌, ◌<◌}
use native.Mathlib.Omega.{arith}
use lib.ListN.{length, take, length-set, length-replicate}
use Rattle.words.specs.Endian.{be}
use Rattle.fips197.specs.Fips197.{expanded}
use Rattle.fips197.specs.Tabulate.{tabulate}
use Rattle.fips197.proofs.Laws.Tabulate.{tabulate_more}
use borrow.Author.Rules.{rules}
use Rattle.aes.proofs.schedule.key_words.Goals as goal

pub loop-i-init : goal.loop-i-init
unfolding tabulate
loop-i-init c = (length-replicate {A = ℕ} 60 0, refl)

pub loop-i-preserved : goal.loop-i-preserved
loop-i-preserved c =
    let l = c.loop-i in
    let key = c.args.key in
    let m : l.i < length l.w = omega arith in (
      simp length-set (search rules),
      tabulate_more (λ k. be 4 key (4 * k)) l.w l.i c.u32_at.result m l.invariant.1 c.u32_at.ensures,
    )

pub returns : goal.returns
unfolding expanded
returns c =
    let l = c.loop-i in
    let key = c.args.key in
    let n : l.i ≡ 8 = omega arith in
    subst (λ (i : ℕ). take i l.w ≡ tabulate i (λ k. be 4 key (4 * k))) n l.invariant.1
