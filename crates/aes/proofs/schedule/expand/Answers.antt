-- `aes::schedule::expand` meets its contract. The invariant: the first i words are those of whatever key the first
-- eight are of.
-- Assumes nothing.
use mathlib.Core.Path.{◌≡◌, ap}
use Prim.Native.Nat.{◌-◌, ◌<◌, ◌≤◌}
use native.Mathlib.Omega.{arith}
use lib.Bits.{bit_xor}
use lib.ListN.{length, get_or, length-set}
use Rattle.fips197.proofs.Laws.Expansion.{expanded_more, expanded_all}
use borrow.Author.Rules.{rules}
use Rattle.aes.proofs.schedule.expand.Goals as goal

pub loop-i-init : goal.loop-i-init
loop-i-init c = (search rules, λ key p e. p)

pub loop-i-preserved : goal.loop-i-preserved
loop-i-preserved c =
    let l = c.loop-i in
    let m : l.i < length l.w = omega arith in
    let h : 8 ≤ l.i = omega arith in (
      simp length-set (search rules),
      λ key p e.
          expanded_more key l.w l.i _ h m (l.invariant.1 key p e)
          (ap (bit_xor (get_or l.w (l.i - 8) 0)) (c.temp.ensures e)),
    )

pub returns : goal.returns
returns c =
    λ e. let l = c.loop-i in
    let n : l.i ≡ 60 = omega arith in
    let key = c.args.key in
    expanded_all key l.w l.i n l.invariant.0 (l.invariant.1 key c.key_words-w.ensures e)
