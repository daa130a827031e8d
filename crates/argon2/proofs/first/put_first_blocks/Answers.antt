-- `argon2::first::put_first_blocks` meets its contract. The invariant: the blocks of the lanes before are put.
-- Assumes nothing.
use mathlib.Core.Path.{◌≡◌, refl, ap, ◌∙◌}
use Prim.Native.Nat.{ℕ}
use native.Mathlib.Omega.{arith}
use Rattle.argon2_fill.specs.State.{figures}
use Rattle.argon2.specs.Rfc9106.{first_blocks}
use Rattle.argon2.proofs.Laws.First.{first_long, firsts_more}
use Rattle.argon2.proofs.first.put_first_blocks.Goals as goal

pub loop-i-init : goal.loop-i-init
unfolding first_blocks
loop-i-init c = refl

pub put_first-requires : goal.put_first-requires
put_first-requires c =
    record {
      fits = c.requires.fits;
      i_lt_lanes = omega arith;
      j_bound = omega arith;
      f_in_bounds = omega (arith, c.requires.f_in_bounds);
    }

pub put_first-requires-in-loop-i : goal.put_first-requires-in-loop-i
put_first-requires-in-loop-i c =
    let l = c.loop-i in
    let a = c.args in
    let n = first_long (figures a.f) a.h l.memory l.i 0 c.put_first.ensures in
    record {
      fits = c.requires.fits;
      i_lt_lanes = omega arith;
      j_bound = omega arith;
      f_in_bounds = omega (arith, c.requires.f_in_bounds);
    }

pub loop-i-preserved : goal.loop-i-preserved
loop-i-preserved c =
    let l = c.loop-i in
    let a = c.args in
    let f = figures a.f in
    firsts_more f a.h a.memory.now l.i l.invariant c.put_first.ensures c.put_first-in-loop-i.ensures

pub returns : goal.returns
returns c =
    let l = c.loop-i in
    let a = c.args in
    let e : l.i ≡ a.f.lanes = omega arith in
    l.invariant ∙ ap (λ (n : ℕ). first_blocks (figures a.f) a.h n a.memory.now) e
