-- `unlocking::key::argon2_words` meets its contract: the words of figures that fit can be counted. Assumes nothing.
use mathlib.Core.Path.{refl}
use Prim.Native.Nat.{◌/◌}
use native.Mathlib.Omega.{arith}
use Rattle.argon2.proofs.Laws.Run.{figures_fit, lane_le, blocks-le}
use Rattle.unlocking.proofs.key.argon2_words.Goals as goal

pub nonzero_div-result : goal.nonzero_div-result
nonzero_div-result c =
    let a = c.args.a in
    let h = figures_fit a.salt.length a.passes a.memory a.lanes (a.memory / 1024) c.requires refl 0 0 in
    omega (arith, h.some)

pub overflow_mul-result-2 : goal.overflow_mul-result-2
overflow_mul-result-2 c =
    let a = c.args.a in
    omega (arith, lane_le a.salt.length a.passes a.memory a.lanes (a.memory / 1024) c.requires refl)

pub overflow_mul-result-3 : goal.overflow_mul-result-3
overflow_mul-result-3 c =
    let a = c.args.a in
    omega (arith, blocks-le a.lanes (a.memory / 1024))

pub overflow_mul-result-4 : goal.overflow_mul-result-4
overflow_mul-result-4 c =
    let a = c.args.a in
    omega (arith, blocks-le a.lanes (a.memory / 1024))
