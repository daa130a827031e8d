-- `blake2b::mixing::g` meets its contract. Assumes nothing.
use mathlib.Core.Path.{refl}
use Prim.Native.Nat.{◌+◌}
use native.Mathlib.Omega.{arith}
use Rattle.blake2b.specs.Rfc7693.{scheduled}
use Rattle.blake2b.specs.Rfc7693.Constants.{sigma_rows}
use Rattle.blake2b.specs.Working.{four}
use Rattle.blake2b.proofs.Laws.Mixing.{sigma_rows-lt, mixing_g_is}
use Rattle.blake2b.proofs.mixing.g.Goals as goal

pub bounds-m-at : goal.bounds-m-at
unfolding sigma_rows
bounds-m-at c =
    let h = sigma_rows-lt c.args.at (omega arith) in
    omega arith

pub bounds-m-at-2 : goal.bounds-m-at-2
unfolding sigma_rows
bounds-m-at-2 c =
    let h = sigma_rows-lt (c.args.at + 1) (omega arith) in
    omega arith

pub returns : goal.returns
unfolding sigma_rows
returns c =
    let a = c.args in
    let q = c.mix-q in
    let m = a.m.now in
    mixing_g_is a.v.now a.a a.b a.c a.d (scheduled m a.at) (scheduled m (a.at + 1)) (four q.result) refl refl q.ensures
