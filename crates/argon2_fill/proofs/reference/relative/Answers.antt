-- `argon2_fill::reference::relative` meets its contract. Assumes nothing.
use mathlib.Core.Path.{refl}
use Prim.Native.Nat.{◌*◌, ◌/◌, ◌^◌, ◌<◌}
use native.Mathlib.Omega.{arith}
use Rattle.argon2_block.proofs.Laws.Product.{product_lt}
use Rattle.argon2_fill.proofs.Laws.Reference.{square_lt, relative-le, relative_is}
use Rattle.argon2_fill.proofs.reference.relative.Goals as goal

pub overflow_mul-x : goal.overflow_mul-x
overflow_mul-x c = record { fits = square_lt c.args.j c.requires.1.1 }

pub overflow_mul-result : goal.overflow_mul-result
overflow_mul-result c =
    let s = square_lt c.args.j c.requires.1.1 in
    record { fits = product_lt 32 c.requires.1.0 (omega arith) }

pub overflow_sub-result-2 : goal.overflow_sub-result-2
overflow_sub-result-2 c =
    let s = square_lt c.args.j c.requires.1.1 in
    let h : c.args.j * c.args.j / 2 ^ 32 < 2 ^ 32 = omega arith in
    let k = relative-le c.args.w (c.args.j * c.args.j / 2 ^ 32) c.requires.0 h in
    omega arith

pub returns : goal.returns
returns c = relative_is c.args.w c.args.j _ refl
