-- `argon2_fill::places::times` meets its contract. Assumes nothing.
use mathlib.Core.Path.{refl}
use native.Mathlib.Omega.{arith}
use Rattle.argon2_fill.proofs.Laws.Places.{times_le}
use Rattle.argon2_fill.proofs.places.times.Goals as goal

pub overflow_mul-result : goal.overflow_mul-result
overflow_mul-result c =
    let h = times_le c.args.a c.args.b c.requires.0 c.requires.1 in
    record { fits = omega arith }

pub returns : goal.returns
returns c = (refl, times_le c.args.a c.args.b c.requires.0 c.requires.1)
