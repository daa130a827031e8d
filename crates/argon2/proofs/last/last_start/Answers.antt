-- `argon2::last::last_start` meets its contract. Assumes nothing.
use mathlib.Core.Path.{refl}
use native.Mathlib.Omega.{arith}
use Rattle.argon2_fill.specs.State.{figures}
use Rattle.argon2.proofs.Laws.Last.{last_lt}
use Rattle.argon2.proofs.last.last_start.Goals as goal

pub overflow_mul-result-2 : goal.overflow_mul-result-2
overflow_mul-result-2 c =
    let h = c.requires in
    let k = last_lt (figures c.args.f) c.args.i h.0 h.1.0 in
    record { fits = omega arith }

pub overflow_add-result : goal.overflow_add-result
overflow_add-result c =
    let h = c.requires in
    let k = last_lt (figures c.args.f) c.args.i h.0 h.1.0 in
    record { fits = omega arith }

pub overflow_mul-result-4 : goal.overflow_mul-result-4
overflow_mul-result-4 c =
    let h = c.requires in
    let k = last_lt (figures c.args.f) c.args.i h.0 h.1.0 in
    record { fits = omega arith }

pub returns : goal.returns
returns c =
    let h = c.requires in
    let k = last_lt (figures c.args.f) c.args.i h.0 h.1.0 in
    let r = h.1.1 in
    (refl, omega arith)
