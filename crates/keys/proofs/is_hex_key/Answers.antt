-- `keys::is_hex_key` meets its contract. Assumes nothing.
use mathlib.Core.Path.{◌≡◌}
use native.Mathlib.Omega.{arith}
use lib.ListN.{length}
use borrow.Author.Tests.{eq-eqb}
use Rattle.keys.proofs.is_hex_key.Goals as goal

pub returns : goal.returns
returns c =
    let s = c.args.s.now in
    let e : length s ≡ 64 = omega arith in
    rw (eq-eqb (length s) 64 e) c.all_digits.ensures
