-- `argon2::prehash::fits` meets its contract. Assumes nothing.
use mathlib.Core.Path.{sym}
use Prim.Native.Nat.{ℕ, ◌+◌}
use native.Mathlib.Omega.{arith}
use borrow.Author.Tests.{lt-leb}
use Rattle.refusals.specs.Limits.{message_limit}
use Rattle.argon2.proofs.Laws.Prehash.{fits_rest}
use Rattle.argon2.proofs.prehash.fits.Goals as goal

pub returns-then-most-password : goal.returns-then-most-password
unfolding message_limit
returns-then-most-password c = sym (lt-leb _ message_limit (omega arith))

pub returns-then-most-password-2 : goal.returns-then-most-password-2
unfolding message_limit
returns-then-most-password-2 c = sym (lt-leb _ message_limit (omega arith))

pub returns-then-most-password-3 : goal.returns-then-most-password-3
unfolding message_limit
returns-then-most-password-3 c = sym (lt-leb _ message_limit (omega arith))

pub returns : goal.returns
unfolding message_limit
returns c =
    let a = c.args in
    let before_last : ℕ = 40 + (a.password + a.salt + a.secret) in
    fits_rest before_last _ message_limit a.associated _ (omega arith) (omega arith)
