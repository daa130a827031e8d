-- How the code's four words stand for RFC 7693's, and one of its mixings for G. Assumes nothing.
use Rattle.std.specs.Prelude.{List, ℕ, ◌+◌}
use Rattle.blake2b.specs.Rfc7693 as rfc7693
use Rattle.blake2b.specs.declared.mixing.Four.{Four}

abbrev pub four : Four → rfc7693.Four
four q = record { a = q.a; b = q.b; c = q.c; d = q.d }

-- G with the two words of the message m that SIGMA names from `at` on
abbrev pub scheduled_g : List ℕ → ℕ → List ℕ → ℕ → ℕ → ℕ → ℕ → List ℕ
scheduled_g m at v a b c d = rfc7693.mixing_g v a b c d (rfc7693.scheduled m at) (rfc7693.scheduled m (at + 1))
