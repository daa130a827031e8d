-- A size field: 32 bits that stand for a signed number (Int32), of which the negative ones are told apart.
-- Assumes nothing.
use Rattle.std.specs.Prelude.{ℕ, ◌^◌, cond, nat_lt, Option, Some, None}

-- the 32 bits of n, read as an Int32
unfoldable pub int32 : ℕ → Option ℕ
int32 n = cond (nat_lt n (2 ^ 31)) (Some n) None
