-- What a list of numbers adds up to. In order: total-replicate (equal ones). Assumes nothing.
use Rattle.std.proofs.Common.{◌≡◌, ℕ, zero, suc, ◌*◌, replicate, sym, suc-mul, zero-mul, arith}
use Rattle.words.specs.Sums.{total}

pub total-replicate : (j n : ℕ) → total (replicate j n) ≡ j * n
unfolding total
total-replicate zero n = sym (zero-mul n)
total-replicate (suc j) n = rw (total-replicate j n, suc-mul) (omega arith)
