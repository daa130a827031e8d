-- Sizes that stand in a list: the negative one is apart, and two that are the same stand for one number.
--
-- In order: negative_never, of_same.
-- Assumes nothing.
use mathlib.Core.Path.{◌≡◌}
use Prim.Native.Nat.{ℕ}
use native.Mathlib.Omega.{arith}
use Rattle.std.specs.Prelude.{Some, None}

pub negative_never : (n : ℕ) → None ≡ Some n → ⊥
negative_never n e = let z : ◌≡◌ {A = ℕ} 0 1 = cc in omega arith

pub of_same : (m n : ℕ) → Some m ≡ Some n → m ≡ n
of_same m n e = cc
