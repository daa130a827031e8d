-- A word by its four bytes, as equations between numbers. Assumes nothing.
use Rattle.std.specs.Prelude.{◌≡◌, ℕ}
use Rattle.fips197.specs.Fips197.{byte_of}

pub record HasBytes (w b₀ b₁ b₂ b₃ : ℕ) : Type 0 where
  pub at0 : byte_of w 0 ≡ b₀
  pub at1 : byte_of w 1 ≡ b₁
  pub at2 : byte_of w 2 ≡ b₂
  pub at3 : byte_of w 3 ≡ b₃
