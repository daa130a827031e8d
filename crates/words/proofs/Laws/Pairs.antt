-- Two answers that are pairs and the same have the same parts. Assumes nothing.
use Rattle.std.proofs.Common.{◌≡◌, ap, Result, Ok}

module _ {A B E : Type 0} {a c : A} {b d : B} where
  both : ◌≡◌ {A = Result (A × B) E} (Ok (a, b)) (Ok (c, d)) → ◌≡◌ {A = A × B} (a, b) (c, d)
  both e = cc

  pub ok_first : ◌≡◌ {A = Result (A × B) E} (Ok (a, b)) (Ok (c, d)) → a ≡ c
  ok_first e = ap (λ p. p.0) (both e)

  pub ok_second : ◌≡◌ {A = Result (A × B) E} (Ok (a, b)) (Ok (c, d)) → b ≡ d
  ok_second e = ap (λ p. p.1) (both e)
