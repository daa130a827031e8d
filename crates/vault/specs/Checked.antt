-- How a start's answer stands for the definition's. Assumes nothing.
use Rattle.std.specs.Prelude.{ℕ, Result, Ok, Err}
use Rattle.refusals.specs.declared.Refusal.{Refusal}
use Rattle.opening.specs.declared.Keys.{Keys}
use Rattle.vault.specs.Vault.{Begun, start_refused, begun}

unfoldable pub checked_of : Begun → Result (Keys × ℕ) Refusal
checked_of (start_refused r) = Err r
checked_of (begun k p) = Ok (k, p)
