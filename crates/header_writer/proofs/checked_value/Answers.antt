-- `header_writer::checked_value` meets its contract. Assumes nothing.
use mathlib.Core.Path.{sym, ap, ◌∙◌}
use mathlib.Core.List.{[], ◌∷◌}
use Prim.Native.Nat.{ℕ}
use Rattle.std.specs.Prelude.{Result}
use Rattle.ciphers.specs.declared.Cipher.{Cipher}
use Rattle.refusals.specs.declared.Refusal.{Refusal}
use Rattle.header_writer.specs.Answers.{said}
use Rattle.header_writer.proofs.checked_value.Goals as goal

pub returns-in-Ok : goal.returns-in-Ok
returns-in-Ok c =
    ap (λ (n : ℕ). n ∷ []) c.number.ensures
    ∙ ap (λ (a : Result Cipher Refusal). (said a).values) (sym c.in-Ok.is)
