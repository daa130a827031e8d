-- `opener::due` meets its contract. Assumes nothing.
use mathlib.Core.Path.{ap, ◌∙◌}
use Prim.Native.Nat.{ℕ, ◌+◌}
use native.Mathlib.Omega.{arith}
use Rattle.refusals.proofs.Laws.Limits.{file_size}
use Rattle.opener.specs.Counts.{due_count, due_by}
use Rattle.opener.proofs.due.Goals as goal

pub overflow_add-held_count : goal.overflow_add-held_count
overflow_add-held_count c = omega (arith, file_size)

pub returns-in-Aes256 : goal.returns-in-Aes256
unfolding due_by
returns-in-Aes256 c =
    let h = c.held_count.ensures.0 in
    rw c.in-Aes256.is
    (c.due_count.ensures ∙ ap (λ (j : ℕ). due_count (j + c.args.n)) h)

pub returns-in-ChaCha20 : goal.returns-in-ChaCha20
unfolding due_by
returns-in-ChaCha20 c = rw c.in-ChaCha20.is
