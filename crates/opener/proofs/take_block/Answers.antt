-- `opener::take_block` meets its contract. Assumes nothing.
use mathlib.Core.Path.{ap, ap₂, ◌∙◌}
use mathlib.Core.List.{List}
use Prim.Native.Nat.{ℕ, ◌+◌}
use native.Mathlib.Numerals.{add-one}
use native.Mathlib.Omega.{arith}
use lib.ListN.{length}
use Rattle.refusals.proofs.Laws.Limits.{file_size}
use Rattle.opening.specs.declared.Phase.TheVariants.{Open}
use Rattle.opening.specs.Steps.{opener, taking, prev_by, held_by}
use Rattle.opener.proofs.take_block.Goals as goal

pub overflow_add-number : goal.overflow_add-number
overflow_add-number c = omega (arith, file_size)

pub overflow_add-at : goal.overflow_add-at
overflow_add-at c = omega (arith, file_size)

pub overflow_add-at-2 : goal.overflow_add-at-2
overflow_add-at-2 c = omega (arith, file_size)

pub overflow_add-taken : goal.overflow_add-taken
overflow_add-taken c = omega (arith, file_size)

pub returns : goal.returns
unfolding taking opener
returns c =
    let a = c.args in
    let t = c.carry-c.ensures in
    let n = length a.d.now in
    let o = a.o in
    record {
      value = ap₂ (λ (v x : List ℕ). opener o.keys Open (o.number + 1) (o.at + 36 + n) (o.taken + n) v x) t.prev_value
          t.held_value
          ∙ ap (λ (i : ℕ). opener o.keys Open i (o.at + 36 + n) (o.taken + n)
          (prev_by o.keys.cipher o.taken o.prev o.held a.d.now)
          (held_by o.keys.cipher o.taken o.held a.d.now)) (add-one o.number);
      out_after = t.out_after;
    }
