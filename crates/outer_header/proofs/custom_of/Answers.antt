-- `outer_header::custom_of` meets its contract. Assumes nothing.
use mathlib.Core.Path.{ap, ◌∙◌}
use Prim.Native.Nat.{◌^◌}
use borrow.Author.Tests.{eq-eqb, ne_eqb}
use borrow.Author.Rules.{rules}
use Rattle.std.specs.Prelude.{Err}
use Rattle.dictionary.proofs.Laws.Within.{broken_lt, repeated_lt}
use Rattle.outer_header.specs.Kdbx4Header.{custom_in, custom_of}
use Rattle.outer_header.proofs.custom_of.Goals as goal

pub returns-in-Ok : goal.returns-in-Ok
unfolding custom_of custom_in
returns-in-Ok c =
    rw (
      ne_eqb _ 0 c.if-p-ne0.true,
      ← c.part.ensures,
      ← c.check.ensures.value,
      c.in-Ok.is,
    )

pub overflow_add-result : goal.overflow_add-result
overflow_add-result c =
    let a = c.args in
    let l = broken_lt a.p.length a.p.start a.s.now c.part.result.now c.check.result
    c.in-Err-Broken.at (2 ^ 64) c.part.ensures c.check.ensures.value (c.in-Err-Broken.is ∙ ap Err c.in-Err-Broken.field-0-is)
    (search rules) (search rules) in
    search rules

pub returns-in-Err-Broken : goal.returns-in-Err-Broken
unfolding custom_of custom_in
returns-in-Err-Broken c =
    rw (
      ne_eqb _ 0 c.if-p-ne0.true,
      ← c.part.ensures,
      ← c.check.ensures.value,
      c.in-Err-Broken.is,
      c.in-Err-Broken.field-0-is,
    )

pub overflow_add-result-in-Err-Repeated : goal.overflow_add-result-in-Err-Repeated
overflow_add-result-in-Err-Repeated c =
    let a = c.args in
    let l = repeated_lt a.p.length a.p.start a.s.now c.part.result.now c.check.result
    c.in-Err-Repeated.at (2 ^ 64) c.part.ensures c.check.ensures.value (c.in-Err-Repeated.is ∙ ap Err c.in-Err-Repeated.field-0-is)
    (search rules) (search rules) in
    search rules

pub returns-in-Err-Repeated : goal.returns-in-Err-Repeated
unfolding custom_of custom_in
returns-in-Err-Repeated c =
    rw (
      ne_eqb _ 0 c.if-p-ne0.true,
      ← c.part.ensures,
      ← c.check.ensures.value,
      c.in-Err-Repeated.is,
      c.in-Err-Repeated.field-0-is,
    )

pub returns : goal.returns
unfolding custom_of
returns c = rw (eq-eqb _ 0 c.if-p-ne0.false)
