-- `kdf_dictionary::read` meets its contract. A part of the file ends within it, so no place in it is beyond a word.
-- Assumes nothing.
use mathlib.Core.Path.{ap, ◌∙◌}
use Prim.Native.Nat.{◌^◌}
use Rattle.std.specs.Prelude.{Err}
use Rattle.dictionary.proofs.Laws.Within.{part_end_lt, broken_lt, repeated_lt}
use Rattle.kdf_dictionary.specs.KdfDictionary.{kdf_in, kdf_of}
use Rattle.words.proofs.Laws.Said.{said_too}
use Rattle.kdf_dictionary.specs.Answers.{said}
use borrow.Author.Rules.{rules}
use Rattle.kdf_dictionary.proofs.read.Goals as goal

pub overflow_add-result : goal.overflow_add-result
overflow_add-result c =
    let a = c.args in
    let l = broken_lt a.p.length a.p.start a.s.now c.part-d.result.now c.check.result
    c.in-Err-Broken.at (2 ^ 64) c.part-d.ensures c.check.ensures.value (c.in-Err-Broken.is ∙ ap Err c.in-Err-Broken.field-0-is)
    (search rules) (search rules) in
    search rules

pub returns-in-Err-Broken : goal.returns-in-Err-Broken
unfolding kdf_of kdf_in
returns-in-Err-Broken c =
    said_too said (rw (← c.part-d.ensures, ← c.check.ensures.value, c.in-Err-Broken.is, c.in-Err-Broken.field-0-is))

pub overflow_add-result-in-Err-Repeated : goal.overflow_add-result-in-Err-Repeated
overflow_add-result-in-Err-Repeated c =
    let a = c.args in
    let l = repeated_lt a.p.length a.p.start a.s.now c.part-d.result.now c.check.result
    c.in-Err-Repeated.at (2 ^ 64) c.part-d.ensures c.check.ensures.value (c.in-Err-Repeated.is ∙ ap Err c.in-Err-Repeated.field-0-is)
    (search rules) (search rules) in
    search rules

pub returns-in-Err-Repeated : goal.returns-in-Err-Repeated
unfolding kdf_of kdf_in
returns-in-Err-Repeated c =
    said_too said (rw (← c.part-d.ensures, ← c.check.ensures.value, c.in-Err-Repeated.is, c.in-Err-Repeated.field-0-is))

pub uuid_of-requires : goal.uuid_of-requires
uuid_of-requires c =
    let a = c.args in
    rw c.part-d.ensures
    (part_end_lt a.p.length a.p.start a.s.now (2 ^ 64) (search rules) (search rules))

pub returns-in-Ok : goal.returns-in-Ok
unfolding kdf_of kdf_in
returns-in-Ok c =
    said_too said
    (rw (← c.part-d.ensures, ← c.check.ensures.value, c.in-Ok.is) c.uuid_of.ensures)
