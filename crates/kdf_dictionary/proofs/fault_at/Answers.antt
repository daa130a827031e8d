-- `kdf_dictionary::fault_at` meets its contract. Assumes nothing.
use mathlib.Core.Path.{ap, ◌∙◌}
use Rattle.std.specs.Prelude.{Ok}
use Rattle.kdf_dictionary.proofs.Laws.Items.{found_within}
use borrow.Author.Rules.{rules}
use Rattle.kdf_dictionary.proofs.fault_at.Goals as goal

pub overflow_add-result : goal.overflow_add-result
overflow_add-result c =
    let v = c.in-Ok-Some.v in
    let l = found_within c.args.d.now c.args.name.now c.search_sound.result c.search_sound.ensures.value
    v.kind v.start v.length (c.in-Ok-Some.is ∙ ap Ok c.in-Ok-Some.field-0-is) in
    search rules
