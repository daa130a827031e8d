-- `exports::vaults::kdbx4_write` meets its contract. Assumes nothing.
use mathlib.Core.Path.{refl, sym, ◌∙◌}
use Rattle.slices.proofs.Laws.Over.{over_nil}
use Rattle.exports.proofs.vaults.kdbx4_write.Goals as goal

pub returns-in-Unlisted : goal.returns-in-Unlisted
returns-in-Unlisted c =
    let a = c.args in
    rw (sym c.choose.ensures ∙ c.in-Unlisted.is)
    (record { value = c.unlisted.ensures; out_after = sym (over_nil a.out.now); count_after = refl })

pub returns-in-Figures : goal.returns-in-Figures
returns-in-Figures c =
    rw (sym c.choose.ensures ∙ c.in-Figures.is) c.write_with.ensures
