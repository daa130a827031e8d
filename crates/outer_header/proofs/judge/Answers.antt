-- `outer_header::judge` meets its contract. Assumes nothing.
use mathlib.Core.Path.{sym, ◌∙◌}
use Rattle.outer_header.specs.Kdbx4Header.{judged}
use Rattle.outer_header.proofs.judge.Goals as goal

pub returns-then-is_complete : goal.returns-then-is_complete
unfolding judged
returns-then-is_complete c =
    rw (
      sym c.is_complete.ensures ∙ c.if-is_complete.true,
      ← c.part.ensures,
      ← c.identify-id.ensures.value,
    ) c.identified.ensures

pub returns : goal.returns
unfolding judged
returns c =
    rw (sym c.is_complete.ensures ∙ c.if-is_complete.false, c.end_field.ensures)
