-- `outer_header::walk::field_here` meets its contract. Assumes nothing.
use Rattle.outer_header.specs.Kdbx4Header.{field_here}
use Rattle.outer_header.proofs.walk.field_here.Goals as goal

pub returns : goal.returns
unfolding field_here
returns c =
    rw (
      ← c.byte_at-id.ensures,
      ← c.is_listed-listed.ensures,
      ← c.has-repeated.ensures,
      ← c.size_rule-rule.ensures,
    ) c.field_at.ensures.value
