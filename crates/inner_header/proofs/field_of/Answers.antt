-- `inner_header::field_of` meets its contract. Assumes nothing.
use Rattle.inner_header.specs.InnerHeader.{field_of}
use Rattle.inner_header.proofs.field_of.Goals as goal

pub returns : goal.returns
unfolding field_of
returns c =
    rw (
      ← c.byte_at-id.ensures,
      ← c.is_repeated.ensures,
      ← c.rule_of.ensures,
    ) c.field_at.ensures.value
