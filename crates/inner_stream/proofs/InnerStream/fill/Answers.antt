-- `inner_stream::InnerStream::fill` meets its contract. Assumes nothing.
use mathlib.Core.Path.{ap, ◌∙◌}
use Rattle.slices.proofs.Laws.Over.{over_whole}
use Rattle.inner_stream.specs.State.{covered}
use Rattle.inner_stream.proofs.InnerStream.fill.Goals as goal

pub returns : goal.returns
returns c =
    let a = c.args in
    c.cover.ensures
    ∙ ap (covered a.self) (c.copy.ensures ∙ over_whole a.bytes.now a.out.now c.requires.bytes_len)
