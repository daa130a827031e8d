-- `argon2_fill::segment::Filling::fill_slice` meets its contract. The invariant: the segments of the lanes before are filled.
-- Assumes nothing.
use mathlib.Core.Path.{refl}
use Rattle.argon2_fill.specs.Rfc9106.{segments, chooser}
use Rattle.argon2_fill.specs.State.{figures}
use Rattle.argon2_fill.proofs.Laws.Segments.{segments_more}
use Rattle.argon2_fill.proofs.segment.Filling.fill_slice.Goals as goal

pub loop-lane-init : goal.loop-lane-init
unfolding segments
loop-lane-init c = refl

pub loop-lane-preserved : goal.loop-lane-preserved
loop-lane-preserved c =
    let l = c.loop-lane in
    let a = c.args in
    let f = figures a.self.f in
    segments_more (chooser f) f a.pass a.slice l.lane a.memory.now l.memory _ l.invariant c.fill_segment.ensures
