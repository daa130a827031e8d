-- `argon2_fill::segment::Filling::fill_pass` meets its contract. The invariant: the slices before are filled. Assumes nothing.
use mathlib.Core.Path.{refl}
use Rattle.argon2_fill.specs.Rfc9106.{slices, chooser}
use Rattle.argon2_fill.specs.State.{figures}
use Rattle.argon2_fill.proofs.Laws.Segments.{slices_more}
use Rattle.argon2_fill.proofs.segment.Filling.fill_pass.Goals as goal

pub loop-slice-init : goal.loop-slice-init
unfolding slices
loop-slice-init c = refl

pub loop-slice-preserved : goal.loop-slice-preserved
loop-slice-preserved c =
    let l = c.loop-slice in
    let a = c.args in
    let f = figures a.self.f in
    slices_more (chooser f) f a.pass l.slice a.memory.now l.memory _ l.invariant c.fill_slice.ensures
