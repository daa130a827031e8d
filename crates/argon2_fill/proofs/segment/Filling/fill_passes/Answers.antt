-- `argon2_fill::segment::Filling::fill_passes` meets its contract. The invariant: the passes before are done. Assumes nothing.
use mathlib.Core.Path.{◌≡◌, refl, ap, ◌∙◌}
use Prim.Native.Nat.{ℕ}
use native.Mathlib.Omega.{arith}
use Rattle.argon2_fill.specs.Rfc9106.{passes, fill, chooser}
use Rattle.argon2_fill.specs.State.{figures}
use Rattle.argon2_fill.proofs.Laws.Segments.{passes_more}
use Rattle.argon2_fill.proofs.segment.Filling.fill_passes.Goals as goal

pub loop-pass-init : goal.loop-pass-init
unfolding passes
loop-pass-init c = refl

pub loop-pass-preserved : goal.loop-pass-preserved
loop-pass-preserved c =
    let l = c.loop-pass in
    let a = c.args in
    let f = figures a.self.f in
    passes_more (chooser f) f l.pass a.memory.now l.memory _ l.invariant c.fill_pass.ensures

pub returns : goal.returns
unfolding fill
returns c =
    let l = c.loop-pass in
    let a = c.args in
    let f = figures a.self.f in
    let e : l.pass ≡ a.self.f.passes = omega arith in
    l.invariant ∙ ap (λ (n : ℕ). passes (chooser f) f n a.memory.now) e
