-- `argon2_fill::segment::Filling::fill_passes` meets its contract. The invariant: the passes before are done. Assumes nothing.
use mathlib.Core.Path.{◌≡◌}
use Rattle.argon2_fill.specs.Rfc9106.{passes, chooser}
use Rattle.argon2_fill.specs.State.{figures}
use Rattle.argon2_fill.proofs.segment.Filling.fill_passes.Given as goal

abbrev pub invariant-loop-pass : goal.invariant-loop-pass
invariant-loop-pass l =
    l.memory ≡ passes (chooser (figures l.self.f)) (figures l.self.f) l.pass l.initial.memory
