-- `argon2_fill::segment::Filling::fill_pass` meets its contract. The invariant: the slices before are filled. Assumes nothing.
use mathlib.Core.Path.{◌≡◌}
use Rattle.argon2_fill.specs.Rfc9106.{slices, chooser}
use Rattle.argon2_fill.specs.State.{figures}
use Rattle.argon2_fill.proofs.segment.Filling.fill_pass.Given as goal

abbrev pub invariant-loop-slice : goal.invariant-loop-slice
invariant-loop-slice l =
    l.memory ≡ slices (chooser (figures l.self.f)) (figures l.self.f) l.pass l.slice l.initial.memory
