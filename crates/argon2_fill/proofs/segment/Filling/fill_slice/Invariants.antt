-- `argon2_fill::segment::Filling::fill_slice` meets its contract. The invariant: the segments of the lanes before are filled.
-- Assumes nothing.
use mathlib.Core.Path.{◌≡◌}
use Rattle.argon2_fill.specs.Rfc9106.{segments, chooser}
use Rattle.argon2_fill.specs.State.{figures}
use Rattle.argon2_fill.proofs.segment.Filling.fill_slice.Given as goal

abbrev pub invariant-loop-lane : goal.invariant-loop-lane
invariant-loop-lane l =
    l.memory ≡ segments (chooser (figures l.self.f)) (figures l.self.f) l.pass l.slice l.lane l.initial.memory
