-- `argon2_fill::segment::Filling::fill_segment` meets its contract. The invariants: the blocks before a place are filled.
-- Assumes nothing.
use mathlib.Core.Path.{◌≡◌}
use Prim.Native.Nat.{◌-◌, ◌*◌, min, max}
use Rattle.argon2_fill.specs.Rfc9106.{fill_from, chooser}
use Rattle.argon2_fill.specs.State.{figures}
use Rattle.argon2_fill.proofs.segment.Filling.fill_segment.Given as goal

abbrev pub invariant-loop-n : goal.invariant-loop-n
invariant-loop-n l =
    l.memory
    ≡ fill_from (chooser (figures l.self.f)) (figures l.self.f) (record { pass = l.pass; slice = l.slice; lane = l.lane; index = l.first })
    (min l.self.f.segment (max l.first (l.n * 128)) - l.first) l.initial.memory

abbrev pub invariant-loop-index : goal.invariant-loop-index
invariant-loop-index l =
    l.memory
    ≡ fill_from (chooser (figures l.self.f)) (figures l.self.f) (record { pass = l.pass; slice = l.slice; lane = l.lane; index = l.first })
    (l.index - l.first) l.fn.memory
