-- `argon2_fill::segment::Filling::fill_segment` meets its contract. The invariants: the blocks before a place are filled.
-- Assumes nothing.
use mathlib.Core.Path.{◌≡◌, refl, ap, ◌∙◌}
use Prim.Native.Nat.{ℕ, ◌+◌, ◌-◌, ◌*◌, ◌≤◌, min, max}
use native.Mathlib.Omega.{arith}
use Rattle.argon2_fill.specs.Rfc9106.{Position, chooser, fill_from}
use Rattle.argon2_fill.specs.State.{figures}
use Rattle.argon2_fill.proofs.Laws.Segments.{fill_from_none, fill_from_more, given_le, segment_open, segment_is}
use Rattle.argon2_fill.proofs.Laws.Chooser.{addresses_same}
use Rattle.argon2_fill.proofs.segment.Filling.fill_segment.Goals as goal

pub returns-then-self-first : goal.returns-then-self-first
returns-then-self-first c =
    let a = c.args in
    let f = figures a.self.f in
    let p : Position = record { pass = a.pass; slice = a.slice; lane = a.lane; index = c.given-first.result } in
    let z : a.self.f.segment - c.given-first.result ≡ c.given-first.result - c.given-first.result = omega arith in
    segment_is (chooser f) f a.pass a.slice a.lane _ a.self.f.segment a.memory.now a.memory.now c.given-first.ensures refl
    (rw z (fill_from_none (chooser f) f p a.memory.now))

pub loop-n-init : goal.loop-n-init
loop-n-init c =
    let a = c.args in
    let f = figures a.self.f in
    let p : Position = record { pass = a.pass; slice = a.slice; lane = a.lane; index = c.given-first.result } in
    let o = given_le a.pass a.slice in
    let e = c.given-first.ensures in
    let t = c.args.self.fits.long in
    let z : min a.self.f.segment (max c.given-first.result 0) - c.given-first.result ≡ c.given-first.result - c.given-first.result =
    omega arith in
    rw z (fill_from_none (chooser f) f p a.memory.now)

pub loop-index-init : goal.loop-index-init
loop-index-init c =
    let l = c.loop-n in
    let a = c.args in
    let f = figures a.self.f in
    let p : Position = record { pass = a.pass; slice = a.slice; lane = a.lane; index = c.given-first.result } in
    let o = given_le a.pass a.slice in
    let e = c.given-first.ensures in
    let t = c.args.self.fits.long in
    let z : min a.self.f.segment (max p.index (l.n * 128)) ≡ c.max-index.result = omega arith in
    l.invariant ∙ ap (λ (n : ℕ). fill_from (chooser f) f p (n - p.index) a.memory.now) z

pub invariant_of-place : goal.invariant_of-place
invariant_of-place c =
    let l = c.loop-index in
    let a = c.args in
    let h = c.requires in
    let g : c.given-first.result ≤ l.index = omega arith in
    record {
      is_open = segment_open (figures a.self.f) a.pass a.slice a.lane _ l.index a.self.fits h.slice_bound h.lane_bound
          c.given-first.ensures g (omega arith);
    }

pub fill-requires-clause-addressed : goal.fill-requires-clause-addressed
fill-requires-clause-addressed c =
    let l = c.loop-index in
    let a = c.args in
    let f = figures a.self.f in
    let p : Position = record { pass = a.pass; slice = a.slice; lane = a.lane; index = c.loop-n.n * 128 } in
    addresses_same f p l.index c.addresses_of-words.result (omega arith) c.addresses_of-words.ensures

pub loop-index-preserved : goal.loop-index-preserved
loop-index-preserved c =
    let l = c.loop-index in
    let a = c.args in
    let f = figures a.self.f in
    let p : Position = record { pass = a.pass; slice = a.slice; lane = a.lane; index = c.given-first.result } in
    fill_from_more (chooser f) f p l.index a.memory.now l.memory _ (omega arith) l.invariant c.fill.ensures

pub loop-n-preserved : goal.loop-n-preserved
loop-n-preserved c =
    let l = c.loop-index in
    let a = c.args in
    let f = figures a.self.f in
    let p : Position = record { pass = a.pass; slice = a.slice; lane = a.lane; index = c.given-first.result } in
    let o = given_le a.pass a.slice in
    let e = c.given-first.ensures in
    let t = c.args.self.fits.long in
    let z : l.index ≡ min a.self.f.segment (max p.index ((c.loop-n.n + 1) * 128)) = omega arith in
    l.invariant ∙ ap (λ (n : ℕ). fill_from (chooser f) f p (n - p.index) a.memory.now) z

pub returns : goal.returns
returns c =
    let l = c.loop-n in
    let a = c.args in
    let f = figures a.self.f in
    let e = c.given-first.ensures in
    segment_is (chooser f) f a.pass a.slice a.lane _ _ a.memory.now l.memory e (omega arith) l.invariant
