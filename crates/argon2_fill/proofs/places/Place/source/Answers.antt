-- `argon2_fill::places::Place::source` meets its contract. Assumes nothing.
use mathlib.Core.Path.{refl, ap, ◌∙◌}
use Prim.Native.Nat.{ℕ, ◌*◌}
use native.Mathlib.Omega.{arith}
use Rattle.argon2_fill.specs.Rfc9106.{source}
use Rattle.argon2_fill.specs.State.{figures, position}
use Rattle.argon2_fill.proofs.Laws.Places.{previous_lt}
use Rattle.argon2_fill.proofs.Laws.Reference.{reference-lt}
use Rattle.argon2_fill.proofs.Laws.Blocks.{source_is, tail-length}
use Rattle.argon2_fill.proofs.places.Place.source.Goals as goal

pub start_of-x-requires : goal.start_of-x-requires
start_of-x-requires c =
    let a = c.args in
    let k = previous_lt (figures a.self.f) (position a.self.p) c.args.self.is_open.placed in
    let e = c.previous.ensures in
    (omega arith, c.requires.room)

pub start_of-y-requires : goal.start_of-y-requires
start_of-y-requires c =
    let a = c.args in
    let k = reference-lt (figures a.self.f) (position a.self.p) c.word-w.result c.args.self.is_open.placed in
    let e = c.reference.ensures in
    (omega arith, c.requires.room)

pub mixed-requires : goal.mixed-requires
mixed-requires c =
    let m = c.args.memory.now in (
      c.requires.block_len,
      (tail-length m _ _ c.start_of-x.ensures.1 refl, tail-length m _ _ c.start_of-y.ensures.1 refl),
    )

pub returns : goal.returns
returns c =
    let a = c.args in
    let f = figures a.self.f in
    let p = position a.self.p in
    let m = a.memory.now in
    source_is f p c.word-w.result m _ _ _ _ _
    (c.start_of-x.ensures.0 ∙ ap (λ (n : ℕ). n * 128) c.previous.ensures)
    (c.start_of-y.ensures.0 ∙ ap (λ (n : ℕ). n * 128) c.reference.ensures)
    refl refl c.mixed.ensures
    ∙ ap (λ (w : ℕ). source f p w m) c.word-w.ensures
