-- `argon2_fill::places::Place::fill` meets its contract. Assumes nothing.
use mathlib.Core.Path.{refl, ap, ◌∙◌}
use Prim.Native.Nat.{ℕ, ◌*◌}
use native.Mathlib.Omega.{arith}
use lib.ListN.{length}
use Rattle.argon2_block.proofs.Laws.Permutation.{length-permuted}
use Rattle.argon2_fill.specs.Rfc9106.{chooser}
use Rattle.argon2_fill.specs.State.{figures, position}
use Rattle.argon2_fill.proofs.Laws.Places.{current-lt}
use Rattle.argon2_fill.proofs.Laws.Blocks.{tail-length, length-source, fill_block_first, fill_block_later}
use Rattle.argon2_fill.proofs.places.Place.fill.Goals as goal

pub start_of-at-requires : goal.start_of-at-requires
start_of-at-requires c =
    let a = c.args in
    let k = current-lt (figures a.self.f) (position a.self.p) c.args.self.is_open.placed in
    let e = c.current.ensures in
    (omega arith, c.requires.room)

pub put_fresh-requires : goal.put_fresh-requires
put_fresh-requires c =
    let a = c.args in
    let f = figures a.self.f in
    let p = position a.self.p in
    let m = a.memory.now in
    let r = c.source.new.r in
    let e = c.source.ensures in
    let n = length-source f p (chooser f m p) m r c.args.self.is_open.placed c.requires.room e in (
      tail-length m _ _ c.start_of-at.ensures.1 refl,
      (ap length (c.permute.ensures n) ∙ length-permuted r ∙ n, n),
    )

pub returns-then-self-eq0 : goal.returns-then-self-eq0
returns-then-self-eq0 c =
    let a = c.args in
    let f = figures a.self.f in
    let p = position a.self.p in
    let m = a.memory.now in
    let r = c.source.new.r in
    let e = c.source.ensures in
    let n = length-source f p (chooser f m p) m r c.args.self.is_open.placed c.requires.room e in
    fill_block_first (chooser f) f p m r _ _ _ _ c.if-self-eq0.true n e
    (c.permute.ensures n) (c.start_of-at.ensures.0 ∙ ap (λ (i : ℕ). i * 128) c.current.ensures)
    c.start_of-at.ensures.1 refl c.put_fresh.ensures

pub put_over-requires : goal.put_over-requires
put_over-requires c =
    let a = c.args in
    let f = figures a.self.f in
    let p = position a.self.p in
    let m = a.memory.now in
    let r = c.source.new.r in
    let e = c.source.ensures in
    let n = length-source f p (chooser f m p) m r c.args.self.is_open.placed c.requires.room e in (
      tail-length m _ _ c.start_of-at.ensures.1 refl,
      (ap length (c.permute.ensures n) ∙ length-permuted r ∙ n, n),
    )

pub returns : goal.returns
returns c =
    let a = c.args in
    let f = figures a.self.f in
    let p = position a.self.p in
    let m = a.memory.now in
    let r = c.source.new.r in
    let e = c.source.ensures in
    let n = length-source f p (chooser f m p) m r c.args.self.is_open.placed c.requires.room e in
    fill_block_later (chooser f) f p m r _ _ _ _ c.if-self-eq0.false n e
    (c.permute.ensures n) (c.start_of-at.ensures.0 ∙ ap (λ (i : ℕ). i * 128) c.current.ensures)
    c.start_of-at.ensures.1 refl c.put_over.ensures
