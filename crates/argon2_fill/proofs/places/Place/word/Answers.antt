-- `argon2_fill::places::Place::word` meets its contract. Assumes nothing.
use mathlib.Core.Path.{sym, ap, ◌∙◌}
use mathlib.Core.List.{List}
use Prim.Native.Nat.{ℕ, ◌*◌, ◌%◌}
use native.Mathlib.Omega.{arith}
use lib.ListN.{get_or}
use Rattle.argon2_fill.specs.State.{figures, position}
use Rattle.argon2_fill.proofs.Laws.Places.{previous_lt, times_le}
use Rattle.argon2_fill.proofs.Laws.Chooser.{chooser-looks, chooser_else}
use borrow.Author.Rules.{rules}
use Rattle.argon2_fill.proofs.places.Place.word.Goals as goal

pub returns-then-looks_at : goal.returns-then-looks_at
returns-then-looks_at c =
    let a = c.args in
    let t = sym c.looks_at.ensures ∙ c.if-looks_at.true in
    ap (λ (l : List ℕ). get_or l (a.self.p.index % 128) 0) (c.requires.addressed t)
    ∙ sym (chooser-looks (figures a.self.f) a.memory.now (position a.self.p) t)

pub overflow_mul-at : goal.overflow_mul-at
overflow_mul-at c =
    let a = c.args in
    let h = c.args.self.is_open.placed in
    let k = previous_lt (figures a.self.f) (position a.self.p) h in
    let t = times_le a.self.f.lanes (4 * a.self.f.segment) h.fits.few (let s = h.fits.short in omega arith) in
    let e = c.previous-at.ensures in
    record { fits = omega arith }

pub offset_bounds-memory-at : goal.offset_bounds-memory-at
offset_bounds-memory-at c =
    let a = c.args in
    let h = c.args.self.is_open.placed in
    let k = previous_lt (figures a.self.f) (position a.self.p) h in
    let r = c.requires.room in
    let e = c.previous-at.ensures in
    search rules

pub bounds-memory-at : goal.bounds-memory-at
bounds-memory-at c =
    let a = c.args in
    let h = c.args.self.is_open.placed in
    let k = previous_lt (figures a.self.f) (position a.self.p) h in
    let r = c.requires.room in
    let e = c.previous-at.ensures in
    search rules

pub returns : goal.returns
returns c =
    let a = c.args in
    let t = sym c.looks_at.ensures ∙ c.if-looks_at.false in
    ap (λ (n : ℕ). get_or a.memory.now (n * 128) 0) c.previous-at.ensures
    ∙ sym (chooser_else (figures a.self.f) a.memory.now (position a.self.p) t)
