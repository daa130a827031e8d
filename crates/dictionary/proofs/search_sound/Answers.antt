-- `dictionary::search_sound` meets its contract. The invariant: the walk from here, over the items left, is the whole
-- walk. Assumes nothing.
use mathlib.Core.Path.{◌≡◌, refl, sym, ◌∙◌, ap}
use Prim.Native.Nat.{◌+◌, ◌-◌}
use native.Mathlib.Omega.{arith}
use lib.ListN.{length}
use Rattle.std.specs.Prelude.{Ok}
use Rattle.words.proofs.Laws.Said.{said_too}
use Rattle.dictionary.specs.Dictionary.{search_in, search_from}
use Rattle.dictionary.specs.Answers.{said_found}
use Rattle.dictionary.proofs.Laws.Entry.{entry_at_within}
use Rattle.dictionary.proofs.Laws.Walk.{search_from_more}
use borrow.Author.Rules.{rules}
use Rattle.dictionary.proofs.search_sound.Goals as goal

pub loop-init : goal.loop-init
loop-init c =
    let z : length c.args.s.now - 0 ≡ length c.args.s.now = omega arith in
    rw z refl

pub returns-in-Ok-None : goal.returns-in-Ok-None
unfolding search_in
returns-in-Ok-None c =
    let l = c.loop in
    let a = c.args in
    let f =
    search_from_more (length a.s.now - l.counter) a.s.now l.at a.name.now c.entry_at.result (search rules)
    c.entry_at.ensures.value in
    said_too said_found (sym (rw (c.in-Ok-None.is ∙ ap Ok c.in-Ok-None.field-0-is) at f) ∙ l.invariant)

pub returns-in-Err : goal.returns-in-Err
unfolding search_in
returns-in-Err c =
    let l = c.loop in
    let a = c.args in
    let f =
    search_from_more (length a.s.now - l.counter) a.s.now l.at a.name.now c.entry_at.result (search rules)
    c.entry_at.ensures.value in
    said_too said_found (sym (rw c.in-Err.is at f) ∙ l.invariant)

pub returns-then-same : goal.returns-then-same
unfolding search_in
returns-then-same c =
    let l = c.loop in
    let a = c.args in
    let f =
    search_from_more (length a.s.now - l.counter) a.s.now l.at a.name.now c.entry_at.result (search rules)
    c.entry_at.ensures.value in
    said_too said_found
    (sym (rw (c.in-Ok-Some.is, c.in-Ok-Some.field-0-is, ← c.part.ensures, ← c.same.ensures, c.if-same.true) at f) ∙ l.invariant)

pub overflow_add-at : goal.overflow_add-at
overflow_add-at c =
    let l = c.loop in
    let a = c.args in
    let w = entry_at_within a.s.now l.at c.in-Ok-Some.i (sym c.entry_at.ensures.value ∙ c.in-Ok-Some.is ∙ ap Ok c.in-Ok-Some.field-0-is) in
    search rules

pub loop-preserved : goal.loop-preserved
unfolding search_in
loop-preserved c =
    let l = c.loop in
    let a = c.args in
    let f =
    search_from_more (length a.s.now - l.counter) a.s.now l.at a.name.now c.entry_at.result (search rules)
    c.entry_at.ensures.value in
    let less : length a.s.now - (l.counter + 1) ≡ length a.s.now - l.counter - 1 = omega arith in
    rw less (sym (rw (c.in-Ok-Some.is, c.in-Ok-Some.field-0-is, ← c.part.ensures, ← c.same.ensures, c.if-same.false) at f) ∙ l.invariant)

pub returns : goal.returns
unfolding search_from
returns c =
    let z : length c.args.s.now - c.loop.counter ≡ 0 = omega arith in
    said_too said_found (rw (← c.loop.invariant, z))
