-- `dictionary::repeats::met` meets its contract. Assumes nothing.
-- The invariant: the walk from here, over the items left, is the whole walk.
use mathlib.Core.Path.{◌≡◌, refl, sym, ◌∙◌, ap}
use Prim.Native.Nat.{◌+◌, ◌-◌}
use native.Mathlib.Omega.{arith}
use lib.ListN.{length}
use borrow.Author.Rules.{rules}
use Rattle.std.specs.Prelude.{Ok}
use Rattle.dictionary.specs.Order.{key_at, held}
use Rattle.dictionary.specs.Repeats.{met}
use Rattle.dictionary.proofs.Laws.Entry.{entry_at_within}
use Rattle.dictionary.proofs.Laws.Judge.{met_stopped, met_held, met_free, met_end, met_broken}
use Rattle.dictionary.proofs.Laws.Table.{located_held, located_none}
use Rattle.dictionary.proofs.repeats.met.Goals as goal

pub loop-init : goal.loop-init
loop-init c =
    let z : length c.args.s.now - 0 ≡ length c.args.s.now = omega arith in
    rw z refl

pub returns-in-Ok-None : goal.returns-in-Ok-None
returns-in-Ok-None c =
    let l = c.loop in
    let a = c.args in
    met_end a.stop (length a.s.now - l.counter) a.s.now (held a.s.now a.base a.n a.t.now) l.at (search rules)
    (sym c.entry_at.ensures.value ∙ c.in-Ok-None.is ∙ ap Ok c.in-Ok-None.field-0-is) ∙ l.invariant

pub returns-in-Err : goal.returns-in-Err
returns-in-Err c =
    let l = c.loop in
    let a = c.args in
    met_broken a.stop (length a.s.now - l.counter) a.s.now (held a.s.now a.base a.n a.t.now) l.at (search rules)
    c.in-Err.field-0 (sym c.entry_at.ensures.value ∙ c.in-Err.is) ∙ l.invariant

pub returns-then-stop-at : goal.returns-then-stop-at
returns-then-stop-at c =
    let l = c.loop in
    let a = c.args in
    met_stopped a.stop (length a.s.now - l.counter) a.s.now (held a.s.now a.base a.n a.t.now) l.at (search rules)
    c.in-Ok-Some.i (sym c.entry_at.ensures.value ∙ c.in-Ok-Some.is ∙ ap Ok c.in-Ok-Some.field-0-is) c.if-stop-at.true ∙ l.invariant

pub locate-requires : goal.locate-requires
locate-requires c =
    let l = c.loop in
    let w = entry_at_within c.args.s.now l.at c.in-Ok-Some.i (sym c.entry_at.ensures.value ∙ c.in-Ok-Some.is ∙ ap Ok c.in-Ok-Some.field-0-is) in
    record {
      n_in_bounds = c.requires.n_in_bounds;
      base_in_bounds = c.requires.base_in_bounds;
      at_in_bounds = omega (arith, w);
      rising = c.requires.rising;
    }

pub returns-in-Held : goal.returns-in-Held
returns-in-Held c =
    let l = c.loop in
    let a = c.args in
    let ks = held a.s.now a.base a.n a.t.now in
    met_held a.stop (length a.s.now - l.counter) a.s.now ks l.at (search rules) c.in-Ok-Some.i (sym c.entry_at.ensures.value ∙ c.in-Ok-Some.is ∙ ap Ok c.in-Ok-Some.field-0-is)
    c.if-stop-at.false
    (located_held ks (key_at a.s.now l.at) c.locate.result c.locate.ensures c.in-Held.is)
    ∙ l.invariant

pub overflow_add-at : goal.overflow_add-at
overflow_add-at c =
    let l = c.loop in
    let a = c.args in
    let w = entry_at_within a.s.now l.at c.in-Ok-Some.i (sym c.entry_at.ensures.value ∙ c.in-Ok-Some.is ∙ ap Ok c.in-Ok-Some.field-0-is) in
    search rules

pub loop-preserved : goal.loop-preserved
loop-preserved c =
    let l = c.loop in
    let a = c.args in
    let ks = held a.s.now a.base a.n a.t.now in
    let less : length a.s.now - (l.counter + 1) ≡ length a.s.now - l.counter - 1 = omega arith in
    rw less (met_free a.stop (length a.s.now - l.counter) a.s.now ks l.at (search rules) c.in-Ok-Some.i (sym c.entry_at.ensures.value ∙ c.in-Ok-Some.is ∙ ap Ok c.in-Ok-Some.field-0-is)
    c.if-stop-at.false
    (located_none ks (key_at a.s.now l.at) c.in-Free.field-0 c.locate.result c.locate.ensures c.in-Free.is) ∙ l.invariant)

pub returns : goal.returns
unfolding met
returns c = let z : length c.args.s.now - c.loop.counter ≡ 0 = omega arith in rw (← c.loop.invariant, z)
