-- `dictionary::repeats::fill` meets its contract. Assumes nothing.
-- The invariant: the judgement from here, that knows the table's names, is the whole one.
use mathlib.Core.Path.{◌≡◌, refl, sym, ◌∙◌, ap}
use Prim.Native.Nat.{◌+◌, ◌-◌}
use native.Mathlib.Omega.{arith}
use lib.ListN.{length}
use borrow.Author.Rules.{rules}
use Rattle.std.specs.Prelude.{Ok}
use Rattle.dictionary.specs.Order.{key_at, keys_at, held, Rising}
use Rattle.dictionary.specs.Repeats.{judge, Filled}
use Rattle.dictionary.proofs.Laws.Entry.{entry_at_within}
use Rattle.dictionary.proofs.Laws.Judge.{judge_stopped, judge-held, judge_end, judge_broken, judge_added, judge_enough}
use Rattle.dictionary.proofs.Laws.Table.{added_held, added_new}
use Rattle.dictionary.proofs.repeats.fill.Goals as goal

pub loop-init : goal.loop-init
unfolding keys_at Rising
loop-init c =
    let z : length c.args.s.now - 0 ≡ length c.args.s.now = omega arith in
    (rw z refl, tt, omega arith, refl, omega arith, omega arith)

pub returns-in-Ok-None : goal.returns-in-Ok-None
unfolding Filled
returns-in-Ok-None c =
    let l = c.loop in
    let a = c.args in
    judge_end a.stop (length a.s.now - l.counter) a.s.now (held a.s.now a.from l.n l.t) l.at (search rules)
    (sym c.entry_at.ensures.value ∙ c.in-Ok-None.is ∙ ap Ok c.in-Ok-None.field-0-is) ∙ l.invariant.0

pub returns-in-Err : goal.returns-in-Err
unfolding Filled
returns-in-Err c =
    let l = c.loop in
    let a = c.args in
    judge_broken a.stop (length a.s.now - l.counter) a.s.now (held a.s.now a.from l.n l.t) l.at (search rules)
    c.in-Err.b (sym c.entry_at.ensures.value ∙ c.in-Err.is) ∙ l.invariant.0

pub returns-then-stop-at : goal.returns-then-stop-at
unfolding Filled
returns-then-stop-at c =
    let l = c.loop in
    let a = c.args in
    judge_stopped a.stop (length a.s.now - l.counter) a.s.now (held a.s.now a.from l.n l.t) l.at (search rules)
    c.in-Ok-Some.i (sym c.entry_at.ensures.value ∙ c.in-Ok-Some.is ∙ ap Ok c.in-Ok-Some.field-0-is) c.if-stop-at.true ∙ l.invariant.0

pub returns-then-n-t : goal.returns-then-n-t
unfolding Filled
returns-then-n-t c =
    let l = c.loop in
    let w =
    entry_at_within c.args.s.now l.at c.in-Ok-Some.i (sym c.entry_at.ensures.value ∙ c.in-Ok-Some.is ∙ ap Ok c.in-Ok-Some.field-0-is) in
    record {
      within = omega arith;
      rising = l.invariant.1;
      rest =
          judge_enough c.args.stop (length c.args.s.now) (length c.args.s.now - l.counter) c.args.s.now
          (held c.args.s.now c.args.from l.n l.t) l.at (omega arith) (omega arith)
          ∙ l.invariant.0;
      further = omega arith;
      next_le = omega (arith, w);
    }

pub overflow_sub-place : goal.overflow_sub-place
overflow_sub-place c = omega arith

pub returns-then-place-gt4294967295 : goal.returns-then-place-gt4294967295
unfolding Filled
returns-then-place-gt4294967295 c =
    let l = c.loop in
    let w =
    entry_at_within c.args.s.now l.at c.in-Ok-Some.i (sym c.entry_at.ensures.value ∙ c.in-Ok-Some.is ∙ ap Ok c.in-Ok-Some.field-0-is) in
    record {
      within = omega arith;
      rising = l.invariant.1;
      rest =
          judge_enough c.args.stop (length c.args.s.now) (length c.args.s.now - l.counter) c.args.s.now
          (held c.args.s.now c.args.from l.n l.t) l.at (omega arith) (omega arith)
          ∙ l.invariant.0;
      further = omega arith;
      next_le = omega (arith, w);
    }

pub add-requires : goal.add-requires
add-requires c =
    let l = c.loop in
    let w =
    entry_at_within c.args.s.now l.at c.in-Ok-Some.i (sym c.entry_at.ensures.value ∙ c.in-Ok-Some.is ∙ ap Ok c.in-Ok-Some.field-0-is) in
    record {
      n_in_bounds = omega arith;
      place_in_bounds = omega (arith, w);
      rising = l.invariant.1;
    }

pub returns-then-add : goal.returns-then-add
unfolding Filled
returns-then-add c =
    let u = c.if-stop-at.false in
    let l = c.loop in
    let a = c.args in
    let ks = held a.s.now a.from l.n l.t in
    let p : a.from + (l.at - a.from) ≡ l.at = omega arith in
    let f =
    added_held (key_at a.s.now (a.from + (l.at - a.from))) ks
    (held a.s.now a.from (l.n + 1) c.add.new.t)
    c.add.result c.add.ensures c.if-add.true in
    judge-held a.stop (length a.s.now - l.counter) a.s.now ks l.at (search rules) c.in-Ok-Some.i
    (sym c.entry_at.ensures.value ∙ c.in-Ok-Some.is ∙ ap Ok c.in-Ok-Some.field-0-is) u (rw p at f) ∙ l.invariant.0

pub overflow_add-n : goal.overflow_add-n
overflow_add-n c = omega arith

pub overflow_add-at : goal.overflow_add-at
overflow_add-at c =
    let l = c.loop in
    let a = c.args in
    let w = entry_at_within a.s.now l.at c.in-Ok-Some.i (sym c.entry_at.ensures.value ∙ c.in-Ok-Some.is ∙ ap Ok c.in-Ok-Some.field-0-is) in
    omega (arith, w)

pub loop-preserved : goal.loop-preserved
loop-preserved c =
    let u = c.if-stop-at.false in
    let l = c.loop in
    let a = c.args in
    let s = a.s.now in
    let ks = held s a.from l.n l.t in
    let ls = held s a.from (l.n + 1) c.add.new.t in
    let p : a.from + (l.at - a.from) ≡ l.at = omega arith in
    let f =
    added_new (key_at s (a.from + (l.at - a.from))) ks ls c.add.result c.add.ensures c.if-add.false in
    let g = rw p at f in
    let q = sym c.entry_at.ensures.value ∙ c.in-Ok-Some.is ∙ ap Ok c.in-Ok-Some.field-0-is in
    let less : length s - (l.counter + 1) ≡ length s - l.counter - 1 = omega arith in
    let w = entry_at_within s l.at c.in-Ok-Some.i q in (
      rw less (judge_added a.stop (length s - l.counter) s ks ls l.at c.in-Ok-Some.i (search rules) q u g.0 g.2 ∙ l.invariant.0),
      g.1,
      omega (arith, c.add.auto.t),
      c.add.auto.t ∙ l.invariant.3,
      omega (arith, w),
      omega (arith, w),
    )

pub returns : goal.returns
unfolding Filled judge
returns c = let z : length c.args.s.now - c.loop.counter ≡ 0 = omega arith in rw (← c.loop.invariant.0, z)

pub shape_of-t-in-Ok-None : goal.shape_of-t-in-Ok-None
shape_of-t-in-Ok-None c = omega arith

pub shape_of-t-in-Err : goal.shape_of-t-in-Err
shape_of-t-in-Err c = omega arith

pub shape_of-t-then-stop-at : goal.shape_of-t-then-stop-at
shape_of-t-then-stop-at c = omega arith

pub shape_of-t-then-n-t : goal.shape_of-t-then-n-t
shape_of-t-then-n-t c = omega arith

pub shape_of-t-then-place-gt4294967295 : goal.shape_of-t-then-place-gt4294967295
shape_of-t-then-place-gt4294967295 c = omega arith

pub overflow_cast-place : goal.overflow_cast-place
overflow_cast-place c = omega arith

pub shape_of-t-then-add : goal.shape_of-t-then-add
shape_of-t-then-add c = omega arith

pub shape_of-t : goal.shape_of-t
shape_of-t c = omega arith
