-- `dictionary::repeats::judge` meets its contract. Assumes nothing.
-- The invariant: the judgement from here is the whole one.
use mathlib.Core.Path.{refl, sym, ◌∙◌}
use mathlib.Core.List.{[]}
use Prim.Native.Nat.{ℕ}
use native.Mathlib.Omega.{arith}
use lib.ListN.{length, length-replicate}
use borrow.Author.Rules.{rules}
use Rattle.dictionary.proofs.Laws.Judge.{judge_past, filled_done, filled_full, full_met}
use Rattle.dictionary.proofs.repeats.judge.Goals as goal

pub loop-init : goal.loop-init
loop-init c = (refl, length-replicate {A = ℕ} 4096 0, omega arith, omega arith)

pub slice_bounds-fill-end : goal.slice_bounds-fill-end
slice_bounds-fill-end c = sym c.loop.invariant.1

pub fill-requires : goal.fill-requires
fill-requires c =
    record {
      t_nonzero = omega arith;
      from_in_bounds = omega arith;
    }

pub enum_known-o : goal.enum_known-o
enum_known-o c = search rules

pub returns-in-Done : goal.returns-in-Done
returns-in-Done c =
    let l = c.loop in
    let s = c.args.s.now in
    filled_done s l.at l.stop c.fill.new.t c.fill.result c.in-Done.o
    c.fill.ensures c.in-Done.is
    ∙ l.invariant.0

pub enum_known-held : goal.enum_known-held
enum_known-held c = search rules

pub slice_bounds-met-end : goal.slice_bounds-met-end
slice_bounds-met-end c =
    sym (c.fill.auto.t ∙ c.loop.invariant.1)

pub met-stop-requires : goal.met-stop-requires
met-stop-requires c =
    let l = c.loop in
    let s = c.args.s.now in
    let u =
    filled_full s l.at l.stop c.fill.new.t c.fill.result c.in-Full.held c.in-Full.next c.fill.ensures
    c.in-Full.is in
    record {
      n_in_bounds = u.within;
      base_in_bounds = l.invariant.2;
      rising = u.rising;
    }

pub loop-preserved : goal.loop-preserved
loop-preserved c =
    let l = c.loop in
    let s = c.args.s.now in
    let u =
    filled_full s l.at l.stop c.fill.new.t c.fill.result c.in-Full.held c.in-Full.next c.fill.ensures
    c.in-Full.is in (
      full_met s l.at l.stop c.fill.new.t c.in-Full.held c.in-Full.next u
          c.met-stop.result c.met-stop.ensures
          ∙ l.invariant.0,
      c.fill.auto.t ∙ l.invariant.1,
      u.next_le,
      omega (arith, u.further),
    )

pub returns : goal.returns
returns c =
    let l = c.loop in
    let s = c.args.s.now in
    sym (judge_past l.stop (length s) s [] l.at (omega arith)) ∙ l.invariant.0
