-- `outer_header::walk::walk` meets its contract. The invariant: what is left to walk gives what the whole gives.
-- Assumes nothing.
use mathlib.Core.Path.{◌≡◌, sym, ap, ◌∙◌}
use Prim.Native.Nat.{◌+◌, ◌-◌}
use native.Mathlib.Omega.{arith}
use lib.ListN.{length}
use borrow.Author.Tests.{eq-eqb, ne_eqb}
use Rattle.std.proofs.lemmas.Result.{err_from_is_err_and}
use Rattle.outer_header.specs.Kdbx4Header.{walk_in, walk}
use Rattle.outer_header.proofs.Laws.Walk.{field_here_stands, walk_more}
use Rattle.outer_header.specs.declared.walk.Fields.{Fields}
use borrow.Author.Rules.{rules}
use Rattle.outer_header.proofs.walk.walk.Goals as goal

pub loop-init : goal.loop-init
loop-init c =
    let s = c.args.s.now in
    let z : length s - 0 ≡ length s = omega arith in
    rw z (ap (λ (f : Fields). walk (length s) f s 12) c.none-f.ensures)

pub returns-in_err-id : goal.returns-in_err-id
unfolding walk_in
returns-in_err-id c =
    let l = c.loop in
    let s = c.args.s.now in
    let e = c.field_here in
    let m = walk_more (length s - l.counter) l.f s l.at e.result (search rules) e.ensures in
    let r = err_from_is_err_and c.from_residual.result c.from_residual.ensures.1 in
    rw (r.1, r.2) (sym (rw c.in_err-id.was at m) ∙ l.invariant)

pub overflow_add-at : goal.overflow_add-at
overflow_add-at c =
    let l = c.loop in
    let s = c.args.s.now in
    let w = field_here_stands l.f s l.at c.in_ok-id.id c.in_ok-id.p (sym c.field_here.ensures ∙ c.in_ok-id.was) in
    search rules

pub returns-then-ends_right : goal.returns-then-ends_right
unfolding walk_in
returns-then-ends_right c =
    let l = c.loop in
    let s = c.args.s.now in
    let e = c.field_here in
    let m = walk_more (length s - l.counter) l.f s l.at e.result (search rules) e.ensures in
    sym (rw (
      c.in_ok-id.was,
      eq-eqb _ 0 c.if-id-eq0.true,
      ← c.ends_right.ensures,
      c.if-ends_right.true,
    ) at m) ∙ l.invariant

pub returns-then-id-eq0 : goal.returns-then-id-eq0
unfolding walk_in
returns-then-id-eq0 c =
    let l = c.loop in
    let s = c.args.s.now in
    let e = c.field_here in
    let m = walk_more (length s - l.counter) l.f s l.at e.result (search rules) e.ensures in
    sym (rw (
      c.in_ok-id.was,
      eq-eqb _ 0 c.if-id-eq0.true,
      ← c.ends_right.ensures,
      c.if-ends_right.false,
      ← c.begin.ensures,
    ) at m) ∙ l.invariant

pub loop-preserved : goal.loop-preserved
unfolding walk_in
loop-preserved c =
    let l = c.loop in
    let s = c.args.s.now in
    let e = c.field_here in
    let k = length s - l.counter in
    let m = walk_more k l.f s l.at e.result (search rules) e.ensures in
    let less : length s - (l.counter + 1) ≡ k - 1 = omega arith in
    rw (c.put-f.ensures, less) (sym (rw (
      c.in_ok-id.was,
      ne_eqb _ 0 c.if-id-eq0.false,
    ) at m) ∙ l.invariant)

pub returns : goal.returns
unfolding walk
returns c =
    let l = c.loop in
    let z : length c.args.s.now - l.counter ≡ 0 = omega arith in
    rw (← l.invariant, z)
