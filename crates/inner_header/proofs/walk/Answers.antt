-- `inner_header::walk` meets its contract. The invariant: what is kept is that of some fields, and the walk from here
-- with them is the whole walk. Assumes nothing.
use mathlib.Core.Path.{◌≡◌, refl, sym, ap, ◌∙◌}
use Prim.Native.Nat.{◌+◌, ◌-◌}
use native.Mathlib.Omega.{arith}
use borrow.Author.Tests.{eq-eqb, ne_eqb}
use lib.ListN.{length}
use Rattle.std.specs.Prelude.{Ok}
use Rattle.std.proofs.lemmas.Result.{err_from_is_err_and}
use Rattle.inner_header.specs.InnerHeader.{no_fields, put, Walked, walk_in, walk}
use Rattle.inner_header.specs.declared.Tally.{Tally}
use Rattle.inner_header.specs.Tally.{tallied, put_tally}
use Rattle.inner_header.proofs.Laws.Walk.{field_of_stands, walk_turn, put_tally_is, put_tally-le}
use borrow.Author.Rules.{rules}
use Rattle.inner_header.proofs.walk.Goals as goal

pub loop-init : goal.loop-init
loop-init c =
    let z : length c.args.s.now - 0 ≡ length c.args.s.now = omega arith in
    (no_fields, refl, rw z refl, omega arith)

pub returns-in_err-id : goal.returns-in_err-id
unfolding walk_in tallied
returns-in_err-id c =
    let l = c.loop in
    let a = c.args in
    let e = c.field_of in
    let k = length a.s.now - l.counter in
    let m = walk_turn k a.index l.invariant.0 l.t a.s.now l.at e.result (search rules) l.invariant.1 e.ensures in
    let r = err_from_is_err_and c.from_residual.result c.from_residual.ensures.1 in
    rw (r.1, r.2) (ap (λ (w : Walked). tallied a.index w) (sym (rw (c.in_err-id.was) at m) ∙ l.invariant.2))

pub overflow_add-at : goal.overflow_add-at
overflow_add-at c =
    let l = c.loop in
    let a = c.args in
    let w = field_of_stands l.t.algorithm l.t.key a.s.now l.at c.in_ok-id.id c.in_ok-id.p
    (sym c.field_of.ensures ∙ c.in_ok-id.was) in
    search rules

pub returns-then-id-eq0 : goal.returns-then-id-eq0
unfolding walk_in tallied
returns-then-id-eq0 c =
    let l = c.loop in
    let a = c.args in
    let e = c.field_of in
    let p = c.in_ok-id.p in
    let k = length a.s.now - l.counter in
    let m = walk_turn k a.index l.invariant.0 l.t a.s.now l.at e.result (search rules) l.invariant.1 e.ensures in
    ap (λ (u : Tally). Ok (u, p.start + p.length)) l.invariant.1
    ∙ ap (λ (w : Walked). tallied a.index w) (sym (rw (c.in_ok-id.was, eq-eqb _ 0 c.if-id-eq0.true) at m) ∙ l.invariant.2)

pub loop-preserved : goal.loop-preserved
unfolding walk_in
loop-preserved c =
    let l = c.loop in
    let a = c.args in
    let id = c.in_ok-id.id in
    let p = c.in_ok-id.p in
    let f = l.invariant.0 in
    let e = c.field_of in
    let k = length a.s.now - l.counter in
    let m = walk_turn k a.index f l.t a.s.now l.at e.result (search rules) l.invariant.1 e.ensures in
    let q = c.put-t.ensures in
    let b = rw (← q) at (put_tally-le l.t a.index id p) in
    let d = l.invariant.3 in
    let less : length a.s.now - (l.counter + 1) ≡ k - 1 = omega arith in (
      put f id p,
      q ∙ ap (λ (u : Tally). put_tally u a.index id p) l.invariant.1 ∙ put_tally_is a.index f id p,
      rw less (sym (rw (c.in_ok-id.was, ne_eqb _ 0 c.if-id-eq0.false) at m) ∙ l.invariant.2),
      omega arith,
    )

pub returns : goal.returns
unfolding walk tallied
returns c =
    let l = c.loop in
    let a = c.args in
    let z : length a.s.now - l.counter ≡ 0 = omega arith in
    ap (λ (w : Walked). tallied a.index w) (rw z at l.invariant.2)
