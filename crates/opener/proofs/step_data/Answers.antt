-- `opener::step_data` meets its contract. Assumes nothing.
use Rattle.std.specs.Prelude.{Ok}
use mathlib.Core.Path.{◌≡◌, ap, ◌∙◌}
use mathlib.Core.List.{List}
use Prim.Native.Nat.{ℕ, ◌+◌, ◌-◌, ◌≤◌, ◌<◌}
use native.Mathlib.Omega.{arith}
use lib.ListN.{length, take, drop}
use Rattle.slices.specs.Over.{over}
use Rattle.refusals.specs.declared.Refusal.TheVariants.{NoRoom}
use Rattle.opening.specs.declared.Opener.{Opener}
use Rattle.opening.specs.Runs.{refuse}
use Rattle.opening.specs.Steps.{bytes_by, taking}
use Rattle.opener.specs.Counts.{due_by}
use Rattle.opener.proofs.Laws.Replies.{refuse_does, does_by, data_short, data_does, length_data}
use borrow.Author.Rules.{rules}
use Rattle.opener.proofs.step_data.Goals as goal

-- the part of the file that is lent is the block's data
part_is : (f : List ℕ) (at n : ℕ) → take (at + 36 + n - (at + 36)) (drop (at + 36) f) ≡ take n (drop (at + 36) f)
part_is f at n =
    let e : at + 36 + n - (at + 36) ≡ n = omega arith in
    ap (λ (j : ℕ). take j (drop (at + 36) f)) e

pub returns-then-out-need : goal.returns-then-out-need
returns-then-out-need c =
    let long_prev : length c.args.o.prev ≡ 16 = search rules in
    let long_held : length c.args.o.held ≡ 16 = search rules in
    let a = c.args in
    let e = c.due-need.ensures in
    let l = c.if-out-need.true in
    let k : length a.out.now < due_by a.o.keys.cipher a.o.taken a.n = omega (arith, e, l) in
    does_by _ (refuse NoRoom a.o) _ a.out.now a.out.now
    (data_short a.f.now a.o a.n c.requires.n_in_bounds long_prev long_held (length a.out.now) k)
    (refuse_does NoRoom a.o _ a.out.now c.refuse.ensures)

pub take_block-next-requires : goal.take_block-next-requires
take_block-next-requires c =
    let a = c.args in
    let fits : a.o.at + 36 + a.n ≤ length a.f.now = c.requires.n_in_bounds in
    let p = ap length (part_is a.f.now a.o.at a.n) ∙ length_data a.f.now a.o a.n fits in
    let e = c.due-need.ensures in
    let l = c.if-out-need.false in
    let b = c.requires.f_len_bound in
    record {
      d_in_bounds = rw p (omega (arith, e, l));
      taken_bound = c.requires.taken_bound;
      d_bound = omega (arith, p, b, fits);
    }

pub returns : goal.returns
returns c =
    let long_prev : length c.args.o.prev ≡ 16 = search rules in
    let long_held : length c.args.o.held ≡ 16 = search rules in
    let a = c.args in
    let o = a.o in
    let d = a.out.now in
    let k = c.due-need.result in
    let t = c.take_block-next.ensures in
    let p = part_is a.f.now o.at a.n in
    data_does a.f.now o a.n c.requires.n_in_bounds long_prev long_held d _ k _ c.due-need.ensures
    c.if-out-need.false
    (ap (λ (x : Opener). record { answer = Ok k; next = x }) (t.value ∙ ap (taking o) p))
    (t.out_after ∙ ap (λ (b : List ℕ). over (bytes_by o.keys.cipher o.keys o.taken o.prev o.held b) d) p)
