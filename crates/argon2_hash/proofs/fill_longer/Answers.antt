-- `argon2_hash::fill_longer` meets its contract. The invariant: the first halves of i values stand, v is the next value.
-- Assumes nothing.
use mathlib.Core.Path.{◌≡◌, refl, ap, ◌∙◌}
use Prim.Native.Nat.{ℕ, ◌+◌, ◌-◌, ◌*◌, ◌/◌}
use native.Mathlib.Numerals.{add-one}
use native.Mathlib.Omega.{arith}
use lib.ListN.{length, take}
use Rattle.slices.specs.Over.{laid}
use Rattle.slices.proofs.Laws.Put.{length-put_at}
use Rattle.argon2_hash.specs.LongHash.{value, firsts}
use Rattle.argon2_hash.proofs.Laws.Long.{value_first, value_more, firsts_none, firsts_more, longer_is}
use Rattle.argon2_hash.proofs.fill_longer.Goals as goal

pub loop-i-init : goal.loop-i-init
loop-i-init c =
    let m = c.args.message.now in
    let d = c.args.out.now in
    record {
      long = refl;
      next = value_first (length d) m c.first_value-v.ensures;
      halves = firsts_none (length d) m d;
    }

pub loop-i-preserved : goal.loop-i-preserved
loop-i-preserved c =
    let l = c.loop-i in
    let m = c.args.message.now in
    let d = c.args.out.now in
    let e = c.put.ensures in
    record {
      long = ap length e ∙ length-put_at (32 * l.i) (take 32 l.v) l.out ∙ l.invariant.long;
      next = value_more (length d) m l.i (l.i + 1) (add-one l.i) l.invariant.next c.next_value-w.ensures;
      halves = firsts_more (length d) m d l.i l.invariant.next l.invariant.halves e;
    }

pub returns : goal.returns
returns c =
    let l = c.loop-i in
    let m = c.args.message.now in
    let d = c.args.out.now in
    let r = (length d - 1) / 32 - 1 in
    let e : l.i ≡ r - 1 = omega (arith, c.requires.in_bounds) in
    let f : r - 1 + 1 ≡ r = omega (arith, c.requires.in_bounds) in
    let v : l.v ≡ value (length d) m (r - 1) = l.invariant.next ∙ ap (value (length d) m) e in
    let w : l.out ≡ laid (firsts (length d) m (r - 1)) d =
    l.invariant.halves ∙ ap (λ (n : ℕ). laid (firsts (length d) m n) d) e in
    longer_is (length d) m d r refl c.requires.in_bounds (omega (arith, c.requires.in_bounds)) v
    (firsts_more (length d) m d (r - 1) v w c.put-2.ensures ∙ ap (λ (n : ℕ). laid (firsts (length d) m n) d) f)
    c.next_value-last.ensures c.put-3.ensures
