-- `hexadecimal::decode` meets its contract. The invariant: the bytes of the first i pairs of digits stand over the front.
-- Assumes nothing.
use mathlib.Core.Path.{◌≡◌, sym, ap, ap₂, ◌∙◌}
use mathlib.Core.List.{List}
use Prim.Native.Nat.{ℕ, ◌+◌, ◌*◌, ◌/◌, ◌<◌, min}
use native.Mathlib.Omega.{arith}
use lib.ListN.{length, get_or, take, set}
use Rattle.slices.specs.Over.{over}
use Rattle.slices.proofs.Laws.Over.{over_nil, over_more}
use Rattle.std.proofs.lemmas.List.{take_min}
use Rattle.hexadecimal.specs.Rfc4648.{value, decode}
use Rattle.hexadecimal.proofs.Laws.Digits.{value-lt}
use Rattle.hexadecimal.proofs.Laws.Texts.{length-decode, get_or-decode}
use Rattle.hexadecimal.proofs.decode.Goals as goal

-- one byte more
decode_more : (s d : List ℕ) (i x y : ℕ) → i < length s / 2 → i < length d → x ≡ value (get_or s (2 * i) 0)
    → y ≡ value (get_or s (2 * i + 1) 0)
    → set (over (take i (decode s)) d) i (16 * x + y) ≡ over (take (i + 1) (decode s)) d
decode_more s d i x y h k a b =
    let l = length-decode s in
    ap (set (over (take i (decode s)) d) i) (ap₂ (λ (u v : ℕ). 16 * u + v) a b ∙ sym (get_or-decode s i h))
    ∙ over_more (decode s) d i (omega arith) k

pub loop-i-init : goal.loop-i-init
loop-i-init c = sym (over_nil c.args.out.now)

-- a byte holds what two digits stand for
pub overflow_mul-out : goal.overflow_mul-out
overflow_mul-out c =
    let l = c.loop-i in
    let s = c.args.s.now in
    omega (arith, value-lt (get_or s (2 * l.i) 0), value-lt (get_or s (2 * l.i + 1) 0))

pub overflow_add-out : goal.overflow_add-out
overflow_add-out c =
    let l = c.loop-i in
    let s = c.args.s.now in
    omega (arith, value-lt (get_or s (2 * l.i) 0), value-lt (get_or s (2 * l.i + 1) 0))

pub loop-i-preserved : goal.loop-i-preserved
loop-i-preserved c =
    let l = c.loop-i in
    rw l.invariant
    (decode_more c.args.s.now c.args.out.now l.i _ _ (omega arith) (omega arith) c.value.ensures
    c.value-in-loop-i.ensures)

pub returns : goal.returns
returns c =
    let l = c.loop-i in
    let s = c.args.s.now in
    let d = c.args.out.now in
    let k = length-decode s in
    let e : l.i ≡ min (length d) (length (decode s)) = omega arith in
    l.invariant
    ∙ ap (λ (w : List ℕ). over w d) (ap (λ (n : ℕ). take n (decode s)) e ∙ take_min (length d) (decode s))
