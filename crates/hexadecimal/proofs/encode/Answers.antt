-- `hexadecimal::encode` meets its contract. The invariant: the digits of the first i bytes stand over the front.
-- Assumes nothing.
use mathlib.Core.Path.{◌≡◌, sym, ap, ap₂, ◌∙◌}
use mathlib.Core.List.{List}
use Prim.Native.Nat.{ℕ, ◌+◌, ◌*◌, ◌/◌, ◌%◌, ◌≤◌, ◌<◌}
use native.Mathlib.Omega.{arith}
use lib.ListN.{length, get_or, take, set, length-take}
use lib.Seq.{take_all, get_or-take}
use Rattle.slices.specs.Over.{over}
use Rattle.slices.proofs.Laws.Over.{over_nil, over_more}
use Rattle.hexadecimal.specs.Rfc4648.{digit, encode}
use Rattle.hexadecimal.proofs.Laws.Texts.{length-encode, get_or_encode_high, get_or_encode_low}
use Rattle.hexadecimal.proofs.encode.Invariants.{fitting}
use Rattle.hexadecimal.proofs.encode.Goals as goal

-- one byte more
encode_more : (s d : List ℕ) (i x y : ℕ) → i < length s → 2 * length s ≤ length d → x ≡ digit (get_or s i 0 / 16)
    → y ≡ digit (get_or s i 0 % 16)
    → set (set (over (take (2 * i) (encode s)) d) (2 * i) x) (2 * i + 1) y ≡ over (take (2 * (i + 1)) (encode s)) d
encode_more s d i x y h room a b =
    let l = length-encode s in
    let m : 2 * i < length (encode s) = omega arith in
    let n : 2 * i + 1 < length (encode s) = omega arith in
    let e : 2 * i + 1 + 1 ≡ 2 * (i + 1) = omega arith in
    ap₂ (λ (u v : ℕ). set (set (over (take (2 * i) (encode s)) d) (2 * i) u) (2 * i + 1) v)
    (a ∙ sym (get_or_encode_high s i h)) (b ∙ sym (get_or_encode_low s i h))
    ∙ ap (λ (w : List ℕ). set w (2 * i + 1) (get_or (encode s) (2 * i + 1) 0))
    (over_more (encode s) d (2 * i) m (omega arith))
    ∙ over_more (encode s) d (2 * i + 1) n (omega arith)
    ∙ ap (λ (k : ℕ). over (take k (encode s)) d) e

pub loop-i-init : goal.loop-i-init
loop-i-init c = sym (over_nil c.args.out.now)

pub loop-i-preserved : goal.loop-i-preserved
loop-i-preserved c =
    let l = c.loop-i in
    let s = c.args.s.now in
    let d = c.args.out.now in
    let t = length-take (length d / 2) s in
    let h : l.i < length (fitting d s) = omega arith in
    let g = get_or-take (length d / 2) s l.i 0 (omega arith) in
    rw l.invariant
    (encode_more (fitting d s) d l.i _ _ h (omega arith)
    (c.digit.ensures ∙ ap (λ (b : ℕ). digit (b / 16)) (sym g))
    (c.digit-in-loop-i.ensures ∙ ap (λ (b : ℕ). digit (b % 16)) (sym g)))

pub returns : goal.returns
returns c =
    let l = c.loop-i in
    let s = c.args.s.now in
    let d = c.args.out.now in
    let t = length-take (length d / 2) s in
    let e = length-encode (fitting d s) in
    l.invariant ∙ ap (λ (w : List ℕ). over w d) (take_all (2 * l.i) (encode (fitting d s)) (omega arith))
