-- Padding written behind a payload that stands at the front of a lent slice.
--
-- In order: take_sixteen (the bytes copied), padded_short (no room), padded_behind (as much as there is room for).
-- Assumes nothing.
use mathlib.Core.Path.{◌≡◌, refl, sym, ap, ◌∙◌}
use mathlib.Core.List.{List, ◌++◌}
use Prim.Native.Nat.{ℕ, ◌+◌, ◌-◌, ◌≤◌, ◌<◌}
use native.Mathlib.Omega.{arith}
use lib.ListN.{length, take, drop, replicate, length-drop, length-replicate, replicate-append-replicate}
use lib.Seq.{take_all, take_at, take-append-add, length-take-le}
use Rattle.slices.specs.Over.{over}
use Rattle.slices.proofs.Laws.Over.{over_all, over_own, over_tail}
use Rattle.pkcs7.specs.Pkcs7.{padding_length, padding_string, pad}
use Rattle.pkcs7.specs.Answer.{padded}

pub take_sixteen : (p : ℕ) → p ≤ 16 → take p (replicate 16 p) ≡ replicate p p
take_sixteen p h =
    let e : p + (16 - p) ≡ 16 = omega arith in
    ap (take p) (sym (replicate-append-replicate p (16 - p) p ∙ ap (λ (n : ℕ). replicate n p) e))
    ∙ take_at (replicate p p) (replicate (16 - p) p) p (length-replicate p p)

pub padded_short : (d : List ℕ) (n : ℕ) → length d < n → d ≡ padded n d
unfolding padded pad
padded_short d n h =
    let l : length d ≤ n = omega arith in
    let k : length d ≤ length d = omega arith in
    sym (rw (take_all n d l, take_at d (padding_string (length d)) (length d) refl) (over_all d d k))

-- the front of a payload of n bytes with its padding
take-padded : (f : List ℕ) (n k p : ℕ) → length f ≡ n → p ≡ padding_length n
    → take (n + k) (pad f) ≡ f ++ take k (replicate p p)
unfolding pad
take-padded f n k p t q = rw (t, ← q) (rw t at (take-append-add f (replicate p p) k))

pub padded_behind : (d ys : List ℕ) (n k p : ℕ) → n ≤ length d → k ≡ length d - n → p ≡ padding_length n
    → ys ≡ over (take (length (take k (drop n d))) (take p (replicate 16 p))) (take k (drop n d))
    → take n d ++ (ys ++ drop k (drop n d)) ≡ padded n d
unfolding padded
padded_behind d ys n k p h e q g =
    let t : length (take n d) ≡ n = length-take-le n d h in
    let u : length (drop n d) ≡ k = simp length-drop (omega arith) in
    let v : length (take k (drop n d)) ≡ k = length-take-le k (drop n d) (omega arith) in
    let m : p ≤ 16 = omega arith in
    let l : length d ≡ n + k = omega arith in
    let y : ys ≡ over (take k (replicate p p)) (take k (drop n d)) = g ∙ rw (v, take_sixteen p m) in
    rw (l, take-padded (take n d) n k p t q)
    (over_tail (take n d) (take k (replicate p p)) d d ys n k (sym (over_own n d h)) t h e y)
