-- A loop that applies a block a turn, from any position on.
--
-- In order:
--   length-xors-min                            as long as the shorter
--   xors_more, xors_all                        a block applied byte by byte
--   turn-le, turn-lt                           how far a turn comes
--   Applied                                    a loop's invariant: the stream is applied to the first bytes
--   applied_none, applied_more, applied_all    no byte yet, one block more, all bytes
-- Assumes nothing.
use mathlib.Core.Path.{◌≡◌, refl, sym, ap, ◌∙◌}
use mathlib.Core.List.{List, [], ◌∷◌, ◌++◌}
use Prim.Native.Nat.{ℕ, suc, ◌+◌, ◌-◌, ◌/◌, ◌%◌, ◌≤◌, ◌<◌, min}
use native.Mathlib.Nat.{add-zero, zero-min, min-zero, suc-min-suc}
use native.Mathlib.Omega.{arith}
use lib.Bits.{bit_xor}
use lib.ListN.{length, get_or, set, take, drop, length-drop}
use lib.Seq.{take_all, take-add, get_or-drop, length-take-le}
use Rattle.words.specs.Xor.{xors}
use Rattle.words.proofs.Laws.Xors.{get_or-xors}
use Rattle.slices.specs.Over.{over}
use Rattle.slices.proofs.Laws.Over.{length_over, over_nil, over_all, over_more, drop_over, over_tail}
use Rattle.slices.proofs.Laws.Parts.{part-tail}
use Rattle.stream.specs.Stream.{apply}
use Rattle.stream.proofs.Laws.Apply.{apply-nil, length-apply, apply-append, apply-block}

pub length-xors-min : (s t : List ℕ) → length (xors s t) ≡ min (length s) (length t)
unfolding xors
length-xors-min [] t = rw zero-min
length-xors-min (x ∷ s) [] = rw min-zero
length-xors-min (x ∷ s) (y ∷ t) = rw suc-min-suc (ap suc (length-xors-min s t))

-- what stands behind the bytes written
get_d_over : (w d : List ℕ) (i : ℕ) → length w ≡ i → get_or (over w d) i 0 ≡ get_or d i 0
get_d_over w d i e =
    let z : i + 0 ≡ i = add-zero i in
    rw z at (sym (get_or-drop i (over w d) 0 0) ∙ ap (λ (l : List ℕ). get_or l 0 0) (drop_over w d i e) ∙ get_or-drop i d 0 0)

-- how many bytes a block covers from a place on
length-block : (d b : List ℕ) (from : ℕ) → length b ≡ 64 → length (xors d (drop from b)) ≡ min (length d) (64 - from)
length-block d b from l = length-xors-min d (drop from b) ∙ rw (length-drop, l)

-- one byte more
pub xors_more : (d b w : List ℕ) (from i : ℕ) → length b ≡ 64 → i < min (length d) (64 - from)
    → w ≡ over (take i (xors d (drop from b))) d
    → set w i (bit_xor (get_or w i 0) (get_or b (from + i) 0)) ≡ over (take (i + 1) (xors d (drop from b))) d
xors_more d b w from i l h e =
    let x : List ℕ = xors d (drop from b) in
    let n : length x ≡ min (length d) (64 - from) = length-block d b from l in
    let k : i < length x = omega arith in
    let j : i < length d = omega arith in
    let m : i < length (drop from b) = simp length-drop (omega arith) in
    let t : length (take i x) ≡ i = length-take-le i x (omega arith) in
    let g : get_or x i 0 ≡ bit_xor (get_or d i 0) (get_or b (from + i) 0) = get_or-xors d (drop from b) i j m ∙ rw get_or-drop in
    rw (e, get_d_over (take i x) d i t, ← g) (over_more x d i k j)

-- all of them
pub xors_all : (d b : List ℕ) (from i : ℕ) → length b ≡ 64 → i ≡ min (length d) (64 - from)
    → over (take i (xors d (drop from b))) d ≡ over (xors d (drop from b)) d
xors_all d b from i l e =
    let n = length-block d b from l in
    let k : length (xors d (drop from b)) ≤ i = omega arith in
    ap (λ (w : List ℕ). over w d) (take_all i (xors d (drop from b)) k)

xors-take-min : (s t : List ℕ) → xors (take (min (length s) (length t)) s) t ≡ xors s t
unfolding xors
xors-take-min [] t = rw zero-min
xors-take-min (x ∷ s) [] = rw min-zero
xors-take-min (x ∷ s) (y ∷ t) = rw suc-min-suc (ap (λ (l : List ℕ). bit_xor x y ∷ l) (xors-take-min s t))

-- the bytes that one block covers
apply_front : (f : ℕ → List ℕ) (q : ℕ) (t : List ℕ) (r : ℕ) → length (f (q / 64)) ≡ 64 → r
    ≡ min (length t) (64 - q % 64)
    → apply f q (take r t) ≡ xors t (drop (q % 64) (f (q / 64)))
apply_front f q t r l e =
    let u : List ℕ = drop (q % 64) (f (q / 64)) in
    let n : length u ≡ 64 - q % 64 = simp length-drop (omega arith) in
    let k : length (take r t) ≡ r = length-take-le r t (omega arith) in
    let m : r ≡ min (length t) (length u) = omega arith in
    apply-block f q (take r t) l (omega arith) ∙ ap (λ (i : ℕ). xors (take i t) u) m ∙ xors-take-min t u

-- the tail from `done` on, lent to a writer that applies the block to it
apply-turn : (f : ℕ → List ℕ) (p : ℕ) (d xs ys b : List ℕ) (done k r : ℕ) → length (f ((p + done) / 64)) ≡ 64
    → xs ≡ over (apply f p (take done d)) d → done ≤ length d → k ≡ length d - done → b ≡ f ((p + done) / 64)
    → r ≡ min (length (take k (drop done xs))) (64 - (p + done) % 64)
    → ys ≡ over (xors (take k (drop done xs)) (drop ((p + done) % 64) b)) (take k (drop done xs))
    → take done xs ++ (ys ++ drop k (drop done xs)) ≡ over (apply f p (take (done + r) d)) d
apply-turn f p d xs ys b done k r l x h e g n y =
    let w : List ℕ = apply f p (take done d) in
    let t : length (take done d) ≡ done = length-take-le done d h in
    let v : length w ≡ done = length-apply f p (take done d) ∙ t in
    let short : length (drop done d) ≤ k = simp length-drop (omega arith) in
    let tail : take k (drop done xs) ≡ drop done d = rw (x, drop_over w d done v) (take_all k (drop done d) short) in
    let n' : r ≡ min (length (drop done d)) (64 - (p + done) % 64) = rw tail at n in
    let v' : List ℕ = drop ((p + done) % 64) b in
    let u : List ℕ = xors (drop done d) v' in
    let y' : ys ≡ over u (take k (drop done xs)) =
    y ∙ ap (λ (z : List ℕ). over (xors z v') (take k (drop done xs))) tail in
    let front : apply f p (take (done + r) d) ≡ w ++ u =
    rw (take-add, apply-append, t, apply_front f (p + done) (drop done d) r l n', g) in
    rw front (over_tail w u d xs ys done k x v h e y')

-- how far a turn comes: no further than the end, and by a byte at least
pub turn-le : (xs : List ℕ) (done place r : ℕ) → done ≤ length xs
    → r ≡ min (length (take (length xs - done) (drop done xs))) (64 - place) → done + r ≤ length xs
turn-le xs done place r h e =
    let n = ap length (part-tail done xs) ∙ length-drop done xs in
    omega arith

pub turn-lt : (xs : List ℕ) (done place r : ℕ) → done < length xs → place < 64
    → r ≡ min (length (take (length xs - done) (drop done xs))) (64 - place) → done < done + r
turn-lt xs done place r h k e =
    let n = ap length (part-tail done xs) ∙ length-drop done xs in
    omega arith

-- the stream is applied to the first `done` bytes of d, whose first byte stands at position p: xs is what stands there
abbrev pub Applied : (ℕ → List ℕ) → ℕ → List ℕ → List ℕ → ℕ → Type 0
Applied f p d xs done = (done ≤ length d) × (length xs ≡ length d) × (xs ≡ over (apply f p (take done d)) d)

-- no byte yet
pub applied_none : (f : ℕ → List ℕ) (p : ℕ) (d : List ℕ) → Applied f p d d 0
applied_none f p d = (omega arith, refl, sym (rw apply-nil (over_nil d)))

-- the length stays
length-applied : (f : ℕ → List ℕ) (p : ℕ) (d : List ℕ) (n : ℕ) → n ≤ length d
    → length (over (apply f p (take n d)) d) ≡ length d
length-applied f p d n h =
    let e = length-apply f p (take n d) ∙ length-take-le n d h in
    let k : length (apply f p (take n d)) ≤ length d = omega arith in
    length_over (apply f p (take n d)) d k

-- one block more, by `xor_block` on the tail
pub applied_more : (f : ℕ → List ℕ) (p : ℕ) (d xs ys b : List ℕ) (done place r : ℕ) → length (f ((p + done) / 64)) ≡ 64
    → Applied f p d xs done → b ≡ f ((p + done) / 64) → place ≡ (p + done) % 64
    → r ≡ min (length (take (length xs - done) (drop done xs))) (64 - place)
    → ys ≡ over (xors (take (length xs - done) (drop done xs)) (drop place b)) (take (length xs - done) (drop done xs))
    → Applied f p d (take done xs ++ (ys ++ drop (length xs - done) (drop done xs))) (done + r)
applied_more f p d xs ys b done place r l a c q n y =
    let h : done + r ≤ length d =
    let g = turn-le xs done place r (omega arith) n in omega arith in
    let k : length xs - done ≡ length d - done = omega arith in
    let e = apply-turn f p d xs ys b done (length xs - done) r l a.2 a.0 k c (rw q at n) (rw q at y) in
    (h, ap length e ∙ length-applied f p d (done + r) h, e)

-- all bytes
pub applied_all : (f : ℕ → List ℕ) (p : ℕ) (d xs : List ℕ) (done : ℕ) → Applied f p d xs done → length xs ≤ done
    → xs ≡ apply f p d
applied_all f p d xs done a h =
    let n = length-apply f p d in
    let k : length d ≤ length (apply f p d) = omega arith in
    a.2 ∙ ap (λ (s : List ℕ). over (apply f p s) d) (take_all done d (omega arith)) ∙ over_all (apply f p d) d k
