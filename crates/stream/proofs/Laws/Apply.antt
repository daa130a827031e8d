-- A key stream applied to bytes.
--
-- In order:
--   apply-nil, length-apply    nothing, and the length kept
--   apply-apply                the theorem: applied twice at one position, it gives the bytes back
--   apply-append               the theorem: cut in two, it gives what it gives uncut
--   apply-block                no further than one block reaches
--   apply_within, apply_next   less than a block from a block's start on, and a block before the rest
-- Not here: the stream's bytes (Keystream), loops (Turns).
-- Assumes nothing.
use mathlib.Core.Path.{◌≡◌, refl, sym, ap, ◌∙◌}
use mathlib.Core.List.{List, [], ◌∷◌, ◌++◌}
use Prim.Native.Nat.{ℕ, zero, suc, ◌+◌, ◌*◌, ◌/◌, ◌%◌, ◌≤◌}
use native.Mathlib.Omega.{arith}
use lib.Bits.{bit_xor}
use lib.ListN.{length, take, drop, length-append, take-append-drop}
use lib.Seq.{length-take-le}
use Rattle.words.specs.Xor.{xors}
use Rattle.words.proofs.Laws.Xors.{xors_undo, length-xors, xors-append}
use Rattle.stream.specs.Stream.{keystream, apply}
use Rattle.stream.proofs.Laws.Keystream.{length-keystream, keystream-add, keystream-block}

pub apply-nil : (f : ℕ → List ℕ) (p : ℕ) → apply f p [] ≡ []
unfolding apply xors
apply-nil f p = refl

length_at : (f : ℕ → List ℕ) (q : ℕ) (s : List ℕ) → length (xors s (keystream f q (length s))) ≡ length s
length_at f q s =
    let e = length-keystream f q (length s) in
    length-xors s (keystream f q (length s)) (omega arith)

pub length-apply : (f : ℕ → List ℕ) (p : ℕ) (s : List ℕ) → length (apply f p s) ≡ length s
unfolding apply
length-apply f p s = length_at f _ s

twice_at : (f : ℕ → List ℕ) (q : ℕ) (s t : List ℕ) → t ≡ xors s (keystream f q (length s))
    → xors t (keystream f q (length t)) ≡ s
twice_at f q s t g =
    let k : List ℕ = keystream f q (length s) in
    let e : length k ≡ length s = length-keystream f q (length s) in
    let h : length s ≤ length k = omega arith in
    rw (g, length-xors s k h) (xors_undo s k h)

pub apply-apply : (f : ℕ → List ℕ) (p : ℕ) (s : List ℕ) → apply f p (apply f p s) ≡ s
unfolding apply
apply-apply f p s = twice_at f _ s _ refl

pub apply-append : (f : ℕ → List ℕ) (p : ℕ) (a b : List ℕ) → apply f p (a ++ b)
    ≡ apply f p a ++ apply f (p + length a) b
unfolding apply
apply-append f p a b =
    rw (length-append, keystream-add)
    (let e = sym (length-keystream f p (length a)) in
    xors-append a (keystream f p (length a)) b (keystream f (p + length a) (length b)) e)

-- only the front of the longer list counts
xors_take_r : (n : ℕ) (s t : List ℕ) → length s ≤ n → xors s (take n t) ≡ xors s t
unfolding xors
xors_take_r zero [] t h = refl
xors_take_r zero (x ∷ s) t h = absurd (omega arith)
xors_take_r (suc n) [] t h = refl
xors_take_r (suc n) (x ∷ s) [] h = refl
xors_take_r (suc n) (x ∷ s) (y ∷ t) h =
    let k : length s ≤ n = omega arith in
    ap (λ (l : List ℕ). bit_xor x y ∷ l) (xors_take_r n s t k)

pub apply-block : (f : ℕ → List ℕ) (p : ℕ) (s : List ℕ) → length (f (p / 64)) ≡ 64 → p % 64 + length s ≤ 64
    → apply f p s ≡ xors s (drop (p % 64) (f (p / 64)))
unfolding apply
apply-block f p s l h =
    rw (keystream-block f p (length s) l h) (xors_take_r (length s) s (drop (p % 64) (f (p / 64))) (omega arith))

pub apply_within : (f : ℕ → List ℕ) (c : ℕ) (s : List ℕ) → length (f c) ≡ 64 → length s ≤ 64
    → apply f (64 * c) s ≡ xors s (f c)
apply_within f c s l h =
    let d : 64 * c / 64 ≡ c = omega arith in
    let m : 64 * c % 64 ≡ 0 = omega arith in
    let k : length (f (64 * c / 64)) ≡ 64 = rw d l in
    let b = apply-block f (64 * c) s k (omega arith) in
    rw (d, m) at b

pub apply_next : (f : ℕ → List ℕ) (c : ℕ) (s : List ℕ) → length (f c) ≡ 64 → 64 ≤ length s
    → apply f (64 * c) s ≡ xors (take 64 s) (f c) ++ apply f (64 * (c + 1)) (drop 64 s)
apply_next f c s l h =
    let t : length (take 64 s) ≡ 64 = length-take-le 64 s h in
    let e : 64 * c + length (take 64 s) ≡ 64 * (c + 1) = omega arith in
    let k : length (take 64 s) ≤ 64 = omega arith in
    ap (apply f (64 * c)) (sym (take-append-drop 64 s)) ∙ apply-append f (64 * c) (take 64 s) (drop 64 s)
    ∙ rw (e, apply_within f c (take 64 s) l k)
