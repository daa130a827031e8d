-- PKCS #7: what was padded is accepted and comes back, and what is accepted was padded.
--
-- In order:
--   all_are-replicate, replicate-all_are  the test of a padding's bytes
--   padding-padded, padded-padding        the length found is the rule's
--   padding-le, padding-append            sixteen at most, and the last piece alone decides
--   length-pad, padded-pad, bytes_pad     what padding makes
--   strip-pad, pad-strip                  the theorems: stripping undoes padding, and padding undoes stripping
-- Not here: the check of a piece byte by byte (Check).
-- Assumes nothing.
use mathlib.Core.Path.{◌≡◌, refl, sym, ◌∙◌, ap, ap₂}
use mathlib.Core.Bool.{Bool, true, false, cond, ◌&&◌}
use mathlib.Core.List.{List, [], ◌∷◌, ◌++◌}
use mathlib.Core.Option.{none, some}
use Prim.Native.Nat.{ℕ, zero, suc, ◌+◌, ◌-◌, ◌*◌, ◌/◌, ◌%◌, ◌≤◌}
use native.Mathlib.Omega.{arith}
use borrow.Author.Tests.{eqb-true, eqb-false, ltb-false, le-ltb, ne_eqb, eq-eqb}
use lib.Dec.{eqb, ltb}
use lib.ListN.{length, get_or, take, drop, replicate, length-append, length-replicate, length-drop, get_or-replicate}
use lib.ListN.{take-append-drop}
use lib.Seq.{get_or-drop, get_or-append-add, take_at, drop_at, drop-append-add, length-take-le}
use Rattle.words.proofs.Laws.Bytes.{bytes_append, bytes_replicate}
use Rattle.words.proofs.Laws.Cases.{by_bool}
use Rattle.words.specs.Endian.{Bytes}
use Rattle.pkcs7.specs.Pkcs7.{padding_length, pad, Padded, all_are, padding_by, padding, strip}

pub all_are-replicate : (n p : ℕ) → all_are p (replicate n p) ≡ true
unfolding all_are
all_are-replicate zero p = refl
all_are-replicate (suc n) p = rw (eq-eqb p p refl) (all_are-replicate n p)

pub replicate-all_are : (p : ℕ) (xs : List ℕ) → all_are p xs ≡ true → xs ≡ replicate (length xs) p
unfolding all_are
replicate-all_are p [] h = refl
replicate-all_are p (x ∷ xs) h = go (eqb x p) refl h (replicate-all_are p xs)
  where
    go : (t : Bool) → eqb x p ≡ t → (t && all_are p xs) ≡ true → (all_are p xs ≡ true → xs ≡ replicate (length xs) p)
        → x ∷ xs ≡ p ∷ replicate (length xs) p
    go true e a f = ap₂ (λ (y : ℕ) (ys : List ℕ). y ∷ ys) (eqb-true x p e) (f a)
    go false e a f = let z : ◌≡◌ {A = ℕ} 0 1 = cc in absurd (omega arith)

-- bytes that end in a padding are accepted
pub padding-padded : (s : List ℕ) (p : ℕ) → Padded s p → padding s ≡ p
unfolding padding padding_by
padding-padded s p h =
    let low = h.low in
    let fits = h.fits in
    let place : length s - p + (p - 1) ≡ length s - 1 = omega arith in
    let back = sym (get_or-drop (length s - p) s (p - 1) 0) ∙ ap (λ (l : List ℕ). get_or l (p - 1) 0) h.tail in
    let last : get_or s (length s - 1) 0 ≡ p =
    ap (λ (i : ℕ). get_or s i 0) (sym place) ∙ back ∙ get_or-replicate p (p - 1) p 0 (omega arith) in
    let n = ne_eqb p 0 (λ e. omega arith) in
    rw (last, n, le-ltb 16 p h.high, le-ltb (length s) p fits, h.tail, all_are-replicate p p)

-- by the four tests
padded_by : (p : ℕ) (s : List ℕ) (t₁ t₂ t₃ t₄ : Bool) → eqb p 0 ≡ t₁ → ltb 16 p ≡ t₂ → ltb (length s) p ≡ t₃
    → all_are p (drop (length s - p) s) ≡ t₄ → 1 ≤ cond t₁ 0 (cond t₂ 0 (cond t₃ 0 (cond t₄ p 0)))
    → Padded s (cond t₁ 0 (cond t₂ 0 (cond t₃ 0 (cond t₄ p 0))))
padded_by p s true t₂ t₃ t₄ e₁ e₂ e₃ e₄ h = absurd (omega arith)
padded_by p s false true t₃ t₄ e₁ e₂ e₃ e₄ h = absurd (omega arith)
padded_by p s false false true t₄ e₁ e₂ e₃ e₄ h = absurd (omega arith)
padded_by p s false false false false e₁ e₂ e₃ e₄ h = absurd (omega arith)
padded_by p s false false false true e₁ e₂ e₃ e₄ h =
    let fits = ltb-false (length s) p e₃ in
    let n : length (drop (length s - p) s) ≡ p = simp length-drop (omega arith) in
    record {
      low = h;
      high = ltb-false 16 p e₂;
      fits = fits;
      tail = replicate-all_are p (drop (length s - p) s) e₄ ∙ ap (λ (k : ℕ). replicate k p) n;
    }

-- bytes that are accepted end in a padding
pub padded-padding : (s : List ℕ) → 1 ≤ padding s → Padded s (padding s)
unfolding padding padding_by
padded-padding s h = padded_by (get_or s (length s - 1) 0) s _ _ _ _ refl refl refl refl h

some_low : (p : ℕ) → (p ≡ 0 → ⊥) → 1 ≤ p
some_low zero n = absurd (n refl)
some_low (suc p) n = omega arith

pub padding-le : (s : List ℕ) → padding s ≤ 16
padding-le s =
    by_bool (eqb (padding s) 0) (λ t. let e = eqb-true (padding s) 0 t in omega arith)
    (λ f. (padded-padding s (some_low (padding s) (eqb-false (padding s) 0 f))).high)

padding_by-append : (p : ℕ) (a b : List ℕ) → length b ≡ 16 → padding_by p (a ++ b) ≡ padding_by p b
unfolding padding_by
padding_by-append p a b h =
    by_bool (ltb 16 p) (λ t. rw t)
    (λ f.
    let l : p ≤ 16 = ltb-false 16 p f in
    let m : p ≤ length a + length b = omega arith in
    let n : p ≤ length b = omega arith in
    let e : length a + length b - p ≡ length a + (length b - p) = omega arith in
    rw (length-append, le-ltb (length a + length b) p m, le-ltb (length b) p n, e, drop-append-add))

-- the padding is found in the last piece
pub padding-append : (a b : List ℕ) → length b ≡ 16 → padding (a ++ b) ≡ padding b
unfolding padding
padding-append a b h =
    let e : length a + length b - 1 ≡ length a + (length b - 1) = omega arith in
    rw (length-append, e, get_or-append-add, padding_by-append _ a b h)

pub length-pad : (m : List ℕ) → length (pad m) ≡ 16 * (length m / 16 + 1)
unfolding pad
length-pad m = simp (length-append, length-replicate) (omega arith)

-- where p bytes behind a message start
body-length : (m : List ℕ) (p : ℕ) → length m ≡ length (m ++ replicate p p) - p
body-length m p = simp (length-append, length-replicate) (omega arith)

pub padded-pad : (m : List ℕ) → Padded (pad m) (padding_length (length m))
unfolding pad
padded-pad m =
    let p : ℕ = padding_length (length m) in
    record {
      low = omega arith;
      high = omega arith;
      fits = simp (length-append, length-replicate) (omega arith);
      tail = drop_at m (replicate p p) (length (m ++ replicate p p) - p) (body-length m p);
    }

-- padding adds bytes
pub bytes_pad : (m : List ℕ) → Bytes m → Bytes (pad m)
unfolding pad
bytes_pad m b =
    let p : ℕ = padding_length (length m) in
    bytes_append m (replicate p p) b (bytes_replicate p p (omega arith))

take-pad : (m : List ℕ) → take (length (pad m) - padding_length (length m)) (pad m) ≡ m
unfolding pad
take-pad m =
    let p : ℕ = padding_length (length m) in
    take_at m (replicate p p) (length (m ++ replicate p p) - p) (body-length m p)

-- what was padded comes back
pub strip-pad : (m : List ℕ) → strip (pad m) ≡ some m
unfolding strip
strip-pad m =
    let p : ℕ = padding_length (length m) in
    rw (padding-padded (pad m) p (padded-pad m), ne_eqb p 0 (λ z. omega arith)) (ap some (take-pad m))

-- a message and p bytes p behind it, in whole pieces, are the message padded
pad_is : (s m : List ℕ) (p : ℕ) → length s % 16 ≡ 0 → take (length s - p) s ≡ m → Padded s p → s ≡ pad m
unfolding pad
pad_is s m p h e r =
    let low = r.low in
    let high = r.high in
    let fits = r.fits in
    let n : length m ≡ length s - p = ap length (sym e) ∙ length-take-le (length s - p) s (omega arith) in
    let k : padding_length (length m) ≡ p = omega arith in
    rw (k, ← e, ← r.tail) (sym (take-append-drop (length s - p) s))

-- what is accepted was padded: whole pieces that strip to m are m, padded
pub pad-strip : (s m : List ℕ) → length s % 16 ≡ 0 → strip s ≡ some m → s ≡ pad m
unfolding strip
pad-strip s m h e = go (eqb (padding s) 0) refl e
  where
    go : (t : Bool) → eqb (padding s) 0 ≡ t → cond t none (some (take (length s - padding s) s)) ≡ some m → s ≡ pad m
    go true q f = let z : ◌≡◌ {A = ℕ} 0 1 = cc in absurd (omega arith)
    go false q f = pad_is s m (padding s) h (cc) (padded-padding s (some_low (padding s) (eqb-false (padding s) 0 q)))
