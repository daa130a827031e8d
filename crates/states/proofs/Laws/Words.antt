-- Arrays of words and their bytes, for any count of bytes in a word.
--
-- In order:
--   length-word_bytes                                  k bytes for each word
--   word_bytes_none, word_bytes_more, word_bytes_all     words written one after the other
--   words_at_more, words_at_all                         words read one after the other
--   le_back, words_at_back                             a number, and words, read from their own bytes
-- Not here: one word and its bytes (words, Endian); where a part stands (Parts).
-- Assumes nothing.
use mathlib.Core.Path.{◌≡◌, refl, sym, ap, ◌∙◌}
use mathlib.Core.List.{List, [], ◌∷◌, ◌++◌, append_assoc, append-nil}
use Prim.Native.Nat.{ℕ, zero, suc, ◌+◌, ◌*◌, ◌^◌, ◌≤◌, ◌<◌}
use native.Mathlib.Nat.{suc-mul, zero-mul, zero-add, mod-eq_of_lt}
use native.Mathlib.Numerals.{add-one}
use native.Mathlib.Omega.{arith}
use lib.ListN.{length, get_or, take, drop, set, length-append, take-append-drop}
use lib.Seq.{take-nil, take-suc, take-suc-set, take_all, drop-cons, drop_at, length-take-le}
use Rattle.words.specs.Endian.{le, le_bytes}
use Rattle.words.proofs.Laws.Endian.{le-take, le-append, le-drop, length-le_bytes, le-le_bytes}
use Rattle.slices.specs.Over.{over, put_at}
use Rattle.slices.proofs.Laws.Put.{put_at-put_at}
use Rattle.states.specs.Words.{word_bytes, words_at, Words}

put_at_none : (at : ℕ) (d : List ℕ) → put_at at [] d ≡ d
unfolding put_at over
put_at_none at d = rw take-nil (take-append-drop at d)

module _ (k : ℕ) where
  pub length-word_bytes : (w : List ℕ) → length (word_bytes k w) ≡ length w * k
  unfolding word_bytes
  length-word_bytes [] = sym (zero-mul k)
  length-word_bytes (x ∷ w) =
      rw (length-append, length-le_bytes, length-word_bytes w, suc-mul) (omega arith)

  word_bytes-append : (v w : List ℕ) → word_bytes k (v ++ w) ≡ word_bytes k v ++ word_bytes k w
  unfolding word_bytes
  word_bytes-append [] w = refl
  word_bytes-append (x ∷ v) w = rw (word_bytes-append v w, append_assoc)

  word_bytes-suc : (w : List ℕ) (i : ℕ) → i < length w
      → word_bytes k (take (suc i) w) ≡ word_bytes k (take i w) ++ le_bytes k (get_or w i 0)
  unfolding word_bytes
  word_bytes-suc w i h = rw (take-suc w i 0 h, word_bytes-append, append-nil)

  -- no word yet
  pub word_bytes_none : (w d : List ℕ) (at : ℕ) → d ≡ put_at at (word_bytes k (take 0 w)) d
  unfolding word_bytes
  word_bytes_none w d at = sym (put_at_none at d)

  -- one word more
  pub word_bytes_more : (w d x : List ℕ) (at i : ℕ) (v : List ℕ) {y : List ℕ} → i < length w → at + i * k + k ≤ length d
      → x ≡ put_at at (word_bytes k (take i w)) d → v ≡ le_bytes k (get_or w i 0) → y ≡ put_at (at + i * k) v x
      → y ≡ put_at at (word_bytes k (take (i + 1) w)) d
  word_bytes_more w d x at i v {y} h l e f g =
      let b : List ℕ = word_bytes k (take i w) in
      let n : length b ≡ i * k =
      length-word_bytes (take i w) ∙ ap (λ (m : ℕ). m * k) (length-take-le i w (omega arith)) in
      g ∙ ap (λ (z : List ℕ). put_at (at + i * k) v z) e
      ∙ put_at-put_at b v d at (i * k) n (omega arith)
      ∙ rw (add-one, word_bytes-suc w i h, f)

  pub word_bytes_all : (w d x : List ℕ) (at i : ℕ) → length w ≤ i → x ≡ put_at at (word_bytes k (take i w)) d
      → x ≡ put_at at (word_bytes k w) d
  word_bytes_all w d x at i h e = e ∙ ap (λ (v : List ℕ). put_at at (word_bytes k v) d) (take_all i w h)

  -- one word more
  pub words_at_more : (s w : List ℕ) (at i v : ℕ) → i < length w → take i w ≡ words_at k i s at
      → v ≡ le k s (at + i * k)
      → take (i + 1) (set w i v) ≡ words_at k (i + 1) s at
  unfolding words_at
  words_at_more s w at i v h e f = rw (add-one, take-suc-set w i v h, e, f)

  pub words_at_all : (s w : List ℕ) (at i n : ℕ) → i ≡ n → length w ≡ n → take i w ≡ words_at k i s at
      → w ≡ words_at k n s at
  words_at_all s w at i n e l h =
      let m : length w ≤ i = omega arith in
      sym (take_all i w m) ∙ h ∙ ap (λ (j : ℕ). words_at k j s at) e

  -- a number, read from its own bytes
  pub le_back : (s : List ℕ) (at x : ℕ) → take k (drop at s) ≡ le_bytes k x → x < 256 ^ k → le k s at ≡ x
  le_back s at x e h =
      let a : at + 0 ≡ at = omega arith in
      let f : le k (take k (drop at s)) 0 ≡ le k s at =
      le-take k k (drop at s) 0 (omega arith) ∙ le-drop at k s 0 ∙ ap (le k s) a in
      sym f ∙ ap (λ (l : List ℕ). le k l 0) e ∙ le-le_bytes k x ∙ mod-eq_of_lt h

  words_at-take : (n m : ℕ) (s : List ℕ) (at : ℕ) → at + n * k ≤ m → words_at k n (take m s) at ≡ words_at k n s at
  unfolding words_at
  words_at-take zero m s at h = refl
  words_at-take (suc n) m s at h =
      let e = suc-mul n k in
      let a : at + n * k ≤ m = omega arith in
      let b : at + n * k + k ≤ m = omega arith in
      rw (words_at-take n m s at a, le-take m k s (at + n * k) b)

  words_at-drop : (n m : ℕ) (s : List ℕ) (at : ℕ) → words_at k n (drop m s) at ≡ words_at k n s (m + at)
  unfolding words_at
  words_at-drop zero m s at = refl
  words_at-drop (suc n) m s at =
      let e : m + (at + n * k) ≡ m + at + n * k = omega arith in
      rw (words_at-drop n m s at, le-drop m k s (at + n * k), e)

  -- word i of the words' bytes
  le-word_bytes : (w : List ℕ) (i : ℕ) → i < length w → get_or w i 0 < 256 ^ k → le k (word_bytes k w) (i * k) ≡ get_or w i 0
  unfolding word_bytes
  le-word_bytes w i h l =
      let f : List ℕ = word_bytes k (take i w) in
      let r : List ℕ = word_bytes k (drop (suc i) w) in
      let x : ℕ = get_or w i 0 in
      let n : length f ≡ i * k =
      length-word_bytes (take i w) ∙ ap (λ (m : ℕ). m * k) (length-take-le i w (omega arith)) in
      let s : word_bytes k w ≡ f ++ (le_bytes k x ++ r) =
      ap (word_bytes k) (sym (take-append-drop i w) ∙ ap (λ (v : List ℕ). take i w ++ v) (drop-cons w i 0 h))
      ∙ word_bytes-append (take i w) (x ∷ drop (suc i) w) in
      let a : i * k + 0 ≡ i * k = omega arith in
      let d : drop (i * k) (word_bytes k w) ≡ le_bytes k x ++ r =
      ap (drop (i * k)) s ∙ drop_at f (le_bytes k x ++ r) (i * k) n in
      let z = length-le_bytes k x in
      sym (ap (le k (word_bytes k w)) a) ∙ sym (le-drop (i * k) k (word_bytes k w) 0)
      ∙ ap (λ (v : List ℕ). le k v 0) d ∙ le-append k (le_bytes k x) r 0 (omega arith) ∙ le-le_bytes k x ∙ mod-eq_of_lt l

  words_at-word_bytes : (w : List ℕ) → Words k w → (n : ℕ) → n ≤ length w → words_at k n (word_bytes k w) 0 ≡ take n w
  unfolding words_at
  words_at-word_bytes w p zero h = refl
  words_at-word_bytes w p (suc n) h =
      let a : n < length w = omega arith in
      let b : n ≤ length w = omega arith in
      let e : 0 + n * k ≡ n * k = zero-add (n * k) in
      rw (words_at-word_bytes w p n b, e, le-word_bytes w n a (p n)) (sym (take-suc w n 0 a))

  -- words, read from their own bytes
  pub words_at_back : (s w : List ℕ) (at n : ℕ) → take (n * k) (drop at s) ≡ word_bytes k w → length w ≡ n → Words k w
      → words_at k n s at ≡ w
  words_at_back s w at n e l p =
      let a : at + 0 ≡ at = omega arith in
      let f : words_at k n (take (n * k) (drop at s)) 0 ≡ words_at k n s at =
      words_at-take n (n * k) (drop at s) 0 (omega arith) ∙ words_at-drop n at s 0 ∙ ap (words_at k n s) a in
      sym f ∙ ap (λ (v : List ℕ). words_at k n v 0) e ∙ words_at-word_bytes w p n (omega arith)
      ∙ take_all n w (omega arith)
