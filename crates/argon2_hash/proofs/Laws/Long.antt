-- The hash function H' (3.3): its values, their first halves, and how code fills a lent slice with them.
--
-- In order:
--   full_64, le_bytes_low                  a hash of 64 bytes is all of them; LE32 has the low 32 bits
--   value_first, value_more               the values, one after the other
--   length_firsts, firsts_none, firsts_more  their first halves, laid into a slice
--   short_is, longer_is                   a slice so filled holds H'
--   length-long_hash                       H'^T has T bytes
--   filled_short                          what `fill` makes of a slice for messages that Argon2 has
-- Assumes nothing.
use mathlib.Core.Path.{◌≡◌, refl, sym, ap, ◌∙◌}
use mathlib.Core.List.{List, [], ◌++◌}
use Prim.Native.Nat.{ℕ, zero, suc, ◌+◌, ◌-◌, ◌*◌, ◌%◌, ◌^◌, ◌≤◌, ◌<◌}
use native.Mathlib.Numerals.{add-one}
use native.Mathlib.Omega.{arith}
use lib.Dec.{leb}
use lib.ListN.{length, take, length-append}
use lib.Seq.{take_all, take-append-add, length-take-le}
use borrow.Author.Tests.{le-leb, lt-leb, leb-true, leb-false}
use Rattle.words.specs.Endian.{le_bytes}
use Rattle.words.proofs.Laws.Bytes.{bytes_le_bytes}
use Rattle.words.proofs.Laws.Endian.{length-le_bytes, le-le_bytes, le_bytes-le}
use Rattle.words.proofs.Laws.Cases.{by_bool}
use Rattle.slices.specs.Over.{over, laid, put_at}
use Rattle.slices.proofs.Laws.Over.{over_nil, over_all, over_fits}
use Rattle.slices.proofs.Laws.Put.{laid_first, laid_more}
use Rattle.refusals.specs.Limits.{message_limit}
use Rattle.blake2b.specs.Rfc7693.{full, blake2b}
use Rattle.blake2b.proofs.Laws.Feeding.{length_full}
use Rattle.blake2b.proofs.Parts.{length-blake2b}
use Rattle.argon2_hash.specs.LongHash.{wholes, value, firsts, longer, long_hash, filled}

pub full_64 : (m : List ℕ) → full 64 m ≡ blake2b 64 m
unfolding blake2b
full_64 m = sym (take_all 64 (full 64 m) (omega (arith, length_full 64 m)))

pub le_bytes_low : (t : ℕ) → le_bytes 4 (t % 2 ^ 32) ≡ le_bytes 4 t
le_bytes_low t =
    let s : List ℕ = le_bytes 4 t in
    let n = length-le_bytes 4 t in
    ap (le_bytes 4) (sym (le-le_bytes 4 t)) ∙ le_bytes-le 4 s 0 (bytes_le_bytes 4 t) (omega arith) ∙ take_all 4 s (omega arith)

module _ (t : ℕ) (a : List ℕ) where
  pub value_first : {v : List ℕ} → v ≡ full 64 (le_bytes 4 t ++ a) → v ≡ value t a 0
  unfolding value
  value_first e = e ∙ full_64 (le_bytes 4 t ++ a)

  pub value_more : (i j : ℕ) {v w : List ℕ} → j ≡ suc i → v ≡ value t a i → w ≡ full 64 v → w ≡ value t a j
  unfolding value
  value_more i j {v} {w} k e f = f ∙ full_64 v ∙ ap (blake2b 64) e ∙ ap (value t a) (sym k)

  length-value : (i : ℕ) → length (value t a i) ≡ 64
  unfolding value
  length-value zero = length-blake2b 64 (le_bytes 4 t ++ a) (omega arith)
  length-value (suc i) = length-blake2b 64 (value t a i) (omega arith)

  pub length_firsts : (n : ℕ) → length (firsts t a n) ≡ 32 * n
  unfolding firsts
  length_firsts zero = refl
  length_firsts (suc n) =
      let e = length_firsts n in
      let k = length-value n in
      let f : length (take 32 (value t a n)) ≡ 32 = length-take-le 32 (value t a n) (omega arith) in
      simp length-append (omega arith)

  -- none of them
  pub firsts_none : (d : List ℕ) → d ≡ laid (firsts t a 0) d
  unfolding firsts
  firsts_none d = sym (over_fits [] d (omega arith) ∙ over_nil d)

  -- the first half of value i, behind those before
  pub firsts_more : (d : List ℕ) (i : ℕ) {v x y : List ℕ} → v ≡ value t a i → x ≡ laid (firsts t a i) d
      → y ≡ put_at (32 * i) (take 32 v) x → y ≡ laid (firsts t a (i + 1)) d
  unfolding firsts
  firsts_more d i {v} {x} {y} e f g =
      laid_more (firsts t a i) (take 32 v) d x y (32 * i) (length_firsts i) f g
      ∙ ap (λ (z : List ℕ). laid (firsts t a i ++ take 32 z) d) e
      ∙ ap (λ (n : ℕ). laid (firsts t a n) d) (sym (add-one i))

  long_hash_short : t ≤ 64 → long_hash t a ≡ blake2b t (le_bytes 4 t ++ a)
  unfolding long_hash
  long_hash_short h = rw (le-leb _ _ h)

  long_hash_longer : 64 < t → long_hash t a ≡ longer t a
  unfolding long_hash
  long_hash_longer h = rw (lt-leb _ _ h)

  length_longer : 64 < t → length (longer t a) ≡ t
  unfolding longer
  length_longer h =
      let e = length_firsts (wholes t) in
      let f = length-blake2b (t - 32 * wholes t) (value t a (wholes t - 1)) (omega arith) in
      simp length-append (omega arith)

  pub length-long_hash : length (long_hash t a) ≡ t
  length-long_hash =
      by_bool (leb t 64)
      (λ b. let h : t ≤ 64 = leb-true _ _ b in rw (long_hash_short h) (length-blake2b t (le_bytes 4 t ++ a) h))
      (λ b. let h : 64 < t = leb-false _ _ b in rw (long_hash_longer h) (length_longer h))

  -- one hash
  pub short_is : (d : List ℕ) {v y : List ℕ} → length d ≡ t → t ≤ 64 → v ≡ full t (le_bytes 4 t ++ a) → y ≡ put_at 0 v d
      → y ≡ long_hash t a
  unfolding blake2b
  short_is d {v} {y} l h e f =
      let w : take (length d) v ≡ blake2b t (le_bytes 4 t ++ a) = cc (l, e) in
      let n = length-blake2b t (le_bytes 4 t ++ a) h in
      laid_first v d y f ∙ ap (λ (x : List ℕ). over x d) w ∙ over_all (blake2b t (le_bytes 4 t ++ a)) d (omega arith)
      ∙ sym (long_hash_short h)

  -- the first halves of r values, and behind them the last value
  pub longer_is : (d : List ℕ) (r : ℕ) {v x l y : List ℕ} → length d ≡ t → 64 < t → r ≡ wholes t → v ≡ value t a (r - 1)
      → x ≡ laid (firsts t a r) d → l ≡ full (t - 32 * r) v → y ≡ put_at (32 * r) l x → y ≡ long_hash t a
  unfolding longer blake2b
  longer_is d r {v} {x} {l} {y} n h er ev ex el ey =
      let k : t ≡ length (firsts t a r) + (t - 32 * r) = omega (arith, length_firsts r) in
      let w : take (length d) (firsts t a r ++ l) ≡ firsts t a r ++ take (t - 32 * r) l =
      ap (λ (m : ℕ). take m (firsts t a r ++ l)) (n ∙ k) ∙ take-append-add (firsts t a r) l (t - 32 * r) in
      let z : firsts t a r ++ take (t - 32 * r) l ≡ longer t a = cc (el, ev, er) in
      let j = length_longer h in
      laid_more (firsts t a r) l d x y (32 * r) (length_firsts r) ex ey
      ∙ ap (λ (s : List ℕ). over s d) (w ∙ z) ∙ over_all (longer t a) d (omega arith) ∙ sym (long_hash_longer h)

-- Argon2's messages, a block and some bytes before it, are within the limit
within : (n : ℕ) → n ≤ 2048 → 4 + n ≤ message_limit
unfolding message_limit
within n h = omega arith

pub filled_short : (a d : List ℕ) → length a ≤ 2048 → filled a d ≡ long_hash (length d) a
unfolding filled
filled_short a d h = rw (le-leb _ _ (within (length a) h))
