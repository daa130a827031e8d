-- Parsing a list of bytes into blocks (5.2), and hashing them, for any block size.
--
-- In order:
--   by_block                           a list has a block, or not
--   rest_short, rest_more, length_rest, rest_append    what stands behind the whole blocks
--   compress-take                      one block's bytes suffice
--   hash_blocks_short, -more, -append   no block, a block in front, two lists joined
--   hash_blocks-turn                   a loop over the blocks of a slice
-- Not here: the padding (Padding), states (Feeding).
-- Assumes nothing.
use mathlib.Core.Path.{◌≡◌, refl, sym, ap, ◌∙◌}
use mathlib.Core.List.{List, [], ◌∷◌, ◌++◌}
use Prim.Native.Nat.{ℕ, zero, suc, ◌+◌, ◌*◌, ◌%◌, ◌≤◌, ◌<◌}
use native.Mathlib.Nat.{div-eq_of_lt, div-eq-sub-div, mod-eq_of_lt, mod-eq-sub-mod, add_comm, zero-mul, suc-mul, mul-le-mul_right}
use native.Mathlib.Numerals.{add-one}
use native.Mathlib.Omega.{arith}
use lib.Dec.{ltb}
use lib.ListN.{length, take, drop, length-append, length-drop, drop_of_length-le}
use lib.Seq.{drop-drop, take-append-le, drop-append-le}
use borrow.Author.Tests.{ltb-true, ltb-false}
use Rattle.words.proofs.Laws.Cases.{by_bool}
use Rattle.words.proofs.Laws.Endian.{be-take}
use Rattle.slices.specs.Cut.{cut}
use Rattle.fips180.specs.Fips180.{Sha2, block_bytes, parse, block_words, schedule, compress, hash_blocks}
use Rattle.fips180.specs.Hashing.{rest}

-- a list, by whether it has a block of b bytes
pub by_block : {P : Type 0} (b : ℕ) (m : List ℕ) → (length m < b → P) → (b ≤ length m → P) → P
by_block b m short long = by_bool (ltb (length m) b) (λ t. short (ltb-true _ _ t)) (λ t. long (ltb-false _ _ t))

module _ (b : ℕ) (pos : 0 < b) where
  pub rest_short : (m : List ℕ) → length m < b → rest b m ≡ m
  unfolding rest
  rest_short m h = rw (div-eq_of_lt h, zero-mul)

  pub rest_more : (m : List ℕ) → b ≤ length m → rest b m ≡ rest b (drop b m)
  unfolding rest
  rest_more m h = rw (div-eq-sub-div pos h, add-one, suc-mul, add_comm, ← drop-drop, length-drop)

  -- n bounds the length: the induction is by blocks
  length_rest_to : (n : ℕ) (m : List ℕ) → length m ≤ n → length (rest b m) ≡ length m % b
  length_rest_to zero m l =
      let h : length m < b = omega arith in
      rw (rest_short m h, mod-eq_of_lt h)
  length_rest_to (suc n) m l =
      by_block b m
      (λ h. rw (rest_short m h, mod-eq_of_lt h))
      (λ h. let k : length (drop b m) ≤ n = simp length-drop (omega arith) in
      rw (rest_more m h, length_rest_to n (drop b m) k, length-drop, ← mod-eq-sub-mod h))

  pub length_rest : (m : List ℕ) → length (rest b m) ≡ length m % b
  length_rest m = length_rest_to (length m) m (omega arith)

  rest_append_to : (n : ℕ) (a t : List ℕ) → length a ≤ n → rest b (a ++ t) ≡ rest b (rest b a ++ t)
  rest_append_to zero a t l =
      let h : length a < b = omega arith in
      rw (rest_short a h)
  rest_append_to (suc n) a t l =
      by_block b a
      (λ h. rw (rest_short a h))
      (λ h. let k : length (drop b a) ≤ n = simp length-drop (omega arith) in
      let j : b ≤ length (a ++ t) = simp length-append (omega arith) in
      rw (rest_more (a ++ t) j, drop-append-le b a t h, rest_append_to n (drop b a) t k, rest_more a h))

  pub rest_append : (a t : List ℕ) → rest b (a ++ t) ≡ rest b (rest b a ++ t)
  rest_append a t = rest_append_to (length a) a t (omega arith)

module _ (p : Sha2) where
  block_words-take : (t : ℕ) (bs : List ℕ) → t ≤ 16 → block_words p t (take (block_bytes p) bs) ≡ block_words p t bs
  unfolding block_words
  block_words-take zero bs h = refl
  block_words-take (suc t) bs h =
      let j : t ≤ 16 = omega arith in
      let k : t * p.bytes + p.bytes ≤ 16 * p.bytes = rw suc-mul at (mul-le-mul_right p.bytes h) in
      rw (block_words-take t bs j, be-take (block_bytes p) p.bytes bs (t * p.bytes) k)

  -- a block function that is handed more than a block reads the block alone
  pub compress-take : (s bs : List ℕ) → compress p s (take (block_bytes p) bs) ≡ compress p s bs
  unfolding compress schedule
  compress-take s bs = rw (block_words-take 16 bs (omega arith))

  compress-append : (s a t : List ℕ) → block_bytes p ≤ length a → compress p s (a ++ t) ≡ compress p s a
  compress-append s a t h =
      sym (compress-take s (a ++ t)) ∙ ap (compress p s) (take-append-le (block_bytes p) a t h) ∙ compress-take s a

module _ (p : Sha2) (pos : 0 < block_bytes p) where
  parse_short : (m : List ℕ) → length m < block_bytes p → parse p m ≡ []
  unfolding parse cut
  parse_short m h = rw (div-eq_of_lt h)

  parse_more : (m : List ℕ) → block_bytes p ≤ length m → parse p m
      ≡ take (block_bytes p) m ∷ parse p (drop (block_bytes p) m)
  unfolding parse cut
  parse_more m h = rw (div-eq-sub-div pos h, add-one, length-drop)

  pub hash_blocks_short : (s m : List ℕ) → length m < block_bytes p → hash_blocks p s (parse p m) ≡ s
  unfolding hash_blocks
  hash_blocks_short s m h = rw (parse_short m h)

  -- one turn of a loop over the blocks
  pub hash_blocks_more : (s m : List ℕ) → block_bytes p ≤ length m
      → hash_blocks p s (parse p m) ≡ hash_blocks p (compress p s m) (parse p (drop (block_bytes p) m))
  unfolding hash_blocks
  hash_blocks_more s m h =
      rw (parse_more m h) (ap (λ (l : List ℕ). hash_blocks p l (parse p (drop (block_bytes p) m))) (compress-take p s m))

  hash_blocks_append_to : (n : ℕ) (s a t : List ℕ) → length a ≤ n
      → hash_blocks p s (parse p (a ++ t))
      ≡ hash_blocks p (hash_blocks p s (parse p a)) (parse p (rest (block_bytes p) a ++ t))
  hash_blocks_append_to zero s a t l =
      let h : length a < block_bytes p = omega arith in
      rw (rest_short (block_bytes p) pos a h, hash_blocks_short s a h)
  hash_blocks_append_to (suc n) s a t l =
      by_block (block_bytes p) a
      (λ h. rw (rest_short (block_bytes p) pos a h, hash_blocks_short s a h))
      (λ h. let k : length (drop (block_bytes p) a) ≤ n = simp length-drop (omega arith) in
      let j : block_bytes p ≤ length (a ++ t) = simp length-append (omega arith) in
      rw (
        hash_blocks_more s (a ++ t) j,
        compress-append p s a t h,
        drop-append-le (block_bytes p) a t h,
        hash_blocks_append_to n (compress p s a) (drop (block_bytes p) a) t k,
        hash_blocks_more s a h,
        rest_more
            (block_bytes p) pos a h,
      ))

  -- hashing two lists joined is hashing the first, and then its rest with the second
  pub hash_blocks-append : (s a t : List ℕ)
      → hash_blocks p s (parse p (a ++ t))
      ≡ hash_blocks p (hash_blocks p s (parse p a)) (parse p (rest (block_bytes p) a ++ t))
  hash_blocks-append s a t = hash_blocks_append_to (length a) s a t (omega arith)

  -- a loop over the blocks of a slice: b is the next block, and r what is behind it
  pub hash_blocks-turn : (c b r : List ℕ) → length b ≡ block_bytes p
      → hash_blocks p c (parse p (b ++ r)) ≡ hash_blocks p (compress p c b) (parse p r)
  hash_blocks-turn c b r e =
      let h : block_bytes p ≤ length b = omega arith in
      let i : length b ≤ block_bytes p = omega arith in
      let j : block_bytes p ≤ length (b ++ r) = simp length-append (omega arith) in
      rw (hash_blocks_more c (b ++ r) j, compress-append p c b r h, drop-append-le (block_bytes p) b r h, drop_of_length-le b i)
