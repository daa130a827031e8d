-- Lists whose elements are all below a number: hash values, digests, key schedules.
--
-- In order:
--   below_nil, below_cons, below_append, below_zeros
--   below_be_bytes, below_digest, below_hash    digests are bytes
--   below_iv256, below_iv512, below_hash_blocks    a hash value's words are within their width
-- A list of words of k bytes is below 256 ^ k (states, Words), one of bytes below 256 (words, Bytes).
-- Not here: key schedules (Schedule).
-- Assumes nothing.
use mathlib.Core.Path.{◌≡◌, refl}
use mathlib.Core.Bool.{Bool, true, ◌&&◌}
use mathlib.Core.List.{List, [], ◌∷◌, ◌++◌}
use Prim.Native.Nat.{ℕ, zero, suc, ◌+◌, ◌/◌, ◌%◌, ◌^◌, ◌<◌}
use native.Mathlib.Nat.{mod-lt, one-le-pow}
use native.Mathlib.Omega.{arith}
use lib.Dec.{ltb}
use lib.ListN.{get_or, replicate}
use borrow.Author.Tests.{ltb-true}
use Rattle.words.specs.Endian.{Bytes, be_bytes}
use Rattle.words.proofs.Laws.Cases.{and_true}
use Rattle.fips180.specs.Fips180.{Sha2, parse, pad, sums, compress, hash_blocks, digest, hash}
use Rattle.fips180.specs.Fips180.Constants.{iv256, iv512}

abbrev pub Below : ℕ → List ℕ → Type 0
Below n w = (i : ℕ) → get_or w i 0 < n

pub below_nil : (n : ℕ) → 0 < n → Below n []
below_nil n h i = h

pub below_cons : (n x : ℕ) (w : List ℕ) → x < n → Below n w → Below n (x ∷ w)
below_cons n x w h b zero = h
below_cons n x w h b (suc i) = b i

-- the rest of a list
below_tail : (n x : ℕ) (w : List ℕ) → Below n (x ∷ w) → Below n w
below_tail n x w b i = b (suc i)

pub below_append : (n : ℕ) (v w : List ℕ) → Below n v → Below n w → Below n (v ++ w)
below_append n [] w a b = b
below_append n (x ∷ v) w a b = below_cons n x (v ++ w) (a 0) (below_append n v w (below_tail n x v a) b)

pub below_zeros : (n k : ℕ) → 0 < n → Below n (replicate k 0)
below_zeros n zero h = below_nil n h
below_zeros n (suc k) h = below_cons n 0 (replicate k 0) h (below_zeros n k h)

below_be_bytes : (n x : ℕ) → Bytes (be_bytes n x)
unfolding be_bytes
below_be_bytes zero x = below_nil 256 (omega arith)
below_be_bytes (suc n) x =
    below_cons 256 (x / 256 ^ n % 256) (be_bytes n x) (mod-lt (x / 256 ^ n) (omega arith)) (below_be_bytes n x)

below_digest : (p : Sha2) (ws : List ℕ) → Bytes (digest p ws)
unfolding digest
below_digest p [] = below_nil 256 (omega arith)
below_digest p (w ∷ ws) =
    below_append 256 (be_bytes p.bytes w) (digest p ws) (below_be_bytes p.bytes w) (below_digest p ws)

pub below_hash : (p : Sha2) (m : List ℕ) → Bytes (hash p m)
unfolding hash
below_hash p m = below_digest p (hash_blocks p p.iv (parse p (pad p m)))

-- 6.2.2, step 4: a sum is within the width
below_sums : (n : ℕ) (s t : List ℕ) → Below (2 ^ n) (sums n s t)
unfolding sums
below_sums n [] t = below_nil (2 ^ n) (one-le-pow n 2 (omega arith))
below_sums n (x ∷ s) [] = below_nil (2 ^ n) (one-le-pow n 2 (omega arith))
below_sums n (x ∷ s) (y ∷ t) =
    below_cons (2 ^ n) ((x + y) % 2 ^ n) (sums n s t) (mod-lt (x + y) (one-le-pow n 2 (omega arith)))
    (below_sums n s t)

pub below_hash_blocks : (p : Sha2) (s : List ℕ) (bs : List (List ℕ)) → Below (2 ^ p.bits) s
    → Below (2 ^ p.bits) (hash_blocks p s bs)
unfolding hash_blocks compress
below_hash_blocks p s [] h = h
below_hash_blocks p s (b ∷ bs) h =
    below_hash_blocks p (compress p s b) bs (below_sums p.bits s _)

-- a list of numbers, by a test
tested : ℕ → List ℕ → Bool
tested n [] = true
tested n (x ∷ w) = ltb x n && tested n w

below_tested : (n : ℕ) → 0 < n → (w : List ℕ) → tested n w ≡ true → Below n w
unfolding tested
below_tested n p [] e = below_nil n p
below_tested n p (x ∷ w) e =
    let b = and_true (ltb x n) (tested n w) e in
    below_cons n x w (ltb-true x n b.0) (below_tested n p w b.1)

pub below_iv256 : Below (2 ^ 32) iv256
unfolding iv256 tested
below_iv256 = below_tested (2 ^ 32) (omega arith) iv256 refl

pub below_iv512 : Below (2 ^ 64) iv512
unfolding iv512 tested
below_iv512 = below_tested (2 ^ 64) (omega arith) iv512 refl
