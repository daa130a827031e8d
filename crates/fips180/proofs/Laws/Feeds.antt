-- The theorem of hashing in parts: a finish after any list of feeds is the standard's hash of the accepted parts
-- joined.
--
-- In order:
--   feed_taken, feed-refused       a feed within the limit, and past it
--   feeds-holds, feeds-hash        the theorem
--   accepted_all, feeds_hash_all   within the limit nothing is refused
--   two_hash, three_hash           two feeds, and three
--   start_taken, hash_is           one feed of a whole message
--   hashed-digest                  the one-call form's digest, within the limit
--   accepted-shift                 a limit that leaves out what was fed before
-- Assumes nothing.
use mathlib.Core.Path.{◌≡◌, refl, ap, ◌∙◌}
use mathlib.Core.List.{List, [], ◌∷◌, ◌++◌, append_assoc, append-nil}
use Prim.Native.Nat.{ℕ, ◌+◌, ◌≤◌, ◌<◌}
use native.Mathlib.Omega.{arith}
use lib.Dec.{leb}
use lib.ListN.{length, length-append}
use borrow.Author.Tests.{le-leb, lt-leb, leb-true, leb-false}
use Rattle.words.proofs.Laws.Cases.{by_bool}
use Rattle.fips180.specs.Fips180.{Sha2, block_bytes, hash}
use Rattle.refusals.specs.Limits.{message_limit}
use Rattle.fips180.specs.Hashing.{Hashing, start, absorbed, feed_to, finish, hashed}
use Rattle.fips180.specs.Feeds.{feeds, accepted, joined}
use Rattle.fips180.proofs.Laws.Feeding.{Holds, start-holds, absorbed-holds, finish-holds}

module _ (p : Sha2) (limit : ℕ) (h : Hashing) (s : List ℕ) where
  pub feed_taken : h.total + length s ≤ limit → (feed_to p limit h s).next ≡ absorbed p h s
  unfolding feed_to
  feed_taken l = rw (le-leb _ _ l)

  pub feed-refused : limit < h.total + length s → (feed_to p limit h s).next ≡ h
  unfolding feed_to
  feed-refused l = rw (lt-leb _ _ l)

module _ (p : Sha2) (pos : 0 < block_bytes p) (limit : ℕ) where
  pub feeds-holds : (ss : List (List ℕ)) (h : Hashing) (m : List ℕ) → Holds p h m
      → Holds p (feeds p limit h ss) (m ++ accepted limit (length m) ss)
  unfolding feeds accepted
  feeds-holds [] h m o = rw append-nil o
  feeds-holds (s ∷ ss) h m o =
      by_bool (leb (length m + length s) limit)
      (λ t. let l : h.total + length s ≤ limit = omega (arith, leb-true (length m + length s) limit t, o.counted) in
      rw (feed_taken p limit h s l, t, ← append_assoc)
      (rw length-append at (feeds-holds ss (absorbed p h s) (m ++ s) (absorbed-holds p pos h m s o))))
      (λ t. let l : limit < h.total + length s = omega (arith, leb-false (length m + length s) limit t, o.counted) in
      rw (feed-refused p limit h s l, t) (feeds-holds ss h m o))

  -- the theorem: whatever the parts, and whichever of them are refused
  pub feeds-hash : (ss : List (List ℕ)) → finish p (feeds p limit (start p) ss) ≡ hash p (accepted limit 0 ss)
  feeds-hash ss = finish-holds p pos (feeds p limit (start p) ss) (accepted limit 0 ss)
      (feeds-holds ss (start p) [] (start-holds p pos))

-- parts that are within the limit together are all accepted
pub accepted_all : (limit n : ℕ) (ss : List (List ℕ)) → n + length (joined ss) ≤ limit → accepted limit n ss ≡ joined ss
unfolding accepted joined
accepted_all limit n [] l = refl
accepted_all limit n (s ∷ ss) l =
    let e = length-append s (joined ss) in
    let k : n + length s ≤ limit = omega arith in
    let j : n + length s + length (joined ss) ≤ limit = omega arith in
    rw (le-leb _ _ k, accepted_all limit (n + length s) ss j)

pub feeds_hash_all : (p : Sha2) → 0 < block_bytes p → (limit : ℕ) (ss : List (List ℕ)) → length (joined ss) ≤ limit
    → finish p (feeds p limit (start p) ss) ≡ hash p (joined ss)
feeds_hash_all p pos limit ss l = feeds-hash p pos limit ss ∙ ap (hash p) (accepted_all limit 0 ss (omega arith))

-- two parts, and three, as callers feed them
module _ (p : Sha2) (pos : 0 < block_bytes p) (limit : ℕ) where
  pub two_hash : (a b : List ℕ) → length a + length b ≤ limit
      → finish p (feed_to p limit (feed_to p limit (start p) a).next b).next ≡ hash p (a ++ b)
  unfolding feeds joined
  two_hash a b l =
      let j : length (joined (a ∷ b ∷ [])) ≤ limit = simp (append-nil, length-append) l in
      feeds_hash_all p pos limit (a ∷ b ∷ []) j ∙ ap (λ (t : List ℕ). hash p (a ++ t)) (append-nil b)

  pub three_hash : (a b c : List ℕ) → length a + (length b + length c) ≤ limit
      → finish p (feed_to p limit (feed_to p limit (feed_to p limit (start p) a).next b).next c).next
      ≡ hash p (a ++ (b ++ c))
  unfolding feeds joined
  three_hash a b c l =
      let j : length (joined (a ∷ b ∷ c ∷ [])) ≤ limit = simp (append-nil, length-append) l in
      feeds_hash_all p pos limit (a ∷ b ∷ c ∷ []) j ∙ ap (λ (t : List ℕ). hash p (a ++ (b ++ t))) (append-nil c)

-- a fresh state takes what is within the limit
pub start_taken : (p : Sha2) (limit : ℕ) (m : List ℕ) → length m ≤ limit → (feed_to p limit (start p) m).next
    ≡ absorbed p (start p) m
unfolding start
start_taken p limit m l = feed_taken p limit (start p) m (omega arith)

-- one feed of a whole message
pub hash_is : (p : Sha2) → 0 < block_bytes p → (limit : ℕ) (m : List ℕ) → length m ≤ limit
    → finish p (feed_to p limit (start p) m).next ≡ hash p m
hash_is p pos limit m l =
    ap (finish p) (start_taken p limit m l)
    ∙ finish-holds p pos (absorbed p (start p) m) m (absorbed-holds p pos (start p) [] m (start-holds p pos))

pub hashed-digest : (p : Sha2) (m : List ℕ) → length m ≤ message_limit → (hashed p m).digest ≡ hash p m
unfolding hashed
hashed-digest p m l = rw (le-leb _ _ l)

-- the parts accepted do not change where the limit and the bytes that came before grow alike
pub accepted-shift : (b limit n : ℕ) (ss : List (List ℕ)) → accepted (limit + b) (n + b) ss ≡ accepted limit n ss
unfolding accepted
accepted-shift b limit n [] = refl
accepted-shift b limit n (s ∷ ss) =
    let e : n + b + length s ≡ n + length s + b = omega arith in
    by_bool (leb (n + length s) limit)
    (λ t. let l : n + length s ≤ limit = leb-true _ _ t in
    let k : n + length s + b ≤ limit + b = omega arith in
    rw (e, t, le-leb _ _ k, accepted-shift b limit (n + length s) ss))
    (λ t. let l : limit < n + length s = leb-false _ _ t in
    let k : limit + b < n + length s + b = omega arith in
    rw (e, t, lt-leb _ _ k) (accepted-shift b limit n ss))
