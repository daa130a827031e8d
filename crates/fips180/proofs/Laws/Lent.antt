-- The algorithm with constants that are lent: what of it is the algorithm's, and that with its own it is the algorithm.
--
-- In order:
--   lending_own                                  with its own constants it is the algorithm
--   lent_is_blocked                              its sizes
--   block_words_lent, grow_lent, rounds_lent     what does not look at the constants
--   compress_lent, digest_lent                   one block, and the digest's bytes
--   fits-suits                                   what the test of the sizes says
--   fits_own, fed_own, finished_own              with its own constants and sizes, a feed and a finish are Hashing's
-- Assumes nothing.
use mathlib.Core.Path.{◌≡◌, refl, ap}
use mathlib.Core.List.{List, [], ◌∷◌}
use Prim.Native.Nat.{ℕ, zero, suc, ◌-◌, ◌*◌, ◌%◌}
use mathlib.Core.Bool.{true, ◌&&◌}
use lib.Dec.{eqb, leb}
use lib.ListN.{length}
use borrow.Author.Tests.{eqb-true, leb-true, eq-eqb, le-leb}
use Rattle.words.proofs.Laws.Cases.{and_true}
use Rattle.fips180.specs.Fips180.{Sha2, block_bytes, block_words, next_word, word_after, grow, schedule, t1, t2, round_on}
use Rattle.fips180.specs.Fips180.{round, rounds, sums, compress, digest}
use Rattle.fips180.specs.Hashing.{Hashing, feed_to, finish}
use Rattle.fips180.specs.Blocked.{IsBlocked}
use Rattle.fips180.specs.Lent.{lending, Suits, fits, fed, finished}

pub lending_own : (p : Sha2) → lending p.constants p ≡ p
unfolding lending
lending_own p = refl

module _ (ks : List ℕ) (p : Sha2) where
  pub lent_is_blocked : {b : ℕ} → IsBlocked p b → Suits ks → IsBlocked (lending ks p) b
  unfolding lending
  lent_is_blocked is suits =
      record { bytes = is.bytes; least = is.least; most = is.most; fours = suits.fours; sixteen = suits.sixteen }

  block_words_lent : (t : ℕ) (block : List ℕ) → block_words (lending ks p) t block ≡ block_words p t block
  unfolding lending block_words
  block_words_lent zero block = refl
  block_words_lent (suc t) block = rw (block_words_lent t block)

  grow_lent : (m : ℕ) (ws : List ℕ) → grow (lending ks p) m ws ≡ grow p m ws
  unfolding lending grow word_after next_word
  grow_lent zero ws = refl
  grow_lent (suc m) ws = rw (grow_lent m ws)

  rounds_lent : (cs ws s : List ℕ) (t : ℕ) → rounds (lending ks p) cs ws t s ≡ rounds p cs ws t s
  unfolding lending rounds round round_on t1 t2
  rounds_lent cs ws s zero = refl
  rounds_lent cs ws s (suc t) = rw (rounds_lent cs ws s t)

  pub compress_lent : (s block : List ℕ) → compress (lending ks p) s block
      ≡ sums p.bits s (rounds p ks (grow p (length ks - 16) (block_words p 16 block)) (length ks) s)
  unfolding compress schedule lending
  compress_lent s block =
      rw (block_words_lent 16 block, grow_lent (length ks - 16) (block_words p 16 block))
      (ap (sums p.bits s) (rounds_lent ks (grow p (length ks - 16) (block_words p 16 block)) s (length ks)))

  pub digest_lent : (c : List ℕ) → digest (lending ks p) c ≡ digest p c
  unfolding lending digest
  digest_lent [] = refl
  digest_lent (w ∷ ws) = rw (digest_lent ws)

-- where the sizes fit, the buffer is a block, and the constants suit
pub fits-suits : (p : Sha2) (b : ℕ) (ks : List ℕ) → fits p b (length ks) ≡ true → (b ≡ block_bytes p) × Suits ks
unfolding fits
fits-suits p b ks e =
    let n = length ks in
    let x = and_true (eqb b (block_bytes p)) (leb 16 n && eqb (n % 4) 0) e in
    let y = and_true (leb 16 n) (eqb (n % 4) 0) x.1 in
    (eqb-true _ _ x.0, record { fours = eqb-true _ _ y.1; sixteen = leb-true _ _ y.0 })

-- the algorithm's own constants, at its own sizes
module _ {block : ℕ} (p : Sha2) (is : IsBlocked p block) (b : ℕ) (ks : List ℕ) (size : b ≡ block_bytes p)
    (same : ks ≡ p.constants) where
  fits_own : fits p b (length ks) ≡ true
  unfolding fits
  fits_own =
      rw (
        eq-eqb b (block_bytes p) size,
        same,
        le-leb 16 (length p.constants) is.sixteen,
        eq-eqb (length p.constants % 4) 0 is.fours,
      ) refl

  pub fed_own : (limit : ℕ) (h : Hashing) (s : List ℕ) → fed p b ks limit h s ≡ feed_to p limit h s
  unfolding fed
  fed_own limit h s = rw (fits_own, same, lending_own p) refl

  pub finished_own : (d r : ℕ) (h : Hashing) → d ≡ 2 * b → r ≡ 8 * p.bytes → finished p b d r ks h ≡ finish p h
  unfolding finished
  finished_own d r h e f = rw (fits_own, eq-eqb d (2 * b) e, eq-eqb r (8 * p.bytes) f, same, lending_own p) refl
