-- Constants that a caller lends in place of the algorithm's own, and what a feed and a finish make of them.
--
-- Differs from the standard, whose constants are the algorithm's own: with those, and the algorithm's sizes, fed is
-- Hashing's feed_to and finished its finish (proofs, Laws.Lent, fed_own and finished_own).
-- Assumes nothing.
use Rattle.std.specs.Prelude.{◌≡◌, Bool, cond, ◌&&◌, List, ℕ, ◌*◌, ◌%◌, ◌≤◌, eqb, leb, length, replicate, Err}
use Rattle.refusals.specs.declared.Refusal.TheVariants.{TooLong}
use Rattle.fips180.specs.Fips180 as fips180
use Rattle.fips180.specs.Fips180.{Sha2, block_bytes, parse}
use Rattle.fips180.specs.Hashing.{Hashing, Fed, feed_to, finish}

-- the algorithm with other constants
unfoldable pub lending : List ℕ → Sha2 → Sha2
lending ks p = record {
  bits = p.bits;
  bytes = p.bytes;
  big_sigma0 = p.big_sigma0;
  big_sigma1 = p.big_sigma1;
  small_sigma0 = p.small_sigma0;
  small_sigma1 = p.small_sigma1;
  constants = ks;
  iv = p.iv;
}

-- the hash value after every whole block of m
abbrev pub hash_blocks : List ℕ → Sha2 → List ℕ → List ℕ → List ℕ
hash_blocks ks p h m = fips180.hash_blocks (lending ks p) h (parse (lending ks p) m)

-- the constants that code takes: a round for each, in fours, and at least one for each word of a block
pub record Suits (ks : List ℕ) : Type 0 where
  pub fours : length ks % 4 ≡ 0
  pub sixteen : 16 ≤ length ks

-- the same by a test, with the length of the buffer, which is a block
unfoldable pub fits : Sha2 → ℕ → ℕ → Bool
fits p block rounds = eqb block (block_bytes p) && (leb 16 rounds && eqb (rounds % 4) 0)

-- a feed: where the sizes do not fit it is refused, with the state as it was
unfoldable pub fed : Sha2 → ℕ → List ℕ → ℕ → Hashing → List ℕ → Fed
fed p block ks limit h s =
    cond (fits p block (length ks)) (feed_to (lending ks p) limit h s) (record { outcome = Err TooLong; next = h })

-- the digest, where `last` bytes are the room for the last two blocks: where the sizes do not fit it is zeros
unfoldable pub finished : Sha2 → ℕ → ℕ → ℕ → List ℕ → Hashing → List ℕ
finished p block last digest ks h =
    cond (fits p block (length ks) && (eqb last (2 * block) && eqb digest (8 * p.bytes)))
    (finish (lending ks p) h) (replicate digest 0)
