-- A hash under way, over both algorithms: what a feed and a finish make of a state's three parts.
--
-- Every value of the parts is a state. How many bytes are pending follows from the total; bytes of the buffer behind
-- them count for nothing. A total over the limit, which no call makes, refuses every feed, the empty one too.
-- Not here: the standard (Fips180); that a state so fed gives the standard's hash (proofs, Laws.Feeding and
-- Laws.Feeds).
-- Assumes nothing.
use Rattle.std.specs.Prelude.{cond, List, ◌++◌, ℕ, ◌+◌, ◌*◌, ◌/◌, ◌%◌, ltb, leb, length, take, drop, replicate, Ok, Err}
use Rattle.slices.specs.Over.{over}
use Rattle.refusals.specs.declared.Refusal.TheVariants.{TooLong}
use Rattle.refusals.specs.Numbers.{Outcome}
use Rattle.refusals.specs.Limits.{message_limit}
use Rattle.fips180.specs.Fips180.{Sha2, block_bytes, padding, parse, hash_blocks, digest, hash}

-- the chaining words, the buffer, and how many bytes came in all
pub record Hashing : Type 0 where
  pub chain : List ℕ
  pub buffer : List ℕ
  pub total : ℕ

pub record Fed : Type 0 where
  pub outcome : Outcome
  pub next : Hashing

pub record Hashed : Type 0 where
  pub outcome : Outcome
  pub digest : List ℕ

unfoldable pub start : Sha2 → Hashing
start p = record { chain = p.iv; buffer = replicate (block_bytes p) 0; total = 0 }

-- the bytes that are no whole block yet
unfoldable pub pending : Sha2 → Hashing → List ℕ
pending p h = take (h.total % block_bytes p) h.buffer

-- the bytes of m behind its whole blocks of b bytes
unfoldable pub rest : ℕ → List ℕ → List ℕ
rest b m = drop (length m / b * b) m

-- the buffer that m leaves: its rest over zeros, or over the old buffer where m fills no block
unfoldable pub kept : ℕ → List ℕ → List ℕ → List ℕ
kept b old m = over (rest b m) (cond (ltb (length m) b) old (replicate b 0))

-- the state with the bytes of s behind those that came before
unfoldable pub absorbed : Sha2 → Hashing → List ℕ → Hashing
absorbed p h s =
    record {
      chain = hash_blocks p h.chain (parse p (pending p h ++ s));
      buffer = kept (block_bytes p) h.buffer (pending p h ++ s);
      total = h.total + length s;
    }

-- a feed under a limit on the bytes in all: refused where they would pass it, with the state as it was
unfoldable pub feed_to : Sha2 → ℕ → Hashing → List ℕ → Fed
feed_to p limit h s =
    cond (leb (h.total + length s) limit)
    (record { outcome = Ok tt; next = absorbed p h s })
    (record { outcome = Err TooLong; next = h })

abbrev pub feed : Sha2 → Hashing → List ℕ → Fed
feed p = feed_to p message_limit

unfoldable pub finish : Sha2 → Hashing → List ℕ
finish p h = digest p (hash_blocks p h.chain (parse p (pending p h ++ padding p h.total)))

-- a whole message in one call: refused where it is over the limit, with a digest of zeros
unfoldable pub hashed : Sha2 → List ℕ → Hashed
hashed p m =
    cond (leb (length m) message_limit)
    (record { outcome = Ok tt; digest = hash p m })
    (record { outcome = Err TooLong; digest = replicate (8 * p.bytes) 0 })
