-- A tag under way: the inner hash, and the outer hash after its key block. Every value of the parts is a state.
--
-- Not here: that a tag so made is RFC 2104's (proofs, Laws and Parts).
-- Assumes nothing.
use Rattle.std.specs.Prelude.{cond, ◌&&◌, List, [], ◌∷◌, ℕ, ◌+◌, ◌*◌, leb, length, replicate, Ok, Err}
use Rattle.refusals.specs.declared.Refusal.TheVariants.{TooLong}
use Rattle.refusals.specs.Numbers.{Outcome}
use Rattle.refusals.specs.Limits.{message_limit}
use Rattle.fips180.specs.Fips180.{Sha2, block_bytes}
use Rattle.fips180.specs.Hashing as hashing
use Rattle.fips180.specs.Hashing.{Hashing}
use Rattle.hmac.specs.Rfc2104.{xor_each, key_block, hmac}

pub record Tagging : Type 0 where
  pub inner : Hashing
  pub outer : Hashing

pub record Keyed : Type 0 where
  pub outcome : Outcome
  pub next : Tagging

pub record Tagged : Type 0 where
  pub outcome : Outcome
  pub tag : List ℕ

-- a tag of nothing yet under a key block
unfoldable pub begun : Sha2 → List ℕ → Tagging
begun p b =
    record {
      inner = hashing.absorbed p (hashing.start p) (xor_each 0x36 b);
      outer = hashing.absorbed p (hashing.start p) (xor_each 0x5c b);
    }

-- the state that a refused key leaves: zeros, with totals that refuse every feed
unfoldable pub closed : Sha2 → Tagging
closed p =
    let h : Hashing = record { chain = replicate 8 0; buffer = replicate (block_bytes p) 0; total = 0xffff_ffff } in
    record { inner = h; outer = h }

unfoldable pub start : Sha2 → List ℕ → Keyed
start p k =
    cond (leb (length k) message_limit)
    (record { outcome = Ok tt; next = begun p (key_block p k) })
    (record { outcome = Err TooLong; next = closed p })

-- a feed: the limit is the message's own, without the key block
unfoldable pub feed : Sha2 → Tagging → List ℕ → Keyed
feed p t s =
    let f = hashing.feed_to p (message_limit + block_bytes p) t.inner s in
    record { outcome = f.outcome; next = record { inner = f.next; outer = t.outer } }

unfoldable pub finish : Sha2 → Tagging → List ℕ
finish p t = hashing.finish p (hashing.feed p t.outer (hashing.finish p t.inner)).next

-- a whole message in one call: refused where it or the key is over the limit, with a tag of zeros
unfoldable pub tagged : Sha2 → List ℕ → List ℕ → Tagged
tagged p k m =
    cond (leb (length k) message_limit && leb (length m) message_limit)
    (record { outcome = Ok tt; tag = hmac p k m })
    (record { outcome = Err TooLong; tag = replicate (8 * p.bytes) 0 })

-- the state after feeding each part in turn
unfoldable pub feeds : Sha2 → Tagging → List (List ℕ) → Tagging
feeds p t [] = t
feeds p t (s ∷ ss) = feeds p (feed p t s).next ss
