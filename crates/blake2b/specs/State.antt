-- How the struct `Blake2b` stands for a hash under way, and what each of its functions makes of it.
--
-- Every value of the struct is a state. How many bytes of the buffer are pending follows from the total: the last block is
-- kept back, since it is the one with the flag, so that a full block is pending until another byte comes. A total over the
-- limit, which no call makes, refuses every feed, the empty one too.
-- Not here: the RFC (Rfc7693); that a state so fed gives its hash (proofs, Laws.Feeding and Parts).
-- Assumes nothing.
use Rattle.std.specs.Prelude.{true, cond, List, [], ◌∷◌, ◌++◌, ℕ, ◌+◌, ◌-◌, ◌*◌, leb, length, take, replicate, Ok, Err}
use Rattle.refusals.specs.declared.Refusal.TheVariants.{TooLong}
use Rattle.refusals.specs.Limits.{message_limit}
use Rattle.blake2b.specs.Rfc7693.{compression_f, blocks_before, padded, initial, chain, last_block, serialize}
use Rattle.blake2b.specs.declared.Blake2b.{Blake2b}
use Rattle.blake2b.specs.declared.Fed.{Fed}

-- how many of n bytes are in the last block
abbrev pub waiting : ℕ → ℕ
waiting n = n - 128 * blocks_before n

-- the bytes that are not compressed yet
unfoldable pub pending : Blake2b → List ℕ
pending h = take (waiting h.total) h.buffer

unfoldable pub started : ℕ → Blake2b
started nn = record { chain = initial nn; buffer = replicate 128 0; total = 0 }

-- the state with the bytes of s behind those that came before
unfoldable pub absorbed : Blake2b → List ℕ → Blake2b
absorbed h s =
    record {
      chain = chain (blocks_before (length (pending h ++ s))) h.chain (128 * blocks_before h.total)
          (pending h ++ s);
      buffer = padded (last_block (pending h ++ s));
      total = h.total + length s;
    }

-- a feed within the limit of a message: refused where the bytes in all would pass it, with the state as it was
unfoldable pub fed : Blake2b → List ℕ → Fed
fed h s =
    cond (leb (h.total + length s) message_limit)
    (record { outcome = Ok tt; next = absorbed h s })
    (record { outcome = Err TooLong; next = h })

-- the bytes of the final h; the digest of nn bytes is the first nn of them
unfoldable pub finished : Blake2b → List ℕ
finished h = serialize (compression_f h.chain (padded (pending h)) h.total true)

-- the state after feeding each part in turn, refused or not
unfoldable pub feeds : Blake2b → List (List ℕ) → Blake2b
feeds h [] = h
feeds h (s ∷ ss) = feeds (fed h s).next ss
