-- A vault's start, and the whole opening: document 01, "Keys" and "File after the header".
--
--   "demand 3's keys are the cipher key and tag base that it gives with the header's master seed"     keys_of
--   "Needed next: SHA-256 of the header and its HMAC-SHA-256 under the key for 2^64-1 (64 bytes,
--    else 2; then 12, 13)"                                                                            start_at, hash_holds, tag_holds
--   "A block-by-block opening starts with the header's checks and these"                              start, state_of
--   "The whole opener makes the header checks, then the same, with 17 once and last"                  opened_in
-- t is T, f the file. A nonce of twelve bytes has four zeros behind it.
-- Not here: the header (crate outer_header), the blocks (crates block_stream and opening).
-- Assumes nothing.
use Rattle.std.specs.Prelude.{Bool, cond, List, ℕ, ◌+◌, ◌-◌, ltb, length, take, drop, Result, Ok, Err}
use Rattle.slices.specs.Same.{same}
use Rattle.refusals.specs.declared.Refusal.{Refusal}
use Rattle.refusals.specs.declared.Refusal.TheVariants.{CutShort, HeaderHash, HeaderTag}
use Rattle.refusals.specs.Numbers.{Outcome}
use Rattle.fields.specs.Fields.{bytes_at}
use Rattle.outer_header.specs.Kdbx4Header.{header}
use Rattle.outer_header.specs.declared.Header.{Header}
use Rattle.opening.specs.declared.Keys.{Keys}
use Rattle.opening.specs.declared.Opener.{Opener}
use Rattle.opening.specs.declared.Phase.TheVariants.{Closed}
use Rattle.opening.specs.Decryption.{Opened, refused}
use Rattle.opening.specs.Whole.{whole_in}
use Rattle.opening.specs.Steps.{padded, blank, open_start}
use Rattle.vault_keys.specs.VaultKeys.{keys_with, header_hash, header_tag}

-- the keys of T and a header
unfoldable pub keys_of : List ℕ → List ℕ → Header → Keys
keys_of t f h = keys_with h.cipher (bytes_at f h.seed) (padded (bytes_at f h.nonce)) t

-- a start: refused, or the keys and the place of the first block
pub data Begun : Type 0 where
  start_refused : Refusal → Begun
  begun : Keys → ℕ → Begun

-- the hash and the tag behind a header of n bytes
unfoldable pub hash_holds : List ℕ → ℕ → Bool
hash_holds f n = same (take 32 (drop n f)) (header_hash (take n f))

unfoldable pub tag_holds : List ℕ → List ℕ → ℕ → Bool
tag_holds base f n = same (take 32 (drop (n + 32) f)) (header_tag base (take n f))

-- 64 bytes present (2), hash (12), tag (13)
unfoldable pub start_at : List ℕ → ℕ → Keys → Begun
start_at f n k =
    cond (ltb (length f - n) 64) (start_refused (CutShort 0))
    (cond (hash_holds f n)
    (cond (tag_holds k.base f n) (begun k (n + 64)) (start_refused HeaderTag))
    (start_refused HeaderHash))

unfoldable pub start_in : List ℕ → List ℕ → Result Header Refusal → Begun
start_in t f (Err r) = start_refused r
start_in t f (Ok h) = start_at f h.length (keys_of t f h)

unfoldable pub start : List ℕ → List ℕ → Begun
start t f = start_in t f (header f)

-- a start's answer, and the state that it gives: closed where it is refused
unfoldable pub outcome_of : Begun → Outcome
outcome_of (start_refused r) = Err r
outcome_of (begun k p) = Ok tt

unfoldable pub state_of : Begun → Opener
state_of (start_refused r) = blank Closed
state_of (begun k p) = open_start k p

-- the whole opening, with n bytes lent
unfoldable pub opened_by : Begun → List ℕ → ℕ → Opened
opened_by (start_refused r) f n = refused r
opened_by (begun k p) f n = whole_in k f p n

unfoldable pub opened_in : List ℕ → List ℕ → ℕ → Opened
opened_in t f n = opened_by (start t f) f n
