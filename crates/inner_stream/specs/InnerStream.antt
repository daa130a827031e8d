-- The inner stream of a payload: document 02, Item 1, "Show a protected password".
--
--   "ChaCha20 (3): SHA-512 of the key, first 32 bytes as key, next 12 as nonce"    chacha_key, chacha_nonce, blocks
--   "Salsa20 (2): SHA-256 of the key, nonce E830094B97205D2A"                      salsa_nonce, salsa_key, blocks
--   "Counters start at 0"                                                          the crate stream's apply
--   "a stretch of bytes at stream position p uncovered or covered"                 covered
--   "Refusals: 9 for another algorithm, then 1 where the key's length or position
--    plus length passes 4,194,304, then 17"                                        listed, planned, applying
-- Document 01: "A refusal .. changes no lent byte. A success changes only the bytes due"    due, applied_bytes
-- Not here: the ciphers (crates chacha20, salsa20), a stream's application (crate stream), the state that carries over
-- from one stretch to the next (State).
-- Assumes nothing.
use Rattle.std.specs.Prelude.{Bool, cond, ◌||◌, List, [], ◌∷◌, ℕ, ◌+◌, eqb, leb, length, take, drop, Ok, Err}
use Rattle.refusals.specs.Limits.{stream_limit}
use Rattle.refusals.specs.declared.Refusal.TheVariants.{TooLong, NoRoom, Unlisted}
use Rattle.refusals.specs.Numbers.{Written}
use Rattle.fips180.specs.Fips180.{sha256, sha512, hash}
use Rattle.stream.specs.Stream as stream
use Rattle.chacha20.specs.Rfc8439 as rfc8439
use Rattle.salsa20.specs.Salsa20 as salsa20

abbrev pub salsa_nonce : List ℕ
salsa_nonce = 0xe8 ∷ 0x30 ∷ 0x09 ∷ 0x4b ∷ 0x97 ∷ 0x20 ∷ 0x5d ∷ 0x2a ∷ []

abbrev pub chacha_key : List ℕ → List ℕ
chacha_key key = take 32 (hash sha512 key)

abbrev pub chacha_nonce : List ℕ → List ℕ
chacha_nonce key = take 12 (drop 32 (hash sha512 key))

abbrev pub salsa_key : List ℕ → List ℕ
salsa_key key = hash sha256 key

-- the blocks of an algorithm, 3 or 2, and a key, by their counter
unfoldable pub blocks : ℕ → List ℕ → ℕ → List ℕ
blocks algorithm key =
    cond (eqb algorithm 3)
    (rfc8439.blocks (chacha_key key) (chacha_nonce key))
    (salsa20.blocks (salsa_key key) salsa_nonce)

-- the bytes of a stretch, of which the first stands at the position, with the stream applied
unfoldable pub covered : ℕ → List ℕ → ℕ → List ℕ → List ℕ
covered algorithm key position s = stream.apply (blocks algorithm key) position s

abbrev pub listed : ℕ → Bool
listed algorithm = eqb algorithm 2 || eqb algorithm 3

-- a stretch of n bytes at a position, with so many lent: where it ends (1), room (17)
unfoldable pub planned : ℕ → ℕ → ℕ → Written
planned position n room =
    cond (leb (position + n) stream_limit) (cond (leb n room) (Ok n) (Err NoRoom)) (Err TooLong)

-- algorithm (9), the key's length (1), then the stretch
unfoldable pub applying : ℕ → List ℕ → ℕ → List ℕ → ℕ → Written
applying algorithm key position s room =
    cond (listed algorithm)
    (cond (leb (length key) stream_limit) (planned position (length s) room) (Err TooLong))
    (Err (Unlisted 0))

-- the bytes that the lent output then has at its front: none on a refusal
unfoldable pub due : Written → List ℕ → List ℕ
due (Ok n) w = w
due (Err r) w = []

unfoldable pub applied_bytes : ℕ → List ℕ → ℕ → List ℕ → ℕ → List ℕ
applied_bytes algorithm key position s room =
    due (applying algorithm key position s room) (covered algorithm key position s)
