-- The inner stream as a state: document 02, Item 1, "The state carries over from one password to the next".
--
--   started    a start: 9, then 1 for the key
--   is_open    whether a state goes on: its start was accepted, and its position is one that a call could have left
--   applied    a stretch at the state's position: 19 where it is not open; then 1, 17; a refusal leaves the state as it
--              was, and otherwise its position is behind the stretch
--   handed     the bytes that the lent output then has at its front
-- A state keeps the cipher's key and nonce, not the inner key: no stretch hashes it again. Salsa20's nonce is fixed, so
-- such a state's nonce is zeros and not looked at.
-- Not here: one stretch straight from the inner key (InnerStream), lists of stretches (Stretches).
-- Assumes nothing.
use Rattle.std.specs.Prelude.{Bool, true, false, cond, ◌&&◌, List, [], ℕ, ◌+◌, eqb, leb, length, replicate, Ok, Err}
use Rattle.refusals.specs.Limits.{stream_limit}
use Rattle.refusals.specs.declared.Refusal.{Refusal}
use Rattle.refusals.specs.declared.Refusal.TheVariants.{TooLong, Unlisted, OutOfSequence}
use Rattle.refusals.specs.Numbers.{Written}
use Rattle.stream.specs.Stream as stream
use Rattle.chacha20.specs.Rfc8439 as rfc8439
use Rattle.salsa20.specs.Salsa20 as salsa20
use Rattle.inner_stream.specs.InnerStream as inner
use Rattle.inner_stream.specs.declared.StreamCipher.{StreamCipher}
use Rattle.inner_stream.specs.declared.StreamCipher.TheVariants.{Salsa20, ChaCha20, Closed}
use Rattle.inner_stream.specs.declared.InnerStream.{InnerStream}
use Rattle.inner_stream.specs.declared.Started.{Started}
use Rattle.inner_stream.specs.declared.Applied.{Applied}

-- the state of an algorithm, 3 or 2, and a key, behind so many bytes of the stream
unfoldable pub stream_at : ℕ → List ℕ → ℕ → InnerStream
stream_at algorithm key position =
    cond (eqb algorithm 3)
    (record { cipher = ChaCha20; key = inner.chacha_key key; nonce = inner.chacha_nonce key; position = position })
    (record { cipher = Salsa20; key = inner.salsa_key key; nonce = replicate 12 0; position = position })

-- the state of a refused start: zero but for its mark
abbrev pub closed : InnerStream
closed = record { cipher = Closed; key = replicate 32 0; nonce = replicate 12 0; position = 0 }

abbrev pub refused : Refusal → Started
refused r = record { outcome = Err r; next = closed }

unfoldable pub started : ℕ → List ℕ → Started
started algorithm key =
    cond (inner.listed algorithm)
    (cond (leb (length key) stream_limit)
    (record { outcome = Ok tt; next = stream_at algorithm key 0 })
    (refused TooLong))
    (refused (Unlisted 0))

abbrev pub has_cipher : StreamCipher → Bool
has_cipher Salsa20 = true
has_cipher ChaCha20 = true
has_cipher Closed = false

unfoldable pub is_open : InnerStream → Bool
is_open s = has_cipher s.cipher && leb s.position stream_limit

-- the blocks of a cipher: a closed state has none
unfoldable pub blocks_by : StreamCipher → List ℕ → List ℕ → ℕ → List ℕ
blocks_by Salsa20 key nonce = salsa20.blocks key inner.salsa_nonce
blocks_by ChaCha20 key nonce = rfc8439.blocks key nonce
blocks_by Closed key nonce = λ counter. []

abbrev pub blocks_of : InnerStream → ℕ → List ℕ
blocks_of s = blocks_by s.cipher s.key s.nonce

-- a stretch at the state's position, with the stream applied
unfoldable pub covered : InnerStream → List ℕ → List ℕ
covered s bytes = stream.apply (blocks_of s) s.position bytes

-- the state behind n bytes more
abbrev pub behind : InnerStream → ℕ → InnerStream
behind s n = record { cipher = s.cipher; key = s.key; nonce = s.nonce; position = s.position + n }

-- the answer of a stretch, and the state that it leaves
abbrev pub left : InnerStream → Written → Applied
left s (Ok n) = record { written = Ok n; next = behind s n }
left s (Err r) = record { written = Err r; next = s }

unfoldable pub answer : InnerStream → ℕ → ℕ → Written
answer s n room = cond (is_open s) (inner.planned s.position n room) (Err OutOfSequence)

unfoldable pub applied : InnerStream → List ℕ → ℕ → Applied
applied s bytes room = left s (answer s (length bytes) room)

unfoldable pub handed : InnerStream → List ℕ → ℕ → List ℕ
handed s bytes room = inner.due (answer s (length bytes) room) (covered s bytes)
