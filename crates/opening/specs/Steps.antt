-- The opener as the code has it: of the ciphertext it keeps the piece before the held bytes, and the held bytes.
--
--   "The opener's state carries the previous 16 ciphertext bytes and the held bytes"            opener, joined
--   "A step that succeeds takes exactly one block" and its checks                               step_of, step_in, step_on
--   "A step over s bytes hands over at most s + 15. The closing step adds 16 - p for AES"       bytes_by, last_by
--   "An opener's closed or ended state is zero but for its mark"                                blank
-- A state that no call could have made (a place over the file's limit; blocks and ciphertext that do not fit before it;
-- more blocks than bytes of ciphertext, or ciphertext and no block) counts as closed: `sound`, `mark_of`.
-- Assumes nothing.
use Rattle.std.specs.Prelude.{Bool, true, cond, ◌&&◌, List, [], ◌++◌, ℕ, suc, ◌+◌, ◌-◌, ◌*◌, ◌/◌, ◌%◌, ltb, leb, eqb, length, take, drop, replicate}
use Rattle.refusals.specs.declared.Refusal.TheVariants.{TrailingBytes, WrongPadding, OutOfSequence}
use Rattle.refusals.specs.Limits.{file_limit}
use Rattle.ciphers.specs.declared.Cipher.{Cipher}
use Rattle.ciphers.specs.declared.Cipher.TheVariants.{Aes256, ChaCha20}
use Rattle.cbc.specs.Sp80038a.{previous}
use Rattle.pkcs7.specs.Pkcs7.{strip}
use Rattle.block_stream.specs.Blocks.{judge, data_at}
use Rattle.block_stream.specs.declared.Block.{Block}
use Rattle.block_stream.specs.declared.Block.TheVariants.{Data, Closing, Refused}
use Rattle.opening.specs.declared.Keys.{Keys}
use Rattle.opening.specs.declared.Phase.{Phase}
use Rattle.opening.specs.declared.Phase.TheVariants.{Open, Closed, Ended}
use Rattle.opening.specs.declared.Opener.{Opener}
use Rattle.opening.specs.Decryption.{Opened, refused, opened, aes_from, chacha_from, handed, stripped}
use Rattle.opening.specs.Runs.{Reply, refuse, hand}

unfoldable pub opener : Keys → Phase → ℕ → ℕ → ℕ → List ℕ → List ℕ → Opener
opener k m i p c v h = record { phase = m; number = i; at = p; taken = c; prev = v; held = h; keys = k }

abbrev pub zeros : List ℕ
zeros = replicate 16 0

unfoldable pub no_keys : Keys
no_keys =
    record {
      cipher = Aes256;
      key = replicate 32 0;
      round_keys = record { words = replicate 60 0 };
      nonce = zeros;
      base = replicate 64 0;
    }

-- a state that is zero but for its mark
unfoldable pub blank : Phase → Opener
blank m = opener no_keys m 0 0 0 zeros zeros

unfoldable pub first_prev : Cipher → List ℕ → List ℕ
first_prev Aes256 v = v
first_prev ChaCha20 v = zeros

-- the state of an accepted start, the first block standing at p
unfoldable pub open_start : Keys → ℕ → Opener
open_start k p = opener k Open 0 p 0 (first_prev k.cipher k.nonce) zeros

-- bytes in an array of sixteen
unfoldable pub padded : List ℕ → List ℕ
padded l = l ++ replicate (16 - length l) 0

-- the position is within the limit and has room for the blocks taken; each of them had a byte at least, and with none
-- there is no ciphertext
unfoldable pub sound : ℕ → ℕ → ℕ → Bool
sound i p c = leb p file_limit && (leb (36 * i + c) p && (leb i c && cond (eqb i 0) (eqb c 0) true))

unfoldable pub mark_of : Bool → Phase → Phase
mark_of b Open = cond b Open Closed
mark_of b Closed = Closed
mark_of b Ended = Ended

-- the held bytes and a block's data, the pieces of them that are due, and the rest
unfoldable pub joined : ℕ → List ℕ → List ℕ → List ℕ
joined c h d = take (c - handed Aes256 c) h ++ d

abbrev pub due_of : List ℕ → List ℕ
due_of j = take (16 * ((length j - 1) / 16)) j

abbrev pub rest_of : List ℕ → List ℕ
rest_of j = drop (16 * ((length j - 1) / 16)) j

unfoldable pub bytes_by : Cipher → Keys → ℕ → List ℕ → List ℕ → List ℕ → List ℕ
bytes_by Aes256 k c v h d = aes_from k v (due_of (joined c h d))
bytes_by ChaCha20 k c v h d = chacha_from k c d

unfoldable pub prev_by : Cipher → ℕ → List ℕ → List ℕ → List ℕ → List ℕ
prev_by Aes256 c v h d = previous v (due_of (joined c h d))
prev_by ChaCha20 c v h d = zeros

unfoldable pub held_by : Cipher → ℕ → List ℕ → List ℕ → List ℕ
held_by Aes256 c h d = padded (rest_of (joined c h d))
held_by ChaCha20 c h d = zeros

-- what the closing block adds
unfoldable pub last_by : Cipher → Keys → ℕ → List ℕ → List ℕ → Opened
last_by Aes256 k c v h =
    cond (eqb c 0) (refused WrongPadding)
    (cond (eqb (c % 16) 0) (stripped (strip (aes_from k v h))) (refused WrongPadding))
last_by ChaCha20 k c v h = opened []

unfoldable pub close_by : Opened → Opener → ℕ → Reply Opener
close_by (refused r) o n = refuse r (blank Closed)
close_by (opened b) o n = hand n b o (blank Ended)

-- the state behind a data block of s bytes
unfoldable pub taking : Opener → List ℕ → Opener
taking o d =
    opener o.keys Open (suc o.number) (o.at + 36 + length d) (o.taken + length d)
    (prev_by o.keys.cipher o.taken o.prev o.held d)
    (held_by o.keys.cipher o.taken o.held d)

unfoldable pub step_on : Block → List ℕ → Opener → ℕ → Reply Opener
step_on (Refused r) f o n = refuse r (blank Closed)
step_on (Data s) f o n =
    hand n (bytes_by o.keys.cipher o.keys o.taken o.prev o.held (data_at f o.at s)) o
    (taking o (data_at f o.at s))
step_on Closing f o n =
    close_by
    (cond (ltb (o.at + 36) (length f)) (refused TrailingBytes)
    (last_by o.keys.cipher o.keys o.taken o.prev o.held))
    o n

unfoldable pub step_in : Phase → List ℕ → Opener → ℕ → Reply Opener
step_in Open f o n = step_on (judge o.keys.base f o.number o.at) f o n
step_in Closed f o n = refuse OutOfSequence o
step_in Ended f o n = refuse OutOfSequence o

-- one step over the file f, with n bytes lent
unfoldable pub step_of : List ℕ → Opener → ℕ → Reply Opener
step_of f o n = step_in (mark_of (sound o.number o.at o.taken) o.phase) f o n
