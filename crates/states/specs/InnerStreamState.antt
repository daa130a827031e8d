-- An inner stream under way as 53 bytes: the cipher, its key, its nonce, and the position in eight bytes.
--
-- The cipher's byte is the algorithm's number, 2 of Salsa20 and 3 of ChaCha20; it is 0 of a closed one, and any byte but
-- 2 and 3 is read as closed.
-- Assumes nothing.
use Rattle.std.specs.Prelude.{◌≡◌, cond, List, [], ◌∷◌, ◌++◌, ℕ, ◌^◌, ◌<◌, eqb, length, get_or, take, drop}
use Rattle.words.specs.Endian.{le, le_bytes}
use Rattle.inner_stream.specs.declared.StreamCipher.{StreamCipher}
use Rattle.inner_stream.specs.declared.StreamCipher.TheVariants.{Salsa20, ChaCha20, Closed}
use Rattle.inner_stream.specs.declared.InnerStream.{InnerStream}

abbrev pub byte_of : StreamCipher → ℕ
byte_of Salsa20 = 2
byte_of ChaCha20 = 3
byte_of Closed = 0

abbrev pub cipher_of : ℕ → StreamCipher
cipher_of b = cond (eqb b 2) Salsa20 (cond (eqb b 3) ChaCha20 Closed)

unfoldable pub packed : InnerStream → List ℕ
packed s = (byte_of s.cipher ∷ []) ++ s.key ++ s.nonce ++ le_bytes 8 s.position

unfoldable pub unpacked : List ℕ → InnerStream
unpacked b =
    record {
      cipher = cipher_of (get_or b 0 0);
      key = take 32 (drop 1 b);
      nonce = take 12 (drop 33 b);
      position = le 8 b 45;
    }

-- the arrays have their lengths, and the number is within its type
pub record Typed (s : InnerStream) : Type 0 where
  pub long_key : length s.key ≡ 32
  pub long_nonce : length s.nonce ≡ 12
  pub lt_position : s.position < 2 ^ 64
