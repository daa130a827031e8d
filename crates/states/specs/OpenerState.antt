-- An opening under way as 410 bytes.
--
--   figures    the phase's mark, the cipher; in eight bytes each the block's number, its place, the ciphertext taken
--   packed     the figures, the piece before the held bytes, the held bytes, the keys
--   keys       the key, the 60 round keys in four bytes each, the nonce, the base of the tag keys
-- The mark is 1 of an open one, 2 of an ended, 3 of a closed; the cipher 0 of AES-256, 1 of ChaCha20. A mark of 1
-- beside an unlisted cipher is read as closed, and so is any mark but 1 and 2; an unlisted cipher is read as AES-256.
-- Assumes nothing.
use Rattle.std.specs.Prelude.{◌≡◌, cond, List, [], ◌∷◌, ◌++◌, ℕ, ◌^◌, ◌<◌, eqb, ltb, length, get_or, take, drop}
use Rattle.words.specs.Endian.{le, le_bytes}
use Rattle.ciphers.specs.declared.Cipher.{Cipher}
use Rattle.ciphers.specs.declared.Cipher.TheVariants.{Aes256, ChaCha20}
use Rattle.opening.specs.declared.Keys.{Keys}
use Rattle.opening.specs.declared.Phase.{Phase}
use Rattle.opening.specs.declared.Phase.TheVariants.{Open, Closed, Ended}
use Rattle.opening.specs.declared.Opener.{Opener}
use Rattle.states.specs.Words.{word_bytes, words_at, Words}

abbrev pub mark_of : Phase → ℕ
mark_of Open = 1
mark_of Ended = 2
mark_of Closed = 3

abbrev pub byte_of : Cipher → ℕ
byte_of Aes256 = 0
byte_of ChaCha20 = 1

-- the phase of a mark and a cipher's byte
abbrev pub phase_of : ℕ → ℕ → Phase
phase_of m c = cond (eqb m 1) (cond (ltb c 2) Open Closed) (cond (eqb m 2) Ended Closed)

abbrev pub cipher_of : ℕ → Cipher
cipher_of c = cond (eqb c 1) ChaCha20 Aes256

unfoldable pub figures : Opener → List ℕ
figures o =
    (mark_of o.phase ∷ byte_of o.keys.cipher ∷ []) ++ le_bytes 8 o.number ++ le_bytes 8 o.at
    ++ le_bytes 8 o.taken

unfoldable pub keys : Keys → List ℕ
keys k = k.key ++ word_bytes 4 k.round_keys.words ++ k.nonce ++ k.base

unfoldable pub packed : Opener → List ℕ
packed o = figures o ++ o.prev ++ o.held ++ keys o.keys

unfoldable pub keys_in : List ℕ → Keys
keys_in b =
    record {
      cipher = cipher_of (get_or b 1 0);
      key = take 32 (drop 58 b);
      round_keys = record { words = words_at 4 60 b 90 };
      nonce = take 16 (drop 330 b);
      base = take 64 (drop 346 b);
    }

unfoldable pub unpacked : List ℕ → Opener
unpacked b =
    record {
      phase = phase_of (get_or b 0 0) (get_or b 1 0);
      number = le 8 b 2;
      at = le 8 b 10;
      taken = le 8 b 18;
      prev = take 16 (drop 26 b);
      held = take 16 (drop 42 b);
      keys = keys_in b;
    }

-- the arrays have their lengths, and the numbers are within their types
pub record TypedKeys (k : Keys) : Type 0 where
  pub long_key : length k.key ≡ 32
  pub long_round_keys : length k.round_keys.words ≡ 60
  pub words_round_keys : Words 4 k.round_keys.words
  pub long_nonce : length k.nonce ≡ 16
  pub long_base : length k.base ≡ 64

pub record Typed (o : Opener) : Type 0 where
  pub lt_number : o.number < 2 ^ 64
  pub lt_at : o.at < 2 ^ 64
  pub lt_taken : o.taken < 2 ^ 64
  pub long_prev : length o.prev ≡ 16
  pub long_held : length o.held ≡ 16
  pub typed_keys : TypedKeys o.keys
