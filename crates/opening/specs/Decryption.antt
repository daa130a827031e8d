-- The decryption of a ciphertext, how much of it is handed over, and the payload in it: document 01, "File after the
-- header".
--
--   AES-256 in CBC mode (SP 800-38A, 6.2), ChaCha20 with the counter from 0 (RFC 8439, 2.4)        decryption
--   "of AES ciphertext that is no multiple of 16 bytes it is that of the whole 16-byte pieces"     decryption
--   "With c ciphertext bytes verified, c at least 1, AES has handed over 16 × floor((c-1)/16);
--    ChaCha20 .. has handed over c. At c = 0 both have handed over none"                          handed, given
--   document 00: "for AES the largest multiple of 16 below that, or none if there is none"        LargestBelow
--   "AES ciphertext length is 0 or no multiple of 16, or padding is wrong" (16)                    payload
-- The padding is still in the decryption, and is stripped once, from the whole (RFC 5652, 6.3).
-- Assumes nothing.
use Rattle.std.specs.Prelude.{◌≡◌, cond, List, ℕ, ◌-◌, ◌*◌, ◌/◌, ◌%◌, ◌≤◌, ◌<◌, eqb, length, take}
use Rattle.std.proofs.Math.Option.{Option, none, some}
use Rattle.refusals.specs.declared.Refusal.{Refusal}
use Rattle.refusals.specs.declared.Refusal.TheVariants.{WrongPadding}
use Rattle.ciphers.specs.declared.Cipher.{Cipher}
use Rattle.ciphers.specs.declared.Cipher.TheVariants.{Aes256, ChaCha20}
use Rattle.aes_cbc.specs.Aes256Cbc as aes256_cbc
use Rattle.stream.specs.Stream as stream
use Rattle.chacha20.specs.Rfc8439 as rfc8439
use Rattle.pkcs7.specs.Pkcs7.{strip}
use Rattle.opening.specs.declared.Keys.{Keys}

-- an opening's outcome: refused, or bytes
pub data Opened : Type 0 where
  refused : Refusal → Opened
  opened : List ℕ → Opened

-- the stretch t of a ciphertext, chained to the piece v
abbrev pub aes_from : Keys → List ℕ → List ℕ → List ℕ
aes_from k v t = aes256_cbc.decrypt k.round_keys.words v t

-- the stretch t of a ciphertext, of which the first byte stands at position c
abbrev pub chacha_from : Keys → ℕ → List ℕ → List ℕ
chacha_from k c t = stream.apply (rfc8439.blocks k.key (take 12 k.nonce)) c t

unfoldable pub decryption_by : Cipher → Keys → List ℕ → List ℕ
decryption_by Aes256 k t = aes_from k k.nonce t
decryption_by ChaCha20 k t = chacha_from k 0 t

abbrev pub decryption : Keys → List ℕ → List ℕ
decryption k t = decryption_by k.cipher k t

-- how many bytes c bytes of ciphertext have handed over
unfoldable pub handed : Cipher → ℕ → ℕ
handed Aes256 c = 16 * ((c - 1) / 16)
handed ChaCha20 c = c

-- n is the largest multiple of 16 below c
pub record LargestBelow (c n : ℕ) : Type 0 where
  pub multiple : n % 16 ≡ 0
  pub below : n < c
  pub largest : (m : ℕ) → m % 16 ≡ 0 → m < c → m ≤ n

-- the bytes that the ciphertext t has handed over
unfoldable pub given : Keys → List ℕ → List ℕ
given k t = take (handed k.cipher (length t)) (decryption k t)

-- a decryption with its padding removed
unfoldable pub stripped : Option (List ℕ) → Opened
stripped none = refused WrongPadding
stripped (some b) = opened b

-- the payload of a whole ciphertext
unfoldable pub payload_by : Cipher → Keys → List ℕ → Opened
payload_by Aes256 k t =
    cond (eqb (length t) 0) (refused WrongPadding)
    (cond (eqb (length t % 16) 0) (stripped (strip (decryption_by Aes256 k t))) (refused WrongPadding))
payload_by ChaCha20 k t = opened (decryption_by ChaCha20 k t)

abbrev pub payload : Keys → List ℕ → Opened
payload k t = payload_by k.cipher k t
