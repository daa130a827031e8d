-- What was encrypted opens to itself, for demand 2: "What we write opens to the same payload".
--
-- In order: length-encrypted, payload_aes (padded, then AES-256 in the CBC mode), payload_chacha (ChaCha20).
-- Not here: blocks and their tags (block_stream).
-- Assumes nothing.
use mathlib.Core.Path.{◌≡◌, ap, ◌∙◌}
use mathlib.Core.List.{List}
use Prim.Native.Nat.{ℕ, ◌+◌, ◌*◌, ◌/◌, ◌%◌}
use native.Mathlib.Omega.{arith}
use borrow.Author.Tests.{eq-eqb, ne_eqb}
use lib.ListN.{length, take}
use Rattle.words.specs.Endian.{Bytes}
use Rattle.words.specs.Block.{IsBlock}
use Rattle.fips197.specs.Fips197.{cipher}
use Rattle.cbc.proofs.Laws.Mode.{length-encrypt}
use Rattle.aes_cbc.specs.Aes256Cbc as aes256_cbc
use Rattle.aes_cbc.proofs.RoundTrip.{cipher-keeps, aes_cbc_decrypt_encrypt}
use Rattle.pkcs7.specs.Pkcs7.{pad}
use Rattle.pkcs7.proofs.Laws.Padding.{length-pad, bytes_pad, strip-pad}
use Rattle.chacha20.specs.Rfc8439 as rfc8439
use Rattle.stream.proofs.Laws.Apply.{apply-apply}
use Rattle.ciphers.specs.declared.Cipher.TheVariants.{Aes256, ChaCha20}
use Rattle.opening.specs.declared.Keys.{Keys}
use Rattle.opening.specs.Decryption.{opened, chacha_from, decryption_by, stripped, payload_by}

-- a payload, padded and encrypted
abbrev pub encrypted : Keys → List ℕ → List ℕ
encrypted k m = aes256_cbc.encrypt k.round_keys.words k.nonce (pad m)

pub length-encrypted : (k : Keys) → length k.nonce ≡ 16 → (m : List ℕ)
    → length (encrypted k m) ≡ 16 * (length m / 16 + 1)
length-encrypted k w m =
    let e = length-pad m in
    length-encrypt (λ x. cipher x k.round_keys.words) (cipher-keeps k.round_keys.words) k.nonce w (pad m)
    ∙ (omega arith)

pub payload_aes : (k : Keys) → IsBlock k.nonce → (m : List ℕ) → Bytes m
    → payload_by Aes256 k (encrypted k m) ≡ opened m
unfolding payload_by decryption_by stripped
payload_aes k h m b =
    let l = length-encrypted k h.size m in
    let e = length-pad m in
    let z : length (encrypted k m) % 16 ≡ 0 = omega arith in
    let y : length (pad m) % 16 ≡ 0 = omega arith in
    rw (
      ne_eqb (length (encrypted k m)) 0 (λ x. omega arith),
      eq-eqb (length (encrypted k m) % 16) 0 z,
      aes_cbc_decrypt_encrypt k.round_keys.words k.nonce h (pad m) y (bytes_pad m b),
      strip-pad m,
    )

pub payload_chacha : (k : Keys) (m : List ℕ) → payload_by ChaCha20 k (chacha_from k 0 m) ≡ opened m
unfolding payload_by decryption_by
payload_chacha k m = ap opened (apply-apply (rfc8439.blocks k.key (take 12 k.nonce)) 0 m)
