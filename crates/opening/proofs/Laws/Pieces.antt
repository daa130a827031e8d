-- The two ciphers over a ciphertext that is cut in two.
--
-- In order:
--   length-aes_from, take-aes_from, aes_from-append    AES-256 in the CBC mode, cut at whole pieces
--   length-chacha_from, chacha_from-append            ChaCha20, cut anywhere
-- Not here: padding (Strip).
-- Assumes nothing.
use mathlib.Core.Path.{◌≡◌}
use mathlib.Core.List.{List, ◌++◌}
use Prim.Native.Nat.{ℕ, ◌+◌, ◌*◌, ◌/◌, ◌%◌, ◌≤◌}
use native.Mathlib.Omega.{arith}
use lib.ListN.{length, take}
use Rattle.fips197.specs.Fips197.{inv_cipher}
use Rattle.cbc.specs.Sp80038a.{previous}
use Rattle.cbc.proofs.Laws.Mode.{length-decrypt, take-decrypt, decrypt-append}
use Rattle.aes_cbc.proofs.RoundTrip.{inv_cipher-keeps}
use Rattle.chacha20.specs.Rfc8439 as rfc8439
use Rattle.stream.proofs.Laws.Apply.{length-apply, apply-append}
use Rattle.opening.specs.declared.Keys.{Keys}
use Rattle.opening.specs.Decryption.{aes_from, chacha_from}

-- the inverse cipher under the round keys
abbrev inverse : Keys → List ℕ → List ℕ
inverse k x = inv_cipher x k.round_keys.words

-- the blocks of the key stream
abbrev key_stream : Keys → ℕ → List ℕ
key_stream k = rfc8439.blocks k.key (take 12 k.nonce)

module _ (k : Keys) (v : List ℕ) (h : length v ≡ 16) where
  pub length-aes_from : (t : List ℕ) → length (aes_from k v t) ≡ 16 * (length t / 16)
  length-aes_from t = length-decrypt (inverse k) (inv_cipher-keeps k.round_keys.words) v h t

  pub take-aes_from : (t : List ℕ) (n : ℕ) → n % 16 ≡ 0 → n ≤ length t → take n (aes_from k v t) ≡ aes_from k v (take n t)
  take-aes_from t n z l =
      let e : 16 * (n / 16) ≡ n = omega arith in
      let m : 16 * (n / 16) ≤ length t = omega arith in
      rw e at (take-decrypt (inverse k) (inv_cipher-keeps k.round_keys.words) v h t (n / 16) m)

pub aes_from-append : (k : Keys) (v a b : List ℕ) → length a % 16 ≡ 0
    → aes_from k v (a ++ b) ≡ aes_from k v a ++ aes_from k (previous v a) b
aes_from-append k v a b h = decrypt-append (inverse k) v a b h

pub length-chacha_from : (k : Keys) (c : ℕ) (t : List ℕ) → length (chacha_from k c t) ≡ length t
length-chacha_from k c t = length-apply (key_stream k) c t

pub chacha_from-append : (k : Keys) (c : ℕ) (a b : List ℕ)
    → chacha_from k c (a ++ b) ≡ chacha_from k c a ++ chacha_from k (c + length a) b
chacha_from-append k c a b = apply-append (key_stream k) c a b
