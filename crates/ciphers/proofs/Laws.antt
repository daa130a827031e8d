-- Laws of the ciphers' figures.
--
-- In order:
--   nonce_length-le        a nonce has sixteen bytes at most
--   length-identifier      an identifier has sixteen
--   cipher_of-identifier   .. and names its cipher
-- Assumes nothing.
use mathlib.Core.Path.{◌≡◌, refl}
use Prim.Native.Nat.{◌≤◌}
use native.Mathlib.Omega.{arith}
use lib.ListN.{length}
use Rattle.slices.specs.Same.{same}
use Rattle.ciphers.specs.Ciphers.{identifier, cipher_of, nonce_length}
use Rattle.ciphers.specs.declared.Cipher.{Cipher}
use Rattle.ciphers.specs.declared.Cipher.TheVariants.{Aes256, ChaCha20}
use Rattle.std.specs.Prelude.{Some}

pub nonce_length-le : (c : Cipher) → nonce_length c ≤ 16
unfolding nonce_length
nonce_length-le Aes256 = omega arith
nonce_length-le ChaCha20 = omega arith

pub length-identifier : (c : Cipher) → length (identifier c) ≡ 16
unfolding identifier
length-identifier Aes256 = refl
length-identifier ChaCha20 = refl

pub cipher_of-identifier : (c : Cipher) → cipher_of (identifier c) ≡ Some c
unfolding cipher_of identifier same
cipher_of-identifier Aes256 = refl
cipher_of-identifier ChaCha20 = refl
