-- FIPS 197, appendix C.3 (AES-256): the example as theorems. Assumes nothing.
use mathlib.Core.Path.{◌≡◌, refl, sym, ap, ◌∙◌}
use mathlib.Core.List.{List, [], ◌∷◌}
use Prim.Native.Nat.{ℕ, ◌+◌, ◌*◌}
use native.Mathlib.Omega.{arith}
use Rattle.words.specs.Endian.{be}
use Rattle.words.specs.Block.{IsBlock}
use Rattle.gf256.specs.Gf256.{x_times, gmul_bits, gmul, gmul_squares, ginv, bit, affine_bit, from_bits, sbox}
use Rattle.fips197.specs.Tabulate.{tabulate}
use Rattle.fips197.specs.Fips197.{
  round,
  rounds,
  final_round,
  cipher,
  rot_word,
  sub_word,
  x_pow,
  rcon,
  temp,
  next_word,
  expanded,
  key_expansion,
  inv_cipher,
}
use Rattle.fips197.proofs.Laws.States.{state-block}
use Rattle.fips197.proofs.Laws.Inverse.{inv_cipher-cipher}

abbrev key : List ℕ
key =
    0x00 ∷ 0x01 ∷ 0x02 ∷ 0x03 ∷ 0x04 ∷ 0x05 ∷ 0x06 ∷ 0x07 ∷ 0x08 ∷ 0x09 ∷ 0x0a ∷ 0x0b ∷ 0x0c ∷ 0x0d ∷ 0x0e ∷ 0x0f ∷
    0x10 ∷ 0x11 ∷ 0x12 ∷ 0x13 ∷ 0x14 ∷ 0x15 ∷ 0x16 ∷ 0x17 ∷ 0x18 ∷ 0x19 ∷ 0x1a ∷ 0x1b ∷ 0x1c ∷ 0x1d ∷ 0x1e ∷ 0x1f ∷ []

abbrev plaintext : List ℕ
plaintext =
    0x00 ∷ 0x11 ∷ 0x22 ∷ 0x33 ∷ 0x44 ∷ 0x55 ∷ 0x66 ∷ 0x77 ∷ 0x88 ∷ 0x99 ∷ 0xaa ∷ 0xbb ∷ 0xcc ∷ 0xdd ∷ 0xee ∷ 0xff ∷ []

abbrev ciphertext : List ℕ
ciphertext =
    0x8e ∷ 0xa2 ∷ 0xb7 ∷ 0xca ∷ 0x51 ∷ 0x67 ∷ 0x45 ∷ 0xbf ∷ 0xea ∷ 0xfc ∷ 0x49 ∷ 0x90 ∷ 0x4b ∷ 0x49 ∷ 0x60 ∷ 0x89 ∷ []

pub c3_cipher : cipher plaintext (key_expansion key) ≡ ciphertext
unfolding tabulate be x_times gmul_bits gmul gmul_squares ginv bit affine_bit from_bits sbox round rounds final_round cipher rot_word sub_word x_pow rcon temp next_word expanded key_expansion
c3_cipher = refl

plaintext-block : IsBlock plaintext
plaintext-block = state-block (λ r c. 0x11 * (r + 4 * c)) (λ r c hr hc. omega arith)

pub c3_inv_cipher : inv_cipher ciphertext (key_expansion key) ≡ plaintext
c3_inv_cipher =
    ap (λ (s : List ℕ). inv_cipher s (key_expansion key)) (sym c3_cipher) ∙ inv_cipher-cipher (key_expansion key) plaintext plaintext-block
