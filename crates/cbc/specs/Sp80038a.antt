-- NIST SP 800-38A (December 2001), Recommendation for Block Cipher Modes of Operation: the CBC mode, at blocks of 128
-- bits.
--
--   4.2.2  X ⊕ Y                     words' Xor.xors
--   5.1    the block cipher          words' Block.IsBlock, Inverse
--   5.2    strings and their blocks  blocks, whole_blocks, joined
--   6.2    CBC Encryption            encrypt_blocks, encrypt
--   6.2    CBC Decryption            decrypt_blocks, decrypt
-- A block is the list of its 16 bytes. CIPH and its inverse are arguments, with their key in them. The argument behind
-- them is the block before the first: the IV, or the last ciphertext block of what came before (last_block, previous).
-- Not here: padding (appendix A); crate pkcs7.
-- Left out: the other modes; the choice of the IV (appendix C).
-- Differs: encrypt and decrypt take any string; bytes behind its last whole block are left out.
-- Assumes nothing.
use Rattle.std.specs.Prelude.{◌≡◌, List, [], ◌∷◌, ◌++◌, ℕ, ◌/◌, length}
use Rattle.words.specs.Block.{IsBlock}
use Rattle.words.specs.Xor.{xors}
use Rattle.slices.specs.Cut.{cut}

-- 5.1: a cipher on blocks, and its inverse
pub record Inverse (ciph inv : List ℕ → List ℕ) : Type 0 where
  pub undo : (x : List ℕ) → IsBlock x → inv (ciph x) ≡ x
  pub block : (x : List ℕ) → IsBlock x → IsBlock (ciph x)

-- 6.2: C₁ = CIPH(P₁ ⊕ IV), Cⱼ = CIPH(Pⱼ ⊕ Cⱼ₋₁)
unfoldable pub encrypt_blocks : (List ℕ → List ℕ) → List ℕ → List (List ℕ) → List (List ℕ)
encrypt_blocks ciph c [] = []
encrypt_blocks ciph c (p ∷ ps) = ciph (xors p c) ∷ encrypt_blocks ciph (ciph (xors p c)) ps

-- 6.2: P₁ = CIPH⁻¹(C₁) ⊕ IV, Pⱼ = CIPH⁻¹(Cⱼ) ⊕ Cⱼ₋₁
unfoldable pub decrypt_blocks : (List ℕ → List ℕ) → List ℕ → List (List ℕ) → List (List ℕ)
decrypt_blocks inv c [] = []
decrypt_blocks inv c (x ∷ xs) = xors (inv x) c ∷ decrypt_blocks inv x xs

-- the last of the blocks xs, c where there is none
unfoldable pub last_block : List ℕ → List (List ℕ) → List ℕ
last_block c [] = c
last_block c (x ∷ xs) = last_block x xs

-- 5.2: the first n blocks of a string, its whole blocks, and the string of blocks
abbrev pub blocks : ℕ → List ℕ → List (List ℕ)
blocks n s = cut 16 n s

unfoldable pub whole_blocks : List ℕ → List (List ℕ)
whole_blocks s = blocks (length s / 16) s

unfoldable pub joined : List (List ℕ) → List ℕ
joined [] = []
joined (x ∷ xs) = x ++ joined xs

-- 6.2 over the whole blocks of a string
unfoldable pub encrypt : (List ℕ → List ℕ) → List ℕ → List ℕ → List ℕ
encrypt ciph c s = joined (encrypt_blocks ciph c (whole_blocks s))

unfoldable pub decrypt : (List ℕ → List ℕ) → List ℕ → List ℕ → List ℕ
decrypt inv c s = joined (decrypt_blocks inv c (whole_blocks s))

-- the last whole block of a ciphertext, c where there is none: what follows is chained to it
unfoldable pub previous : List ℕ → List ℕ → List ℕ
previous c s = last_block c (whole_blocks s)
