-- The CBC mode over strings: decryption undoes encryption, both may be cut at any block, and they keep lengths.
--
-- In order:
--   decrypt-encrypt, encrypt-decrypt                each undoes the other, on whole blocks
--   decrypt-append, encrypt-append                  any cut of the run gives what the uncut gives
--   previous_append, previous_last, previous_size   the block that what follows is chained to
--   decrypt_same                                    by functions that agree
--   length-decrypt, length-encrypt, take-decrypt
-- Not here: the mode over blocks (Chain); loops (Turns).
-- Assumes nothing.
use mathlib.Core.Path.{◌≡◌, refl, sym, ◌∙◌, ap, ap₂}
use mathlib.Core.List.{List, [], ◌∷◌, ◌++◌}
use Prim.Native.Nat.{ℕ, ◌+◌, ◌*◌, ◌-◌, ◌/◌, ◌%◌, ◌≤◌}
use native.Mathlib.Omega.{arith}
use lib.ListN.{length, take, drop, length-drop, take-append-drop}
use lib.Seq.{take_all, take_at, length-take-le}
use Rattle.words.specs.Endian.{Bytes}
use Rattle.words.specs.Xor.{xors}
use Rattle.words.specs.Block.{IsBlock}
use Rattle.slices.specs.Cut.{cut}
use Rattle.cbc.specs.Sp80038a.{
  Inverse,
  encrypt_blocks,
  decrypt_blocks,
  last_block,
  blocks,
  whole_blocks,
  joined,
  encrypt,
  decrypt,
  previous,
}
use Rattle.cbc.proofs.Laws.Blocks.{
  all_sizes,
  length-blocks,
  blocks-add,
  joined-append,
  length-joined,
  whole_blocks-sizes,
  whole_blocks_all,
  whole_blocks-append,
  whole_blocks-joined,
  joined-whole_blocks,
}
use Rattle.cbc.proofs.Laws.Chain.{
  last_block-append,
  last_block_size,
  encrypt_blocks_all,
  decrypt_blocks-encrypt_blocks,
  decrypt_blocks_all,
  encrypt_blocks-decrypt_blocks,
  decrypt_blocks-append,
  encrypt_blocks-append,
  length-decrypt_blocks,
  length-encrypt_blocks,
  decrypt_blocks-sizes,
  encrypt_blocks-sizes,
}

-- 6.2: decryption undoes encryption
pub decrypt-encrypt : (ciph inv : List ℕ → List ℕ) → Inverse ciph inv → (c : List ℕ) → IsBlock c → (s : List ℕ)
    → length s % 16 ≡ 0 → Bytes s → decrypt inv c (encrypt ciph c s) ≡ s
unfolding decrypt encrypt
decrypt-encrypt ciph inv pair c h s e b =
    let all = whole_blocks_all s b in
    ap (λ (t : List (List ℕ)). joined (decrypt_blocks inv c t))
    (whole_blocks-joined (all_sizes (encrypt_blocks_all ciph inv pair c h all)))
    ∙ ap joined (decrypt_blocks-encrypt_blocks ciph inv pair c h all)
    ∙ joined-whole_blocks s e

-- and encryption decryption: a ciphertext has one plaintext
pub encrypt-decrypt : (ciph inv : List ℕ → List ℕ) → Inverse inv ciph → (c : List ℕ) → IsBlock c → (s : List ℕ)
    → length s % 16 ≡ 0 → Bytes s → encrypt ciph c (decrypt inv c s) ≡ s
unfolding decrypt encrypt
encrypt-decrypt ciph inv pair c h s e b =
    let all = whole_blocks_all s b in
    ap (λ (t : List (List ℕ)). joined (encrypt_blocks ciph c t))
    (whole_blocks-joined (all_sizes (decrypt_blocks_all ciph inv pair c h all)))
    ∙ ap joined (encrypt_blocks-decrypt_blocks ciph inv pair c h all)
    ∙ joined-whole_blocks s e

pub decrypt-append : (inv : List ℕ → List ℕ) (c a b : List ℕ) → length a % 16 ≡ 0
    → decrypt inv c (a ++ b) ≡ decrypt inv c a ++ decrypt inv (previous c a) b
unfolding decrypt previous
decrypt-append inv c a b h =
    rw (
      whole_blocks-append a b h,
      decrypt_blocks-append inv c (whole_blocks a) (whole_blocks b),
      joined-append (decrypt_blocks inv c (whole_blocks a)),
    )

pub encrypt-append : (f : List ℕ → List ℕ) → ((x : List ℕ) → length x ≡ 16 → length (f x) ≡ 16) → (c : List ℕ) → length c ≡ 16
    → (a b : List ℕ) → length a % 16 ≡ 0 → encrypt f c (a ++ b) ≡ encrypt f c a ++ encrypt f (previous c (encrypt f c a)) b
unfolding encrypt previous
encrypt-append f keeps c h a b e =
    let back = whole_blocks-joined (encrypt_blocks-sizes f keeps c h (whole_blocks-sizes a)) in
    rw (
      back,
      whole_blocks-append a b e,
      encrypt_blocks-append f c (whole_blocks a) (whole_blocks b),
      joined-append (encrypt_blocks f c (whole_blocks a)),
    )

pub previous_append : (c a b : List ℕ) → length a % 16 ≡ 0 → previous c (a ++ b) ≡ previous (previous c a) b
unfolding previous
previous_append c a b h = rw (whole_blocks-append a b h) (last_block-append c (whole_blocks a) (whole_blocks b))

pub previous_size : (c s : List ℕ) → length c ≡ 16 → length (previous c s) ≡ 16
unfolding previous
previous_size c s h = last_block_size c h (whole_blocks-sizes s)

-- the last sixteen bytes of whole blocks
pub previous_last : (c s : List ℕ) → length s % 16 ≡ 0 → 16 ≤ length s → previous c s ≡ drop (length s - 16) s
unfolding previous whole_blocks last_block cut
previous_last c s h l =
    let n : length s / 16 ≡ (length s - 16) / 16 + 1 = omega arith in
    let m : 16 * ((length s - 16) / 16) ≡ length s - 16 = omega arith in
    let k : length (drop (length s - 16) s) ≤ 16 = simp length-drop (omega arith) in
    rw (
      n,
      blocks-add ((length s - 16) / 16) 1 s,
      last_block-append c (blocks ((length s - 16) / 16) s),
      m,
      take_all 16 (drop (length s - 16) s) k,
    )

-- two functions that agree
decrypt_blocks_same : (f g : List ℕ → List ℕ) → ((x : List ℕ) → f x ≡ g x) → (c : List ℕ) (xs : List (List ℕ))
    → decrypt_blocks f c xs ≡ decrypt_blocks g c xs
unfolding decrypt_blocks
decrypt_blocks_same f g h c [] = refl
decrypt_blocks_same f g h c (x ∷ xs) =
    ap₂ (λ (y : List ℕ) (ys : List (List ℕ)). xors y c ∷ ys) (h x) (decrypt_blocks_same f g h x xs)

pub decrypt_same : (f g : List ℕ → List ℕ) → ((x : List ℕ) → f x ≡ g x) → (c s : List ℕ) → decrypt f c s ≡ decrypt g c s
unfolding decrypt
decrypt_same f g h c s = ap joined (decrypt_blocks_same f g h c (whole_blocks s))

module _ (f : List ℕ → List ℕ) (keeps : (x : List ℕ) → length x ≡ 16 → length (f x) ≡ 16) (c : List ℕ) (h : length c ≡ 16) where
  pub length-decrypt : (s : List ℕ) → length (decrypt f c s) ≡ 16 * (length s / 16)
  unfolding decrypt whole_blocks
  length-decrypt s =
      length-joined (decrypt_blocks-sizes f keeps c h (whole_blocks-sizes s))
      ∙ ap (λ (n : ℕ). 16 * n) (length-decrypt_blocks f c (whole_blocks s) ∙ length-blocks (length s / 16) s)

  pub length-encrypt : (s : List ℕ) → length (encrypt f c s) ≡ 16 * (length s / 16)
  unfolding encrypt whole_blocks
  length-encrypt s =
      length-joined (encrypt_blocks-sizes f keeps c h (whole_blocks-sizes s))
      ∙ ap (λ (n : ℕ). 16 * n) (length-encrypt_blocks f c (whole_blocks s) ∙ length-blocks (length s / 16) s)

  -- the first 16 * n bytes of a decryption are the decryption of the first 16 * n bytes
  pub take-decrypt : (s : List ℕ) (n : ℕ) → 16 * n ≤ length s → take (16 * n) (decrypt f c s) ≡ decrypt f c (take (16 * n) s)
  take-decrypt s n l =
      let k = length-take-le (16 * n) s l in
      let front : length (take (16 * n) s) % 16 ≡ 0 = omega arith in
      let e : 16 * (length (take (16 * n) s) / 16) ≡ 16 * n = omega arith in
      ap (λ (t : List ℕ). take (16 * n) (decrypt f c t)) (sym (take-append-drop (16 * n) s))
      ∙ ap (take (16 * n)) (decrypt-append f c (take (16 * n) s) (drop (16 * n) s) front)
      ∙ take_at (decrypt f c (take (16 * n) s)) (decrypt f (previous c (take (16 * n) s)) (drop (16 * n) s)) (16 * n)
      (length-decrypt (take (16 * n) s) ∙ e)
