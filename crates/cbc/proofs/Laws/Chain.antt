-- The CBC mode over blocks: decryption undoes encryption, encryption decryption, and both may be cut at any block.
--
-- In order:
--   last_block-append, last_block_size
--   decrypt_blocks-encrypt_blocks, encrypt_blocks-decrypt_blocks    each undoes the other
--   encrypt_blocks_all, decrypt_blocks_all                          blocks
--   decrypt_blocks-append, encrypt_blocks-append                    in two parts
--   length-decrypt_blocks, length-encrypt_blocks, decrypt_blocks-sizes, encrypt_blocks-sizes
-- Not here: cutting and joining (Blocks); strings (Mode).
-- Assumes nothing.
use mathlib.Core.Path.{◌≡◌, refl, ap}
use mathlib.Core.List.{List, [], ◌∷◌, ◌++◌}
use Prim.Native.Nat.{ℕ, suc, ◌≤◌}
use native.Mathlib.Omega.{arith}
use lib.ListN.{length}
use Rattle.words.specs.Xor.{xors}
use Rattle.words.proofs.Laws.Xors.{xors_undo}
use Rattle.words.specs.Block.{IsBlock}
use Rattle.cbc.specs.Sp80038a.{Inverse, encrypt_blocks, decrypt_blocks, last_block}
use Rattle.cbc.proofs.Laws.Blocks.{Sizes, sizes_none, sizes_more, AllBlocks, all_none, all_more, xors_size, xors-block}

pub last_block-append : (c : List ℕ) (xs ys : List (List ℕ)) → last_block c (xs ++ ys) ≡ last_block (last_block c xs) ys
unfolding last_block
last_block-append c [] ys = refl
last_block-append c (x ∷ xs) ys = last_block-append x xs ys

pub last_block_size : (c : List ℕ) → length c ≡ 16 → {xs : List (List ℕ)} → Sizes xs → length (last_block c xs) ≡ 16
unfolding last_block
last_block_size c h sizes_none = h
last_block_size c h (sizes_more {x} {xs} p q) = last_block_size x p q

-- two blocks added, and one taken away again
xors_back : (x y : List ℕ) → length x ≡ 16 → length y ≡ 16 → xors (xors x y) y ≡ x
xors_back x y p q =
    let l : length x ≤ length y = omega arith in
    xors_undo x y l

module _ (ciph inv : List ℕ → List ℕ) (pair : Inverse ciph inv) where
  pub encrypt_blocks_all : (c : List ℕ) → IsBlock c → {ps : List (List ℕ)} → AllBlocks ps → AllBlocks (encrypt_blocks ciph c ps)
  unfolding encrypt_blocks
  encrypt_blocks_all c h all_none = all_none
  encrypt_blocks_all c h (all_more {x = p} {xs = ps} b q) =
      let next = pair.block (xors p c) (xors-block p c b h) in
      all_more next (encrypt_blocks_all (ciph (xors p c)) next q)

  pub decrypt_blocks-encrypt_blocks : (c : List ℕ) → IsBlock c → {ps : List (List ℕ)} → AllBlocks ps
      → decrypt_blocks inv c (encrypt_blocks ciph c ps) ≡ ps
  unfolding encrypt_blocks decrypt_blocks
  decrypt_blocks-encrypt_blocks c h all_none = refl
  decrypt_blocks-encrypt_blocks c h (all_more {x = p} {xs = ps} b q) =
      let both = xors-block p c b h in
      rw (
        pair.undo (xors p c) both,
        xors_back p c b.size h.size,
        decrypt_blocks-encrypt_blocks (ciph (xors p c)) (pair.block (xors p c) both) q,
      )

-- a ciphertext has one plaintext
module _ (ciph inv : List ℕ → List ℕ) (pair : Inverse inv ciph) where
  pub decrypt_blocks_all : (c : List ℕ) → IsBlock c → {xs : List (List ℕ)} → AllBlocks xs → AllBlocks (decrypt_blocks inv c xs)
  unfolding decrypt_blocks
  decrypt_blocks_all c h all_none = all_none
  decrypt_blocks_all c h (all_more {x = x} {xs = xs} b q) = all_more (xors-block (inv x) c (pair.block x b) h) (decrypt_blocks_all x b q)

  pub encrypt_blocks-decrypt_blocks : (c : List ℕ) → IsBlock c → {xs : List (List ℕ)} → AllBlocks xs
      → encrypt_blocks ciph c (decrypt_blocks inv c xs) ≡ xs
  unfolding encrypt_blocks decrypt_blocks
  encrypt_blocks-decrypt_blocks c h all_none = refl
  encrypt_blocks-decrypt_blocks c h (all_more {x = x} {xs = xs} b q) =
      rw (xors_back (inv x) c (pair.block x b).size h.size, pair.undo x b, encrypt_blocks-decrypt_blocks x b q)

pub decrypt_blocks-append : (inv : List ℕ → List ℕ) (c : List ℕ) (xs ys : List (List ℕ))
    → decrypt_blocks inv c (xs ++ ys) ≡ decrypt_blocks inv c xs ++ decrypt_blocks inv (last_block c xs) ys
unfolding decrypt_blocks last_block
decrypt_blocks-append inv c [] ys = refl
decrypt_blocks-append inv c (x ∷ xs) ys = ap (λ (t : List (List ℕ)). xors (inv x) c ∷ t) (decrypt_blocks-append inv x xs ys)

pub encrypt_blocks-append : (ciph : List ℕ → List ℕ) (c : List ℕ) (ps qs : List (List ℕ))
    → encrypt_blocks ciph c (ps ++ qs) ≡ encrypt_blocks ciph c ps ++ encrypt_blocks ciph (last_block c (encrypt_blocks ciph c ps)) qs
unfolding encrypt_blocks last_block
encrypt_blocks-append ciph c [] qs = refl
encrypt_blocks-append ciph c (p ∷ ps) qs =
    ap (λ (t : List (List ℕ)). ciph (xors p c) ∷ t) (encrypt_blocks-append ciph (ciph (xors p c)) ps qs)

pub length-decrypt_blocks : (inv : List ℕ → List ℕ) (c : List ℕ) (xs : List (List ℕ)) → length (decrypt_blocks inv c xs) ≡ length xs
unfolding decrypt_blocks
length-decrypt_blocks inv c [] = refl
length-decrypt_blocks inv c (x ∷ xs) = ap suc (length-decrypt_blocks inv x xs)

pub length-encrypt_blocks : (ciph : List ℕ → List ℕ) (c : List ℕ) (ps : List (List ℕ)) → length (encrypt_blocks ciph c ps) ≡ length ps
unfolding encrypt_blocks
length-encrypt_blocks ciph c [] = refl
length-encrypt_blocks ciph c (p ∷ ps) = ap suc (length-encrypt_blocks ciph (ciph (xors p c)) ps)

-- a function that keeps lists of sixteen
module _ (f : List ℕ → List ℕ) (keeps : (x : List ℕ) → length x ≡ 16 → length (f x) ≡ 16) where
  pub decrypt_blocks-sizes : (c : List ℕ) → length c ≡ 16 → {xs : List (List ℕ)} → Sizes xs → Sizes (decrypt_blocks f c xs)
  unfolding decrypt_blocks
  decrypt_blocks-sizes c h sizes_none = sizes_none
  decrypt_blocks-sizes c h (sizes_more {x} {xs} p q) = sizes_more (xors_size (f x) c (keeps x p) h) (decrypt_blocks-sizes x p q)

  pub encrypt_blocks-sizes : (c : List ℕ) → length c ≡ 16 → {ps : List (List ℕ)} → Sizes ps → Sizes (encrypt_blocks f c ps)
  unfolding encrypt_blocks
  encrypt_blocks-sizes c h sizes_none = sizes_none
  encrypt_blocks-sizes c h (sizes_more {x} {xs} p q) =
      let next = keeps (xors x c) (xors_size x c p h) in
      sizes_more next (encrypt_blocks-sizes (f (xors x c)) next q)
