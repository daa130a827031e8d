-- A loop that encrypts or decrypts the blocks of a lent slice in place: one turn of it, and its end.
--
-- In order:
--   decrypted_to, decrypted_to-zero, decrypted_to_more, length-decrypted_to, decrypted_to_all
--   encrypted_to, encrypted_to-zero, encrypted_to_more, length-encrypted_to, encrypted_to_all
--   cipher_block-zero, cipher_block_more, cipher_block_all, encrypted_last-zero, encrypted_last_more, encrypted_last_all
--                                    the block that the next one is chained to
--   length_decrypted_over, length-encrypted_over
--   decrypt-block, decrypt-turn, encrypt-turn    a turn, in place
-- Assumes nothing.
use mathlib.Core.Path.{◌≡◌, refl, sym, ◌∙◌, ap, ap₂}
use mathlib.Core.List.{List, ◌++◌, append-nil}
use Prim.Native.Nat.{ℕ, ◌+◌, ◌*◌, ◌-◌, ◌/◌, ◌≤◌}
use native.Mathlib.Omega.{arith}
use lib.ListN.{length, take, drop}
use Rattle.words.specs.Xor.{xors}
use Rattle.slices.specs.Over.{over}
use Rattle.slices.proofs.Laws.Over.{length_over, over_tail, drop_over}
use Rattle.slices.specs.Cut.{cut}
use Rattle.cbc.specs.Sp80038a.{encrypt_blocks, decrypt_blocks, last_block, blocks, whole_blocks, joined, encrypt, decrypt, previous}
use Rattle.cbc.proofs.Laws.Blocks.{length-blocks, blocks-snoc, blocks-sizes, joined-append, length-joined, whole_blocks-sizes, whole_blocks-joined}
use Rattle.cbc.proofs.Laws.Chain.{
  last_block-append,
  decrypt_blocks-append,
  encrypt_blocks-append,
  length-decrypt_blocks,
  length-encrypt_blocks,
  decrypt_blocks-sizes,
  encrypt_blocks-sizes,
}

-- block i of a string
abbrev pub block_at : ℕ → List ℕ → List ℕ
block_at i s = take 16 (drop (16 * i) s)

-- the ciphertext block before block i
abbrev pub cipher_block : List ℕ → List ℕ → ℕ → List ℕ
cipher_block c s i = last_block c (blocks i s)

pub cipher_block-zero : (c s : List ℕ) → cipher_block c s 0 ≡ c
unfolding last_block cut
cipher_block-zero c s = refl

pub cipher_block_more : (c s : List ℕ) (i : ℕ) → cipher_block c s (i + 1) ≡ block_at i s
unfolding last_block
cipher_block_more c s i = rw (blocks-snoc i s, last_block-append c (blocks i s))

pub cipher_block_all : (c s : List ℕ) (i : ℕ) → i ≡ length s / 16 → cipher_block c s i ≡ previous c s
unfolding previous whole_blocks
cipher_block_all c s i e = ap (cipher_block c s) e

-- the first n blocks, decrypted
unfoldable pub decrypted_to : (List ℕ → List ℕ) → List ℕ → List ℕ → ℕ → List ℕ
decrypted_to inv c s n = joined (decrypt_blocks inv c (blocks n s))

pub decrypted_to-zero : (inv : List ℕ → List ℕ) (c s d : List ℕ) → d ≡ over (decrypted_to inv c s 0) d
unfolding decrypted_to joined decrypt_blocks cut over
decrypted_to-zero inv c s d = refl

pub decrypted_to_more : (inv : List ℕ → List ℕ) (c s : List ℕ) (i : ℕ)
    → decrypted_to inv c s (i + 1) ≡ decrypted_to inv c s i ++ xors (inv (block_at i s)) (cipher_block c s i)
unfolding decrypted_to decrypt_blocks joined
decrypted_to_more inv c s i =
    rw (blocks-snoc i s, decrypt_blocks-append inv c (blocks i s), joined-append (decrypt_blocks inv c (blocks i s)), append-nil)

pub decrypted_to_all : (inv : List ℕ → List ℕ) (c s : List ℕ) (i : ℕ) → i ≡ length s / 16 → decrypted_to inv c s i ≡ decrypt inv c s
unfolding decrypted_to decrypt whole_blocks
decrypted_to_all inv c s i e = ap (λ (n : ℕ). joined (decrypt_blocks inv c (blocks n s))) e

-- the first n blocks, encrypted
unfoldable pub encrypted_to : (List ℕ → List ℕ) → List ℕ → List ℕ → ℕ → List ℕ
encrypted_to ciph c s n = joined (encrypt_blocks ciph c (blocks n s))

-- the last block of them
unfoldable pub encrypted_last : (List ℕ → List ℕ) → List ℕ → List ℕ → ℕ → List ℕ
encrypted_last ciph c s n = last_block c (encrypt_blocks ciph c (blocks n s))

pub encrypted_to-zero : (ciph : List ℕ → List ℕ) (c s d : List ℕ) → d ≡ over (encrypted_to ciph c s 0) d
unfolding encrypted_to joined encrypt_blocks cut over
encrypted_to-zero ciph c s d = refl

pub encrypted_last-zero : (ciph : List ℕ → List ℕ) (c s : List ℕ) → encrypted_last ciph c s 0 ≡ c
unfolding encrypted_last encrypt_blocks last_block cut
encrypted_last-zero ciph c s = refl

pub encrypted_to_more : (ciph : List ℕ → List ℕ) (c s : List ℕ) (i : ℕ)
    → encrypted_to ciph c s (i + 1) ≡ encrypted_to ciph c s i ++ ciph (xors (block_at i s) (encrypted_last ciph c s i))
unfolding encrypted_to encrypted_last encrypt_blocks joined
encrypted_to_more ciph c s i =
    rw (blocks-snoc i s, encrypt_blocks-append ciph c (blocks i s), joined-append (encrypt_blocks ciph c (blocks i s)), append-nil)

pub encrypted_last_more : (ciph : List ℕ → List ℕ) (c s : List ℕ) (i : ℕ)
    → encrypted_last ciph c s (i + 1) ≡ ciph (xors (block_at i s) (encrypted_last ciph c s i))
unfolding encrypted_last encrypt_blocks last_block
encrypted_last_more ciph c s i =
    rw (blocks-snoc i s, encrypt_blocks-append ciph c (blocks i s), last_block-append c (encrypt_blocks ciph c (blocks i s)))

pub encrypted_to_all : (ciph : List ℕ → List ℕ) (c s : List ℕ) (i : ℕ) → i ≡ length s / 16 → encrypted_to ciph c s i ≡ encrypt ciph c s
unfolding encrypted_to encrypt whole_blocks
encrypted_to_all ciph c s i e = ap (λ (n : ℕ). joined (encrypt_blocks ciph c (blocks n s))) e

module _ (f : List ℕ → List ℕ) (keeps : (x : List ℕ) → length x ≡ 16 → length (f x) ≡ 16) (c : List ℕ) (h : length c ≡ 16) where
  pub length-decrypted_to : (s : List ℕ) (i : ℕ) → 16 * i ≤ length s → length (decrypted_to f c s i) ≡ 16 * i
  unfolding decrypted_to
  length-decrypted_to s i l =
      length-joined (decrypt_blocks-sizes f keeps c h (blocks-sizes i s l))
      ∙ ap (λ (n : ℕ). 16 * n) (length-decrypt_blocks f c (blocks i s) ∙ length-blocks i s)

  pub length-encrypted_to : (s : List ℕ) (i : ℕ) → 16 * i ≤ length s → length (encrypted_to f c s i) ≡ 16 * i
  unfolding encrypted_to
  length-encrypted_to s i l =
      length-joined (encrypt_blocks-sizes f keeps c h (blocks-sizes i s l))
      ∙ ap (λ (n : ℕ). 16 * n) (length-encrypt_blocks f c (blocks i s) ∙ length-blocks i s)

  -- the slice stays as long
  pub length_decrypted_over : (s : List ℕ) (i : ℕ) → 16 * i ≤ length s → length (over (decrypted_to f c s i) s) ≡ length s
  length_decrypted_over s i l =
      let long = length-decrypted_to s i l in
      length_over (decrypted_to f c s i) s (omega arith)

  pub length-encrypted_over : (s : List ℕ) (i : ℕ) → 16 * i ≤ length s → length (over (encrypted_to f c s i) s) ≡ length s
  length-encrypted_over s i l =
      let long = length-encrypted_to s i l in
      length_over (encrypted_to f c s i) s (omega arith)

  pub encrypted_last_all : (s : List ℕ) (i : ℕ) → i ≡ length s / 16 → encrypted_last f c s i ≡ previous c (encrypt f c s)
  unfolding encrypted_last previous encrypt whole_blocks
  encrypted_last_all s i e =
      ap (λ (n : ℕ). last_block c (encrypt_blocks f c (blocks n s))) e
      ∙ ap (last_block c) (sym (whole_blocks-joined (encrypt_blocks-sizes f keeps c h (whole_blocks-sizes s))))

-- what stands from block i on is as it was
block_in_place : (w d out : List ℕ) (i : ℕ) → out ≡ over w d → length w ≡ 16 * i → block_at i out ≡ block_at i d
block_in_place w d out i e l = ap (take 16) (ap (drop (16 * i)) e ∙ drop_over w d (16 * i) l)

-- the tail from block i on is lent, and y is written over its front
turn_in_place : (w w' y d out ys : List ℕ) (i k : ℕ) → out ≡ over w d → length w ≡ 16 * i → 16 * i ≤ length d → k ≡ length d - 16 * i
    → w' ≡ w ++ y → ys ≡ over y (take k (drop (16 * i) out))
    → take (16 * i) out ++ (ys ++ drop k (drop (16 * i) out)) ≡ over w' d
turn_in_place w w' y d out ys i k o l m e p q =
    over_tail w y d out ys (16 * i) k o l m e q ∙ ap (λ (t : List ℕ). over t d) (sym p)

module _ (f : List ℕ → List ℕ) (keeps : (x : List ℕ) → length x ≡ 16 → length (f x) ≡ 16) (c : List ℕ) (h : length c ≡ 16) (s : List ℕ)
    (i : ℕ) (fits : 16 * i ≤ length s) (out : List ℕ) where
  pub decrypt-block : out ≡ over (decrypted_to f c s i) s → block_at i out ≡ block_at i s
  decrypt-block o = block_in_place (decrypted_to f c s i) s out i o (length-decrypted_to f keeps c h s i fits)

  pub decrypt-turn : out ≡ over (decrypted_to f c s i) s → (x p b y ys : List ℕ) (k : ℕ) → x ≡ block_at i out → p ≡ f x
      → b ≡ cipher_block c s i → y ≡ xors p b → k ≡ length s - 16 * i → ys ≡ over y (take k (drop (16 * i) out))
      → take (16 * i) out ++ (ys ++ drop k (drop (16 * i) out)) ≡ over (decrypted_to f c s (i + 1)) s
  decrypt-turn o x p b y ys k ex ep eb ey ek q =
      turn_in_place (decrypted_to f c s i) (decrypted_to f c s (i + 1)) y s out ys i k o (length-decrypted_to f keeps c h s i fits) fits ek
      (decrypted_to_more f c s i
      ∙ ap (λ (t : List ℕ). decrypted_to f c s i ++ t) (sym (ey ∙ ap₂ xors (ep ∙ ap f (ex ∙ decrypt-block o)) eb))) q

  pub encrypt-turn : out ≡ over (encrypted_to f c s i) s → (p b x y ys : List ℕ) (k : ℕ) → p ≡ block_at i out
      → b ≡ encrypted_last f c s i → x ≡ xors p b → y ≡ f x → k ≡ length s - 16 * i → ys ≡ over y (take k (drop (16 * i) out))
      → (y ≡ encrypted_last f c s (i + 1)) × (take (16 * i) out ++ (ys ++ drop k (drop (16 * i) out)) ≡ over (encrypted_to f c s (i + 1)) s)
  encrypt-turn o p b x y ys k ep eb ex ey ek q =
      let long = length-encrypted_to f keeps c h s i fits in
      let e : y ≡ f (xors (block_at i s) (encrypted_last f c s i)) =
      ey ∙ ap f (ex ∙ ap₂ xors (ep ∙ block_in_place (encrypted_to f c s i) s out i o long) eb) in (
        e ∙ sym (encrypted_last_more f c s i),
        turn_in_place (encrypted_to f c s i) (encrypted_to f c s (i + 1)) y s out ys i k o long fits ek
            (encrypted_to_more f c s i ∙ ap (λ (t : List ℕ). encrypted_to f c s i ++ t) (sym e)) q,
      )
