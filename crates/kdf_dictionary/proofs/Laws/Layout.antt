-- How long the parts of a written dictionary are, and how code lays them one behind the other.
--
-- In order:
--   length-item_bytes, item_laid                     an item
--   length-front_bytes, length-cost_bytes             up to the identifier, and up to the lanes
--   front_laid, aes_kdf-laid, costs_laid, argon2_laid
--   length-aes_kdf_bytes, length-argon2_bytes, length-kdf_bytes
--   kdf_length-le                                    at most 171 bytes
-- Assumes nothing.
use mathlib.Core.Path.{◌≡◌, refl, sym, ap, ◌∙◌}
use mathlib.Core.List.{List, [], ◌∷◌, ◌++◌}
use Prim.Native.Nat.{ℕ, ◌+◌, ◌≤◌}
use native.Mathlib.Omega.{arith}
use lib.Dec.{leb}
use lib.ListN.{length, get_or, take, length-append, length-take}
use borrow.Author.Tests.{leb-true, leb-false}
use Rattle.words.proofs.Laws.Cases.{by_bool}
use Rattle.words.specs.Endian.{le_bytes}
use Rattle.slices.specs.Over.{laid, put_at}
use Rattle.slices.proofs.Laws.Put.{laid_first, laid_more, put_at_past, put_at-put_at}
use Rattle.fields.specs.Fields.{field_bytes}
use Rattle.fields.proofs.Laws.Written.{length-field_bytes}
use Rattle.dictionary.specs.Dictionary.{item_bytes}
use Rattle.kdf_dictionary.specs.declared.writer.Figures.{Figures}
use Rattle.kdf_dictionary.specs.declared.writer.Figures.TheVariants as figures
use Rattle.kdf_dictionary.specs.Kdf.{
  aes_kdf_uuid,
  argon2d_uuid,
  argon2id_uuid,
  uuid_name,
  salt_name,
  rounds_name,
  version_name,
  passes_name,
  memory_name,
  lanes_name,
  front_bytes,
  aes_kdf_bytes,
  cost_bytes,
  argon2_bytes,
  kdf_bytes,
  kdf_length,
}

pub length-item_bytes : (kind : ℕ) (name value : List ℕ) → length (item_bytes kind name value) ≡ 9 + length name + length value
unfolding item_bytes le_bytes
length-item_bytes kind name value = simp length-append (omega arith)

-- a part laid behind a part of n bytes, wherever there is room
put_at_more : (w s d x y : List ℕ) (at n : ℕ) → length w ≡ n → x ≡ put_at at w d → y ≡ put_at (at + n) s x
    → y ≡ put_at at (w ++ s) d
put_at_more w s d x y at n e f g =
    by_bool (leb at (length d))
    (λ t. g ∙ ap (λ (z : List ℕ). put_at (at + n) s z) f ∙ put_at-put_at w s d at n e (leb-true at (length d) t))
    (λ t.
    let h : length d ≤ at = omega (arith, leb-false at (length d) t) in
    let q : x ≡ d = f ∙ put_at_past at w d h in
    let l : length x ≤ at + n = rw q (omega arith) in
    g ∙ put_at_past (at + n) s x l ∙ q ∙ sym (put_at_past at (w ++ s) d h))

-- the low four bytes of a size
abbrev pub low : List ℕ → List ℕ
low size = get_or size 0 0 ∷ get_or size 1 0 ∷ get_or size 2 0 ∷ get_or size 3 0 ∷ []

low_is : (size : List ℕ) (n : ℕ) → size ≡ le_bytes 8 n → low size ≡ le_bytes 4 n
unfolding le_bytes
low_is size n e = rw e

-- an item up to its value
length_to_value : (kind : ℕ) (name value : List ℕ)
    → length (kind ∷ le_bytes 4 (length name) ++ name ++ le_bytes 4 (length value)) ≡ 9 + length name
unfolding le_bytes
length_to_value kind name value = simp length-append (omega arith)

pub item_laid : (kind at : ℕ) (size name value d x y z : List ℕ) → size ≡ le_bytes 8 (length value)
    → x ≡ put_at at (field_bytes kind name) d → y ≡ put_at (at + 5 + length name) (low size) x
    → z ≡ put_at (at + 5 + length name + 4) value y
    → z ≡ put_at at (item_bytes kind name value) d
unfolding item_bytes field_bytes
item_laid kind at size name value d x y z e f g h =
    let n : at + 5 + length name ≡ at + (5 + length name) = omega arith in
    let m : at + 5 + length name + 4 ≡ at + (9 + length name) = omega arith in
    put_at_more (kind ∷ le_bytes 4 (length name) ++ name ++ le_bytes 4 (length value)) value d y z at (9 + length name)
    (length_to_value kind name value)
    (put_at_more (kind ∷ le_bytes 4 (length name) ++ name) (le_bytes 4 (length value)) d x y at (5 + length name)
    (length-field_bytes kind name) f (rw (n, low_is size (length value) e) at g))
    (rw m at h)

module _ (uuid : List ℕ) (uuid_long : length uuid ≡ 16) where
  pub length-front_bytes : length (front_bytes uuid) ≡ 32
  length-front_bytes = simp (length-item_bytes, uuid_long) (omega arith)

  pub front_laid : (d x y : List ℕ) → x ≡ put_at 0 (0x00 ∷ 0x01 ∷ []) d → y ≡ put_at 2 (item_bytes 0x42 uuid_name uuid) x
      → y ≡ laid (front_bytes uuid) d
  front_laid d x y e f =
      laid_more (0x00 ∷ 0x01 ∷ []) (item_bytes 0x42 uuid_name uuid) d x y 2 refl (laid_first (0x00 ∷ 0x01 ∷ []) d x e) f

  module _ (passes memory lanes : ℕ) where
    abbrev to_memory : List ℕ
    to_memory = front_bytes uuid ++ item_bytes 0x05 passes_name (le_bytes 8 passes)

    abbrev to_lanes : List ℕ
    to_lanes = to_memory ++ item_bytes 0x05 memory_name (le_bytes 8 memory)

    length_to_memory : length to_memory ≡ 50
    unfolding le_bytes
    length_to_memory = simp (length-append, length-item_bytes, uuid_long) (omega arith)

    length_to_lanes : length to_lanes ≡ 68
    unfolding le_bytes
    length_to_lanes = simp (length-append, length-item_bytes, uuid_long) (omega arith)

    pub length-cost_bytes : length (cost_bytes uuid passes memory lanes) ≡ 82
    unfolding le_bytes
    length-cost_bytes = simp (length-append, length-item_bytes, uuid_long) (omega arith)

    pub costs_laid : (d i m p x₁ x₂ x₃ x₄ : List ℕ) → i ≡ le_bytes 8 passes → m ≡ le_bytes 8 memory
        → p ≡ le_bytes 4 lanes
        → x₁ ≡ laid (front_bytes uuid) d → x₂ ≡ put_at 32 (item_bytes 0x05 passes_name i) x₁
        → x₃ ≡ put_at 50 (item_bytes 0x05 memory_name m) x₂ → x₄ ≡ put_at 68 (item_bytes 0x04 lanes_name p) x₃
        → x₄ ≡ laid (cost_bytes uuid passes memory lanes) d
    costs_laid d i m p x₁ x₂ x₃ x₄ ei em ep e₁ e₂ e₃ e₄ =
        let l₂ : x₂ ≡ laid to_memory d =
        laid_more (front_bytes uuid) (item_bytes 0x05 passes_name (le_bytes 8 passes)) d x₁ x₂ 32 length-front_bytes e₁
        (rw (← ei) e₂) in
        let l₃ : x₃ ≡ laid to_lanes d =
        laid_more to_memory (item_bytes 0x05 memory_name (le_bytes 8 memory)) d x₂ x₃ 50 length_to_memory l₂
        (rw (← em) e₃) in
        laid_more to_lanes (item_bytes 0x04 lanes_name (le_bytes 4 lanes)) d x₃ x₄ 68 length_to_lanes l₃ (rw (← ep) e₄)

    module _ (salt : List ℕ) where
      abbrev to_version : List ℕ
      to_version = cost_bytes uuid passes memory lanes ++ item_bytes 0x42 salt_name salt

      abbrev to_end : List ℕ
      to_end = to_version ++ item_bytes 0x04 version_name (le_bytes 4 0x13)

      length_to_version : length to_version ≡ 92 + length salt
      unfolding le_bytes
      length_to_version = simp (length-append, length-item_bytes, uuid_long) (omega arith)

      length_to_end : length to_end ≡ 106 + length salt
      unfolding le_bytes
      length_to_end = simp (length-append, length-item_bytes, uuid_long) (omega arith)

      pub length-argon2_bytes : length (argon2_bytes uuid salt passes memory lanes) ≡ 107 + length salt
      unfolding argon2_bytes le_bytes
      length-argon2_bytes = simp (length-append, length-item_bytes, uuid_long) (omega arith)

      pub argon2_laid : (d x₁ x₂ x₃ x₄ : List ℕ) → x₁ ≡ laid (cost_bytes uuid passes memory lanes) d
          → x₂ ≡ put_at 82 (item_bytes 0x42 salt_name salt) x₁
          → x₃ ≡ put_at (92 + length salt) (item_bytes 0x04 version_name (le_bytes 4 0x13)) x₂
          → x₄ ≡ put_at (106 + length salt) (0x00 ∷ []) x₃
          → x₄ ≡ laid (argon2_bytes uuid salt passes memory lanes) d
      unfolding argon2_bytes
      argon2_laid d x₁ x₂ x₃ x₄ e₁ e₂ e₃ e₄ =
          let l₂ = laid_more (cost_bytes uuid passes memory lanes) (item_bytes 0x42 salt_name salt) d x₁ x₂ 82
          length-cost_bytes e₁ e₂ in
          let l₃ = laid_more to_version (item_bytes 0x04 version_name (le_bytes 4 0x13)) d x₂ x₃ (92 + length salt)
          length_to_version l₂ e₃ in
          laid_more to_end (0x00 ∷ []) d x₃ x₄ (106 + length salt) length_to_end l₃ e₄

module _ (seed : List ℕ) (rounds : ℕ) where
  abbrev to_seed : List ℕ
  to_seed = front_bytes aes_kdf_uuid ++ item_bytes 0x05 rounds_name (le_bytes 8 rounds)

  abbrev to_last : List ℕ
  to_last = to_seed ++ item_bytes 0x42 salt_name seed

  length_to_seed : length to_seed ≡ 50
  unfolding le_bytes
  length_to_seed = simp (length-append, length-item_bytes) (omega arith)

  length_to_last : length to_last ≡ 60 + length seed
  unfolding le_bytes
  length_to_last = simp (length-append, length-item_bytes) (omega arith)

  pub length-aes_kdf_bytes : length (aes_kdf_bytes seed rounds) ≡ 61 + length seed
  unfolding aes_kdf_bytes le_bytes
  length-aes_kdf_bytes = simp (length-append, length-item_bytes) (omega arith)

  pub aes_kdf-laid : (d r x₁ x₂ x₃ x₄ : List ℕ) → r ≡ le_bytes 8 rounds → x₁ ≡ laid (front_bytes aes_kdf_uuid) d
      → x₂ ≡ put_at 32 (item_bytes 0x05 rounds_name r) x₁ → x₃ ≡ put_at 50 (item_bytes 0x42 salt_name seed) x₂
      → x₄ ≡ put_at (60 + length seed) (0x00 ∷ []) x₃
      → x₄ ≡ laid (aes_kdf_bytes seed rounds) d
  unfolding aes_kdf_bytes
  aes_kdf-laid d r x₁ x₂ x₃ x₄ er e₁ e₂ e₃ e₄ =
      let l₂ : x₂ ≡ laid to_seed d =
      laid_more (front_bytes aes_kdf_uuid) (item_bytes 0x05 rounds_name (le_bytes 8 rounds)) d x₁ x₂ 32
      (length-front_bytes aes_kdf_uuid refl) e₁ (rw (← er) e₂) in
      let l₃ = laid_more to_seed (item_bytes 0x42 salt_name seed) d x₂ x₃ 50 length_to_seed l₂ e₃ in
      laid_more to_last (0x00 ∷ []) d x₃ x₄ (60 + length seed) length_to_last l₃ e₄

pub length-kdf_bytes : (f : Figures) (salt : List ℕ) → length (kdf_bytes f salt) ≡ kdf_length f (length salt)
unfolding kdf_bytes kdf_length
length-kdf_bytes (figures.AesKdf rounds) salt = length-aes_kdf_bytes salt rounds
length-kdf_bytes (figures.Argon2d passes memory lanes) salt =
    length-argon2_bytes argon2d_uuid refl passes memory lanes salt
length-kdf_bytes (figures.Argon2id passes memory lanes) salt =
    length-argon2_bytes argon2id_uuid refl passes memory lanes salt

-- of a seed or salt 64 bytes are looked at
pub kdf_length-le : (f : Figures) (salt : List ℕ) → kdf_length f (length (take 64 salt)) ≤ 171
unfolding kdf_length
kdf_length-le (figures.AesKdf rounds) salt = rw length-take (omega arith)
kdf_length-le (figures.Argon2d passes memory lanes) salt = rw length-take (omega arith)
kdf_length-le (figures.Argon2id passes memory lanes) salt = rw length-take (omega arith)
