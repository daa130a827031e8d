-- The dictionary that is written asks for the KDF and the figures that were written.
--
-- In order:
--   kdf_of-kdf_bytes      for each of the three KDFs
--   kdf_of_few           of AES-KDF with too few rounds it is refused
--   kdf_bytes_salt_is    its seed or salt stands where it is told
-- Not here: that it is sound, and what is found in it (Written).
-- Assumes nothing.
use mathlib.Core.Path.{◌≡◌, refl, sym, ap, ◌∙◌}
use mathlib.Core.Bool.{true, false, cond}
use mathlib.Core.List.{List, [], ◌∷◌, append_assoc}
use Prim.Native.Nat.{ℕ, ◌+◌, ◌≤◌, ◌<◌}
use native.Mathlib.Omega.{arith}
use lib.Dec.{leb}
use lib.ListN.{length, take, drop}
use borrow.Author.Tests.{le-leb, lt-leb, eq-eqb, ne_eqb}
use Rattle.words.specs.Endian.{le, le_bytes}
use Rattle.slices.specs.Same.{same}
use Rattle.slices.proofs.Laws.Same.{same_refl}
use Rattle.refusals.specs.declared.Refusal.TheVariants.{TooFewRounds}
use Rattle.refusals.specs.Limits.{rounds_least, rounds_limit, argon2_fits}
use Rattle.refusals.proofs.Laws.Limits.{rounds-word, rounds_some, argon2_fits_bounds}
use Rattle.fields.specs.Fields.{bytes_at}
use Rattle.fields.specs.declared.Place.{Place}
use Rattle.dictionary.specs.Dictionary.{size_fits_type, verdict, item_bytes}
use Rattle.kdf_dictionary.specs.declared.Items.{Items}
use Rattle.kdf_dictionary.specs.declared.Variant.{Variant}
use Rattle.kdf_dictionary.specs.declared.Variant.TheVariants as variant
use Rattle.kdf_dictionary.specs.declared.Listed.TheVariants as listed
use Rattle.kdf_dictionary.specs.declared.Kdf.TheVariants as kdf
use Rattle.std.specs.Prelude.{Ok, Err, Some, None}
use Rattle.kdf_dictionary.specs.declared.writer.Figures.{Figures}
use Rattle.kdf_dictionary.specs.declared.writer.Figures.TheVariants as figures
use Rattle.kdf_dictionary.specs.Kdf.{aes_kdf_uuid, argon2d_uuid, argon2id_uuid, uuid_name, salt_name, rounds_name, version_name, passes_name, memory_name, lanes_name, secret_name, associated_name, aes_kdf_bytes, argon2_bytes, kdf_bytes, IsWritable, written_kdf}
use Rattle.kdf_dictionary.specs.KdfDictionary.{searched, fault_in, typed_in, item_of, is_found, has_item, aes_kdf_in, aes_kdf_of, argon2_items, complete, argon2_listed, argon2_kdf, argon2_figures, argon2_in, listed_as, listed_in, uuid_in, uuid_of, kdf_in, kdf_of}
use Rattle.kdf_dictionary.proofs.Laws.Written.{
  Part,
  IsSound,
  AllSound,
  joined,
  found_from,
  any_named,
  Fresh,
  sizes,
  verdict-joined,
  search_joined,
  value-joined,
  le-joined,
}

-- the items that are written
abbrev part : ℕ → List ℕ → List ℕ → Part
part kind name value = record { kind = kind; name = name; value = value }

-- a sound dictionary of items
abbrev whole : List Part → List ℕ
whole is = 0x00 ∷ 0x01 ∷ joined is

-- what is found by name and type
item_found : (is : List Part) (name : List ℕ) (kind start n : ℕ) → AllSound is
    → found_from 2 is name ≡ Ok (Some (record { kind = kind; start = start; length = n }))
    → item_of (whole is) name kind ≡ record { start = start; length = n }
unfolding typed_in
item_found is name kind start n h e =
    ap (typed_in kind) (search_joined is name h ∙ e) ∙ rw (eq-eqb kind kind refl)

-- what is not there
item_none : (is : List Part) (name : List ℕ) → AllSound is → found_from 2 is name ≡ Ok None
    → has_item (whole is) name ≡ false
unfolding is_found
item_none is name h e = ap is_found (search_joined is name h ∙ e)

module _ (seed : List ℕ) (rounds : ℕ) (long : length seed ≡ 32) (within : rounds ≤ rounds_limit) where
  abbrev a₁ : Part
  a₁ = part 0x42 uuid_name aes_kdf_uuid

  abbrev a₂ : Part
  a₂ = part 0x05 rounds_name (le_bytes 8 rounds)

  abbrev a₃ : Part
  a₃ = part 0x42 salt_name seed

  abbrev aes_kdf_parts : List Part
  aes_kdf_parts = a₁ ∷ a₂ ∷ a₃ ∷ []

  aes_kdf_bytes_is : aes_kdf_bytes seed rounds ≡ whole aes_kdf_parts
  unfolding aes_kdf_bytes joined
  aes_kdf_bytes_is = simp append_assoc

  sound_a₂ : IsSound a₂
  unfolding size_fits_type le_bytes
  sound_a₂ = record { kind_is = λ e. omega arith; name_small = omega arith; value_small = omega arith; fits = refl }

  sound_a₃ : IsSound a₃
  unfolding size_fits_type
  sound_a₃ = record { kind_is = λ e. omega arith; name_small = omega arith; value_small = omega arith; fits = refl }

  aes_sound : AllSound aes_kdf_parts
  unfolding AllSound size_fits_type
  aes_sound = (
    record { kind_is = λ e. omega arith; name_small = omega arith; value_small = omega arith; fits = refl },
    (sound_a₂, (sound_a₃, tt)),
  )

  aes_fresh : Fresh [] aes_kdf_parts
  unfolding Fresh any_named same
  aes_fresh = (refl, (refl, (refl, tt)))

  aes_uuid : item_of (whole aes_kdf_parts) uuid_name 0x42 ≡ record { start = 16; length = 16 }
  unfolding found_from same
  aes_uuid = item_found aes_kdf_parts uuid_name 0x42 16 16 aes_sound refl

  rounds_found : searched (whole aes_kdf_parts) rounds_name ≡ Ok (Some (record { kind = 0x05; start = 42; length = 8 }))
  unfolding found_from same le_bytes
  rounds_found = search_joined aes_kdf_parts rounds_name aes_sound

  aes_rounds : item_of (whole aes_kdf_parts) rounds_name 0x05 ≡ record { start = 42; length = 8 }
  unfolding found_from same le_bytes
  aes_rounds = item_found aes_kdf_parts rounds_name 0x05 42 8 aes_sound refl

  aes_seed : item_of (whole aes_kdf_parts) salt_name 0x42 ≡ record { start = 60; length = length seed }
  unfolding found_from same le_bytes
  aes_seed = item_found aes_kdf_parts salt_name 0x42 60 (length seed) aes_sound refl

  le-rounds : le 8 (whole aes_kdf_parts) 42 ≡ rounds
  unfolding sizes
  le-rounds =
      let w = rounds-word in
      le-joined (a₁ ∷ []) a₂ (a₃ ∷ []) sound_a₂ 42 refl 8 rounds refl (omega arith)

  aes_seed_is : take (length seed) (drop 60 (whole aes_kdf_parts)) ≡ seed
  unfolding sizes le_bytes
  aes_seed_is = value-joined (a₁ ∷ a₂ ∷ []) a₃ [] sound_a₃ 60 refl

  aes_uuid_is : take 16 (drop 16 (whole aes_kdf_parts)) ≡ aes_kdf_uuid
  unfolding joined item_bytes le_bytes
  aes_uuid_is = refl

  -- the rounds decide
  kdf_of_aes_kdf_parts : (p : Place)
      → kdf_in (whole aes_kdf_parts) p (verdict (whole aes_kdf_parts))
      ≡ cond (leb rounds_least rounds)
      (Ok (kdf.AesKdf (record { seed = record { start = p.start + 60; length = length seed }; rounds = rounds })))
      (Err (TooFewRounds (p.start + 32)))
  unfolding kdf_in uuid_of uuid_in listed_as listed_in aes_kdf_of aes_kdf_in fault_in
  kdf_of_aes_kdf_parts p =
      ap (kdf_in (whole aes_kdf_parts) p) (verdict-joined aes_kdf_parts aes_sound aes_fresh)
      ∙ rw (
        aes_uuid,
        aes_uuid_is,
        same_refl aes_kdf_uuid,
        aes_seed,
        aes_rounds,
        eq-eqb (length seed) 32 long,
        le-rounds,
        le-leb rounds rounds_limit within,
        rounds_found,
      )

module _ (uuid salt : List ℕ) (passes memory lanes : ℕ) (uuid_long : length uuid ≡ 16)
    (fit : argon2_fits (length salt) passes memory lanes ≡ true) where
  abbrev b₁ : Part
  b₁ = part 0x42 uuid_name uuid

  abbrev b₂ : Part
  b₂ = part 0x05 passes_name (le_bytes 8 passes)

  abbrev b₃ : Part
  b₃ = part 0x05 memory_name (le_bytes 8 memory)

  abbrev b₄ : Part
  b₄ = part 0x04 lanes_name (le_bytes 4 lanes)

  abbrev b₅ : Part
  b₅ = part 0x42 salt_name salt

  abbrev b₆ : Part
  b₆ = part 0x04 version_name (le_bytes 4 0x13)

  abbrev argon2_parts : List Part
  argon2_parts = b₁ ∷ b₂ ∷ b₃ ∷ b₄ ∷ b₅ ∷ b₆ ∷ []

  argon2_bytes_is : argon2_bytes uuid salt passes memory lanes ≡ whole argon2_parts
  unfolding argon2_bytes joined
  argon2_bytes_is = simp append_assoc

  sound_b₁ : IsSound b₁
  unfolding size_fits_type
  sound_b₁ = record { kind_is = λ e. omega arith; name_small = omega arith; value_small = omega arith; fits = refl }

  sound_b₂ : IsSound b₂
  unfolding size_fits_type le_bytes
  sound_b₂ = record { kind_is = λ e. omega arith; name_small = omega arith; value_small = omega arith; fits = refl }

  sound_b₃ : IsSound b₃
  unfolding size_fits_type le_bytes
  sound_b₃ = record { kind_is = λ e. omega arith; name_small = omega arith; value_small = omega arith; fits = refl }

  sound_b₄ : IsSound b₄
  unfolding size_fits_type le_bytes
  sound_b₄ = record { kind_is = λ e. omega arith; name_small = omega arith; value_small = omega arith; fits = refl }

  sound_b₅ : IsSound b₅
  unfolding size_fits_type
  sound_b₅ =
      let m = (argon2_fits_bounds (length salt) passes memory lanes fit).salt_most in
      record { kind_is = λ e. omega arith; name_small = omega arith; value_small = omega (arith, m); fits = refl }

  sound_b₆ : IsSound b₆
  unfolding size_fits_type le_bytes
  sound_b₆ = record { kind_is = λ e. omega arith; name_small = omega arith; value_small = omega arith; fits = refl }

  argon2_sound : AllSound argon2_parts
  unfolding AllSound
  argon2_sound = (sound_b₁, (sound_b₂, (sound_b₃, (sound_b₄, (sound_b₅, (sound_b₆, tt))))))

  argon2_fresh : Fresh [] argon2_parts
  unfolding Fresh any_named same
  argon2_fresh = (refl, (refl, (refl, (refl, (refl, (refl, tt))))))

  found_uuid : item_of (whole argon2_parts) uuid_name 0x42 ≡ record { start = 16; length = 16 }
  unfolding found_from same
  found_uuid = item_found argon2_parts uuid_name 0x42 16 16 argon2_sound (rw uuid_long)

  found_passes : item_of (whole argon2_parts) passes_name 0x05 ≡ record { start = 42; length = 8 }
  unfolding found_from same le_bytes
  found_passes = item_found argon2_parts passes_name 0x05 42 8 argon2_sound (rw uuid_long)

  found_memory : item_of (whole argon2_parts) memory_name 0x05 ≡ record { start = 60; length = 8 }
  unfolding found_from same le_bytes
  found_memory = item_found argon2_parts memory_name 0x05 60 8 argon2_sound (rw uuid_long)

  found_lanes : item_of (whole argon2_parts) lanes_name 0x04 ≡ record { start = 78; length = 4 }
  unfolding found_from same le_bytes
  found_lanes = item_found argon2_parts lanes_name 0x04 78 4 argon2_sound (rw uuid_long)

  found_salt : item_of (whole argon2_parts) salt_name 0x42 ≡ record { start = 92; length = length salt }
  unfolding found_from same le_bytes
  found_salt = item_found argon2_parts salt_name 0x42 92 (length salt) argon2_sound (rw uuid_long)

  found_version : item_of (whole argon2_parts) version_name 0x04 ≡ record { start = 102 + length salt; length = 4 }
  unfolding found_from same le_bytes
  found_version =
      let e : 82 + (9 + 1 + length salt) + 5 + 1 + 4 ≡ 102 + length salt = omega arith in
      item_found argon2_parts version_name 0x04 (102 + length salt) 4 argon2_sound
      (rw uuid_long (ap (λ (a : ℕ). Ok (Some (record { kind = 0x04; start = a; length = 4 }))) e))

  none_secret : has_item (whole argon2_parts) secret_name ≡ false
  unfolding found_from same
  none_secret = item_none argon2_parts secret_name argon2_sound refl

  none_associated : has_item (whole argon2_parts) associated_name ≡ false
  unfolding found_from same
  none_associated = item_none argon2_parts associated_name argon2_sound refl

  le-passes : le 8 (whole argon2_parts) 42 ≡ passes
  unfolding sizes
  le-passes =
      let m = (argon2_fits_bounds (length salt) passes memory lanes fit).passes_most in
      le-joined (b₁ ∷ []) b₂ (b₃ ∷ b₄ ∷ b₅ ∷ b₆ ∷ []) sound_b₂ 42 (rw uuid_long) 8 passes refl (omega (arith, m))

  le_memory : le 8 (whole argon2_parts) 60 ≡ memory
  unfolding sizes le_bytes
  le_memory =
      let m = (argon2_fits_bounds (length salt) passes memory lanes fit).memory_most in
      le-joined (b₁ ∷ b₂ ∷ []) b₃ (b₄ ∷ b₅ ∷ b₆ ∷ []) sound_b₃ 60 (rw uuid_long) 8 memory refl (omega (arith, m))

  le_lanes : le 4 (whole argon2_parts) 78 ≡ lanes
  unfolding sizes le_bytes
  le_lanes =
      let m = (argon2_fits_bounds (length salt) passes memory lanes fit).lanes_most in
      le-joined (b₁ ∷ b₂ ∷ b₃ ∷ []) b₄ (b₅ ∷ b₆ ∷ []) sound_b₄ 78 (rw uuid_long) 4 lanes refl (omega (arith, m))

  le_version : le 4 (whole argon2_parts) (102 + length salt) ≡ 0x13
  unfolding sizes le_bytes
  le_version =
      le-joined (b₁ ∷ b₂ ∷ b₃ ∷ b₄ ∷ b₅ ∷ []) b₆ [] sound_b₆ (102 + length salt) (rw uuid_long (omega arith)) 4 0x13 refl
      (omega arith)

  argon2_salt_is : take (length salt) (drop 92 (whole argon2_parts)) ≡ salt
  unfolding sizes le_bytes
  argon2_salt_is = value-joined (b₁ ∷ b₂ ∷ b₃ ∷ b₄ ∷ []) b₅ (b₆ ∷ []) sound_b₅ 92 (rw uuid_long)

  argon2_uuid_is : take 16 (drop 16 (whole argon2_parts)) ≡ uuid
  unfolding sizes
  argon2_uuid_is =
      ap (λ (n : ℕ). take n (drop 16 (whole argon2_parts))) (sym uuid_long)
      ∙ value-joined [] b₁ (b₂ ∷ b₃ ∷ b₄ ∷ b₅ ∷ b₆ ∷ []) sound_b₁ 16 refl

  abbrev places : Items
  places =
      record {
        version = record { start = 102 + length salt; length = 4 };
        salt = record { start = 92; length = length salt };
        passes = record { start = 42; length = 8 };
        memory = record { start = 60; length = 8 };
        lanes = record { start = 78; length = 4 };
      }

  items_are : argon2_items (whole argon2_parts) ≡ places
  unfolding argon2_items
  items_are = rw (found_version, found_salt, found_passes, found_memory, found_lanes)

  complete_are : complete places ≡ true
  unfolding complete
  complete_are = let z : 102 + length salt ≡ 0 → ⊥ = λ e. omega arith in rw (ne_eqb (102 + length salt) 0 z)

  listed_are : argon2_listed (whole argon2_parts) places.version ≡ true
  unfolding argon2_listed
  listed_are = rw (le_version, none_secret, none_associated)

  figures_are : (p : Place) (v : Variant)
      → argon2_figures (whole argon2_parts) p v places
      ≡ Ok (argon2_kdf v
      (record {
        salt = record { start = p.start + 92; length = length salt };
        passes = passes;
        memory = memory;
        lanes = lanes;
      }))
  unfolding argon2_figures
  figures_are p v = rw (le-passes, le_memory, le_lanes, fit)

  kdf_of_argon2_parts : (p : Place) (v : Variant) → listed_as uuid ≡ listed.Argon2 v
      → kdf_in (whole argon2_parts) p (verdict (whole argon2_parts))
      ≡ Ok (argon2_kdf v
      (record {
        salt = record { start = p.start + 92; length = length salt };
        passes = passes;
        memory = memory;
        lanes = lanes;
      }))
  unfolding kdf_in uuid_of uuid_in listed_in argon2_in
  kdf_of_argon2_parts p v e =
      ap (kdf_in (whole argon2_parts) p) (verdict-joined argon2_parts argon2_sound argon2_fresh)
      ∙ rw (found_uuid, argon2_uuid_is, e, items_are, complete_are, listed_are) (figures_are p v)

listed_argon2d : listed_as argon2d_uuid ≡ listed.Argon2 variant.D
unfolding listed_as same
listed_argon2d = refl

listed-argon2id : listed_as argon2id_uuid ≡ listed.Argon2 variant.Id
unfolding listed_as same
listed-argon2id = refl

-- .. wherever the dictionary stands
at_place : (s d : List ℕ) (p : Place) → bytes_at s p ≡ d → kdf_of s p ≡ kdf_in d p (verdict d)
unfolding kdf_of
at_place s d p e = ap (λ (x : List ℕ). kdf_in x p (verdict x)) e

pub kdf_of-kdf_bytes : (f : Figures) (salt s : List ℕ) (p : Place) → IsWritable f (length salt)
    → bytes_at s p ≡ kdf_bytes f salt
    → kdf_of s p ≡ Ok (written_kdf f p (length salt))
unfolding IsWritable kdf_bytes
kdf_of-kdf_bytes (figures.AesKdf rounds) salt s p h e =
    at_place s _ p (e ∙ aes_kdf_bytes_is salt rounds h.0 h.1) ∙ kdf_of_aes_kdf_parts salt rounds h.0 h.1 p
    ∙ rw (le-leb rounds_least rounds h.2)
kdf_of-kdf_bytes (figures.Argon2d passes memory lanes) salt s p h e =
    at_place s _ p (e ∙ argon2_bytes_is argon2d_uuid salt passes memory lanes refl h)
    ∙ kdf_of_argon2_parts argon2d_uuid salt passes memory lanes refl h p variant.D listed_argon2d
kdf_of-kdf_bytes (figures.Argon2id passes memory lanes) salt s p h e =
    at_place s _ p (e ∙ argon2_bytes_is argon2id_uuid salt passes memory lanes refl h)
    ∙ kdf_of_argon2_parts argon2id_uuid salt passes memory lanes refl h p variant.Id listed-argon2id

-- a dictionary of AES-KDF with fewer rounds than the least: the item `R` begins 32 bytes behind its front
pub kdf_of_few : (rounds : ℕ) (salt s : List ℕ) (p : Place) → length salt ≡ 32 → rounds < rounds_least
    → bytes_at s p ≡ kdf_bytes (figures.AesKdf rounds) salt
    → kdf_of s p ≡ Err (TooFewRounds (p.start + 32))
unfolding kdf_bytes
kdf_of_few rounds salt s p long less e =
    let within : rounds ≤ rounds_limit = omega (arith, rounds_some) in
    at_place s _ p (e ∙ aes_kdf_bytes_is salt rounds long within) ∙ kdf_of_aes_kdf_parts salt rounds long within p
    ∙ rw (lt-leb rounds_least rounds less)

-- where the seed or salt stands in the dictionary
abbrev pub salt_at : Figures → ℕ
salt_at (figures.AesKdf rounds) = 60
salt_at (figures.Argon2d passes memory lanes) = 92
salt_at (figures.Argon2id passes memory lanes) = 92

pub kdf_bytes_salt_is : (f : Figures) (salt : List ℕ) → IsWritable f (length salt)
    → take (length salt) (drop (salt_at f) (kdf_bytes f salt)) ≡ salt
unfolding IsWritable kdf_bytes
kdf_bytes_salt_is (figures.AesKdf rounds) salt h =
    ap (λ (d : List ℕ). take (length salt) (drop 60 d)) (aes_kdf_bytes_is salt rounds h.0 h.1)
    ∙ aes_seed_is salt rounds h.0 h.1
kdf_bytes_salt_is (figures.Argon2d passes memory lanes) salt h =
    ap (λ (d : List ℕ). take (length salt) (drop 92 d)) (argon2_bytes_is argon2d_uuid salt passes memory lanes refl h)
    ∙ argon2_salt_is argon2d_uuid salt passes memory lanes refl h
kdf_bytes_salt_is (figures.Argon2id passes memory lanes) salt h =
    ap (λ (d : List ℕ). take (length salt) (drop 92 d)) (argon2_bytes_is argon2id_uuid salt passes memory lanes refl h)
    ∙ argon2_salt_is argon2id_uuid salt passes memory lanes refl h
