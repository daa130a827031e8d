-- Where the fields of a written header lie, whatever stands behind it.
--
-- In order:
--   HasFields       the signatures, the version, and the fields lie in s one behind the other
--   header_fields   so they do where a header is written
-- Not here: the walk over them (RoundTrip).
-- Assumes nothing.
use mathlib.Core.Path.{◌≡◌, refl, ap, ◌∙◌}
use mathlib.Core.Bool.{true, false, cond}
use mathlib.Core.List.{List, [], ◌++◌, append_assoc, append-nil}
use Prim.Native.Nat.{ℕ, zero, suc, ◌+◌, ◌≤◌}
use native.Mathlib.Omega.{arith}
use lib.Dec.{eqb}
use lib.ListN.{length, length-append}
use Rattle.words.specs.Endian.{le, le_bytes}
use Rattle.words.proofs.Laws.Endian.{le-append}
use Rattle.fields.specs.Fields.{field_bytes}
use Rattle.fields.proofs.Laws.Written.{length-field_bytes}
use Rattle.ciphers.specs.Ciphers.{identifier, nonce_length}
use Rattle.ciphers.specs.declared.Cipher.{Cipher}
use Rattle.ciphers.proofs.Laws.{length-identifier}
use Rattle.kdf_dictionary.specs.Kdf.{kdf_bytes, kdf_length}
use Rattle.kdf_dictionary.specs.declared.writer.Figures.{Figures}
use Rattle.kdf_dictionary.proofs.Laws.Layout.{length-kdf_bytes}
use Rattle.header_writer.specs.Written.{
  version_bytes,
  end_bytes,
  no_compression,
  custom_field,
  front_of,
  header_bytes,
  header_length,
}
use Rattle.header_writer.proofs.Laws.Layout.{length-version_bytes, length-front_of, length-header_bytes}
use Rattle.header_writer.proofs.Laws.Lies.{Lies}

-- the signatures and the version, as the reader takes them
le_signatures : (minor : ℕ) → minor ≤ 1
    → (le 4 (version_bytes minor) 0 ≡ 0x9AA2D903)
    × ((le 4 (version_bytes minor) 4 ≡ 0xB54BFB67) × (le 4 (version_bytes minor) 8 ≡ 0x40000 + minor))
unfolding version_bytes le_bytes le
le_signatures zero h = (refl, (refl, refl))
le_signatures (suc zero) h = (refl, (refl, refl))
le_signatures (suc (suc n)) h = absurd (omega arith)

length_more : (s : List ℕ) (id : ℕ) (v : List ℕ) (m n k : ℕ) → length s ≡ m → length v ≡ n → m + 5 + n ≡ k
    → length (s ++ field_bytes id v) ≡ k
length_more s id v m n k e f g = rw (length-append, length-field_bytes, e, f) (omega arith)

-- s begins as a header with these values does
pub record HasFields (minor : ℕ) (c : Cipher) (seed nonce kdf custom s : List ℕ) (kl : ℕ) : Type 0 where
  pub first_is : le 4 s 0 ≡ 0x9AA2D903
  pub second_is : le 4 s 4 ≡ 0xB54BFB67
  pub version_is : le 4 s 8 ≡ 0x40000 + minor
  pub cipher_lies : Lies s 12 2 (identifier c) (record { start = 17; length = 16 })
  pub compression_lies : Lies s 33 3 no_compression (record { start = 38; length = 4 })
  pub seed_lies : Lies s 42 4 seed (record { start = 47; length = 32 })
  pub nonce_lies : Lies s 79 7 nonce (record { start = 84; length = nonce_length c })
  pub kdf_lies : Lies s (84 + nonce_length c) 11 kdf (record { start = 89 + nonce_length c; length = kl })
  pub end_lies : eqb (length custom) 0 ≡ true
      → Lies s (89 + nonce_length c + kl) 0 end_bytes (record { start = 94 + nonce_length c + kl; length = 4 })
  pub custom_lies : eqb (length custom) 0 ≡ false
      → Lies s (89 + nonce_length c + kl) 12 custom (record { start = 94 + nonce_length c + kl; length = length custom })
  pub custom_end_lies : eqb (length custom) 0 ≡ false
      → Lies s (94 + nonce_length c + kl + length custom) 0 end_bytes
      (record { start = 99 + nonce_length c + kl + length custom; length = 4 })
  pub long : 98 + nonce_length c + kl + cond (eqb (length custom) 0) 0 (5 + length custom) ≤ length s

module _ (minor : ℕ) (c : Cipher) (seed nonce : List ℕ) (fig : Figures) (salt custom rest s : List ℕ)
    (whole : s ≡ header_bytes minor c seed nonce fig salt custom ++ rest) (seed_long : length seed ≡ 32)
    (nonce_long : length nonce ≡ nonce_length c) where
  -- how many bytes the KDF dictionary has
  abbrev kl : ℕ
  kl = kdf_length fig (length salt)

  -- what stands before a field
  abbrev to_3 : List ℕ
  to_3 = version_bytes minor ++ field_bytes 2 (identifier c)

  abbrev to_4 : List ℕ
  to_4 = to_3 ++ field_bytes 3 no_compression

  abbrev to_7 : List ℕ
  to_7 = front_of minor c seed

  abbrev to_11 : List ℕ
  to_11 = to_7 ++ field_bytes 7 nonce

  abbrev to_12 : List ℕ
  to_12 = to_11 ++ field_bytes 11 (kdf_bytes fig salt)

  -- what stands behind a field
  abbrev from_0 : List ℕ
  from_0 = field_bytes 0 end_bytes ++ rest

  abbrev from_12 : List ℕ
  from_12 = custom_field custom ++ from_0

  abbrev from_11 : List ℕ
  from_11 = field_bytes 11 (kdf_bytes fig salt) ++ from_12

  abbrev from_7 : List ℕ
  from_7 = field_bytes 7 nonce ++ from_11

  abbrev from_4 : List ℕ
  from_4 = field_bytes 4 seed ++ from_7

  abbrev from_3 : List ℕ
  from_3 = field_bytes 3 no_compression ++ from_4

  length_3 : length to_3 ≡ 33
  length_3 =
      length_more (version_bytes minor) 2 (identifier c) 12 16 33 (length-version_bytes minor) (length-identifier c) refl

  length_4 : length to_4 ≡ 42
  length_4 = length_more to_3 3 no_compression 33 4 42 length_3 refl refl

  length_11 : length to_11 ≡ 84 + nonce_length c
  length_11 =
      length_more to_7 7 nonce 79 (nonce_length c) (84 + nonce_length c) (length-front_of minor c seed seed_long)
      nonce_long refl

  length_12 : length to_12 ≡ 89 + nonce_length c + kl
  length_12 =
      length_more to_11 11 (kdf_bytes fig salt) (84 + nonce_length c) kl (89 + nonce_length c + kl) length_11
      (length-kdf_bytes fig salt) (omega arith)

  -- the whole, parted at a field
  whole_0 : s ≡ to_12 ++ custom_field custom ++ field_bytes 0 end_bytes ++ rest
  unfolding header_bytes
  whole_0 = whole

  whole_12 : s ≡ to_12 ++ custom_field custom ++ from_0
  whole_12 = whole_0 ∙ append_assoc (to_12 ++ custom_field custom) (field_bytes 0 end_bytes) rest

  whole_11 : s ≡ to_12 ++ from_12
  whole_11 = whole_12 ∙ append_assoc to_12 (custom_field custom) from_0

  whole_7 : s ≡ to_11 ++ from_11
  whole_7 = whole_11 ∙ append_assoc to_11 (field_bytes 11 (kdf_bytes fig salt)) from_12

  whole_4 : s ≡ to_7 ++ from_7
  whole_4 = whole_7 ∙ append_assoc to_7 (field_bytes 7 nonce) from_11

  whole_3 : s ≡ to_4 ++ from_4
  whole_3 = whole_4 ∙ append_assoc to_4 (field_bytes 4 seed) from_7

  whole_2 : s ≡ to_3 ++ from_3
  whole_2 = whole_3 ∙ append_assoc to_3 (field_bytes 3 no_compression) from_4

  custom_field_lem : eqb (length custom) 0 ≡ false → custom_field custom ≡ field_bytes 12 custom
  unfolding custom_field
  custom_field_lem t = rw t

  custom_none : eqb (length custom) 0 ≡ true → custom_field custom ≡ []
  unfolding custom_field
  custom_none t = rw t

  length-file : length s ≡ header_length c fig (length salt) (length custom) + length rest
  length-file =
      ap length whole ∙ length-append (header_bytes minor c seed nonce fig salt custom) rest
      ∙ ap (λ (n : ℕ). n + length rest)
      (length-header_bytes minor c seed nonce fig salt custom seed_long nonce_long)

  -- a number among the first twelve bytes
  le_front : (i : ℕ) → i + 4 ≤ 12 → le 4 s i ≡ le 4 (version_bytes minor) i
  le_front i h =
      let l : length (version_bytes minor) ≡ 12 = length-version_bytes minor in
      let b : i + 4 ≤ length (version_bytes minor) = omega arith in
      ap (λ (x : List ℕ). le 4 x i) (whole_2 ∙ append_assoc (version_bytes minor) (field_bytes 2 (identifier c)) from_3)
      ∙ le-append 4 (version_bytes minor) (field_bytes 2 (identifier c) ++ from_3) i b

  at_least : 98 + nonce_length c + kl + cond (eqb (length custom) 0) 0 (5 + length custom) ≤ length s
  unfolding header_length
  at_least = let l = length-file in omega arith

  pub header_fields : minor ≤ 1 → HasFields minor c seed nonce (kdf_bytes fig salt) custom s kl
  header_fields h =
      let l = length-file in
      record {
        first_is = le_front 0 (omega arith) ∙ (le_signatures minor h).0;
        second_is = le_front 4 (omega arith) ∙ (le_signatures minor h).1.0;
        version_is = le_front 8 (omega arith) ∙ (le_signatures minor h).1.1;
        cipher_lies = record {
          before = version_bytes minor;
          after = from_3;
          whole = whole_2;
          at_is = length-version_bytes minor;
          start_is = refl;
          length_is = length-identifier c;
        };
        compression_lies = record {
          before = to_3;
          after = from_4;
          whole = whole_3;
          at_is = length_3;
          start_is = refl;
          length_is = refl;
        };
        seed_lies = record {
          before = to_4;
          after = from_7;
          whole = whole_4;
          at_is = length_4;
          start_is = refl;
          length_is = seed_long;
        };
        nonce_lies = record {
          before = to_7;
          after = from_11;
          whole = whole_7;
          at_is = length-front_of minor c seed seed_long;
          start_is = refl;
          length_is = nonce_long;
        };
        kdf_lies = record {
          before = to_11;
          after = from_12;
          whole = whole_11;
          at_is = length_11;
          start_is = omega arith;
          length_is = length-kdf_bytes fig salt;
        };
        end_lies = λ t. record {
          before = to_12;
          after = rest;
          whole =
              whole_0
              ∙ ap (λ (x : List ℕ). x ++ field_bytes 0 end_bytes ++ rest)
              (ap (λ (x : List ℕ). to_12 ++ x) (custom_none t) ∙ append-nil to_12);
          at_is = length_12;
          start_is = omega arith;
          length_is = refl;
        };
        custom_lies = λ t. record {
          before = to_12;
          after = from_0;
          whole = whole_12 ∙ ap (λ (x : List ℕ). to_12 ++ x ++ from_0) (custom_field_lem t);
          at_is = length_12;
          start_is = omega arith;
          length_is = refl;
        };
        custom_end_lies = λ t. record {
          before = to_12 ++ field_bytes 12 custom;
          after = rest;
          whole = whole_0 ∙ ap (λ (x : List ℕ). to_12 ++ x ++ field_bytes 0 end_bytes ++ rest) (custom_field_lem t);
          at_is =
              length_more to_12 12 custom (89 + nonce_length c + kl) (length custom) (94 + nonce_length c + kl + length custom)
              length_12 refl (omega arith);
          start_is = omega arith;
          length_is = refl;
        };
        long = at_least;
      }
