-- What the writer writes the reader accepts, with the same figures, whatever stands behind it.
--
-- In order:
--   walk_written        the reader's walk ends where the header ends, with the places of all fields
--   judged_written      .. and the checks after the end field are passed
--   header_written      .. so the header is accepted
--   header_read_back    figures that pass the writer's checks are read back
--   header_few          a header of AES-KDF with too few rounds is refused, whatever its custom dictionary is
-- Not here: that code lays those bytes (header_writer::write); bytes behind any header (crate outer_header,
-- Laws.Behind).
-- Assumes nothing.
use mathlib.Core.Path.{◌≡◌, refl, sym, ap, ◌∙◌}
use mathlib.Core.Bool.{true, false}
use mathlib.Core.List.{List, [], ◌∷◌, ◌++◌}
use Prim.Native.Nat.{ℕ, ◌+◌, ◌-◌, ◌≤◌, ◌<◌}
use native.Mathlib.Omega.{arith}
use lib.Dec.{eqb}
use lib.ListN.{length, take, drop}
use lib.Seq.{drop-drop}
use borrow.Author.Tests.{eqb-true, ne_eqb}
use Rattle.words.specs.Endian.{le, le_bytes}
use Rattle.words.proofs.Laws.Cases.{by_bool}
use Rattle.slices.proofs.Laws.Parts.{part_front}
use Rattle.refusals.specs.declared.Refusal.{Refusal}
use Rattle.refusals.specs.declared.Refusal.TheVariants.{TooFewRounds}
use Rattle.refusals.specs.Limits.{file_limit, rounds_least}
use Rattle.refusals.proofs.Laws.Limits.{argon2_fits_bounds}
use Rattle.fields.specs.Fields.{bytes_at, fits, field_bytes, nowhere}
use Rattle.fields.specs.declared.Place.{Place}
use Rattle.ciphers.specs.Ciphers.{identifier, cipher_of, nonce_length}
use Rattle.ciphers.specs.declared.Cipher.{Cipher}
use Rattle.std.specs.Prelude.{Some, Ok, Err, Result}
use Rattle.ciphers.proofs.Laws.{cipher_of-identifier, nonce_length-le}
use Rattle.kdf_dictionary.specs.Kdf.{kdf_bytes, kdf_length, IsWritable, written_kdf}
use Rattle.kdf_dictionary.specs.declared.writer.Figures.{Figures}
use Rattle.kdf_dictionary.specs.declared.writer.Figures.TheVariants as figures
use Rattle.dictionary.specs.Dictionary.{verdict}
use Rattle.dictionary.specs.declared.Fault.TheVariants as fault
use Rattle.dictionary.specs.declared.Fault.{Fault}
use Rattle.kdf_dictionary.specs.KdfDictionary.{kdf_of}
use Rattle.kdf_dictionary.proofs.Laws.ReadBack.{kdf_of-kdf_bytes, kdf_of_few, salt_at, kdf_bytes_salt_is}
use Rattle.outer_header.specs.declared.walk.Fields.{Fields}
use Rattle.outer_header.specs.Kdbx4Header as header
use Rattle.outer_header.specs.Kdbx4Header.{
  listed,
  size_rule,
  seen,
  put,
  no_fields,
  walk,
  complete,
  custom_of,
  judged,
  header,
}
use Rattle.outer_header.proofs.Laws.Accepted.{accepts-header, accepts-judged, header-judged, refuses_judged}
use Rattle.header_writer.specs.Written.{no_compression, header_bytes, header_length, custom_in, custom_verdict, checked}
use Rattle.header_writer.specs.ReadsBack.{kdf_place, rounds_item, custom_place, salt_place, written_header, ReadsBack}
use Rattle.header_writer.proofs.Laws.Layout.{length-header_bytes}
use Rattle.header_writer.proofs.Laws.CheckedLaws.{checked_as}
use Rattle.header_writer.proofs.Laws.Lies.{bytes_at_lies, le_lies, walk_lies, walk_end}
use Rattle.header_writer.proofs.Laws.Places.{HasFields, header_fields}

-- the places of the fields, with the custom dictionary at p
abbrev fields_with : Cipher → ℕ → Place → Fields
fields_with c kl p =
    record {
      cipher = record { start = 17; length = 16 };
      compression = record { start = 38; length = 4 };
      seed = record { start = 47; length = 32 };
      nonce = record { start = 84; length = nonce_length c };
      kdf = record { start = 89 + nonce_length c; length = kl };
      custom = p;
    }

-- a part of a part
part-part : (s t : List ℕ) (a b i m n : ℕ) → take m (drop a s) ≡ t → i + n ≤ m → a + i ≡ b
    → take n (drop b s) ≡ take n (drop i t)
part-part s t a b i m n e h g =
    ap (λ (j : ℕ). take n (drop j s)) (sym g) ∙ ap (λ (x : List ℕ). take n x) (sym (drop-drop i a s))
    ∙ sym (part_front m i n (drop a s) h) ∙ ap (λ (x : List ℕ). take n (drop i x)) e

module _ (c : Cipher) (fig : Figures) (m n : ℕ) where
  header_length_none : eqb n 0 ≡ true → header_length c fig m n ≡ 98 + nonce_length c + kdf_length fig m
  unfolding header_length
  header_length_none t = rw t (omega arith)

  header_length_custom : eqb n 0 ≡ false → header_length c fig m n ≡ 103 + nonce_length c + kdf_length fig m + n
  unfolding header_length
  header_length_custom t = rw t (omega arith)

  header_length-ge : 98 ≤ header_length c fig m n
  unfolding header_length
  header_length-ge = omega arith

-- where the seed or salt stands in the dictionary
salt_place_is : (fig : Figures) (p : Place) (n : ℕ)
    → salt_place (written_kdf fig p n) ≡ record { start = p.start + salt_at fig; length = n }
salt_place_is (figures.AesKdf rounds) p n = refl
salt_place_is (figures.Argon2d passes memory lanes) p n = refl
salt_place_is (figures.Argon2id passes memory lanes) p n = refl

salt_at-le : (fig : Figures) (n : ℕ) → salt_at fig + n ≤ kdf_length fig n
unfolding kdf_length
salt_at-le (figures.AesKdf rounds) n = omega arith
salt_at-le (figures.Argon2d passes memory lanes) n = omega arith
salt_at-le (figures.Argon2id passes memory lanes) n = omega arith

-- what the writer takes has a dictionary of at most 171 bytes
writable_le : (fig : Figures) (n : ℕ) → IsWritable fig n → kdf_length fig n ≤ 171
unfolding IsWritable kdf_length
writable_le (figures.AesKdf rounds) n h = let e = h.0 in omega arith
writable_le (figures.Argon2d passes memory lanes) n h =
    let b = (argon2_fits_bounds n passes memory lanes h).salt_most in omega (arith, b)
writable_le (figures.Argon2id passes memory lanes) n h =
    let b = (argon2_fits_bounds n passes memory lanes h).salt_most in omega (arith, b)

no_bytes : (s : List ℕ) → length s ≡ 0 → [] ≡ s
no_bytes [] e = refl
no_bytes (x ∷ s) e = absurd (omega arith)

complete_fields : (c : Cipher) (kl : ℕ) (p : Place) → complete (fields_with c kl p) ≡ true
unfolding complete
complete_fields c kl p = rw (ne_eqb (89 + nonce_length c) 0 (λ e. omega arith))

-- a file that begins as a written header does
module _ (minor : ℕ) (c : Cipher) (seed nonce : List ℕ) (fig : Figures) (salt custom s : List ℕ)
    (w : HasFields minor c seed nonce (kdf_bytes fig salt) custom s (kdf_length fig (length salt)))
    (small : kdf_length fig (length salt) ≤ 171) where
  -- how many bytes the KDF dictionary has
  abbrev kl : ℕ
  kl = kdf_length fig (length salt)

  at_least : header_length c fig (length salt) (length custom) ≤ length s
  unfolding header_length
  at_least = w.long

  -- the five fields that every header has
  walk_front : (k : ℕ) → 7 ≤ k
      → walk k no_fields s 12 ≡ walk (k - 1 - 1 - 1 - 1 - 1) (fields_with c kl nowhere) s (89 + nonce_length c + kl)
  unfolding listed seen put no_fields size_rule fits
  walk_front k h =
      let n : nonce_length c ≤ 16 = nonce_length-le c in
      walk_lies s 12 2 (identifier c) _ w.cipher_lies no_fields refl refl refl (omega arith) k 33 (omega arith)
      (λ e. omega arith) refl
      ∙ walk_lies s 33 3 no_compression _ w.compression_lies _ refl refl refl (omega arith) (k - 1) 42 (omega arith)
      (λ e. omega arith) refl
      ∙ walk_lies s 42 4 seed _ w.seed_lies _ refl refl refl (omega arith) (k - 1 - 1) 79 (omega arith)
      (λ e. omega arith) refl
      ∙ walk_lies s 79 7 nonce _ w.nonce_lies _ refl refl refl (omega arith) (k - 1 - 1 - 1) (84 + nonce_length c)
      (omega arith) (λ e. omega arith) refl
      ∙ walk_lies s (84 + nonce_length c) 11 (kdf_bytes fig salt) _ w.kdf_lies _ refl refl refl (omega arith)
      (k - 1 - 1 - 1 - 1) (89 + nonce_length c + kl) (omega arith) (λ e. omega arith) (omega arith)

  walk_none : eqb (length custom) 0 ≡ true
      → walk (length s) no_fields s 12 ≡ Ok (fields_with c kl nowhere, header_length c fig (length salt) (length custom))
  walk_none t =
      let e = header_length_none c fig (length salt) (length custom) t in
      let l = at_least in
      walk_front (length s) (omega arith)
      ∙ walk_end s (89 + nonce_length c + kl) _ (fields_with c kl nowhere) (length s - 1 - 1 - 1 - 1 - 1)
      (header_length c fig (length salt) (length custom)) (w.end_lies t) (omega arith) (omega arith)

  walk_custom : length s ≤ file_limit → eqb (length custom) 0 ≡ false
      → walk (length s) no_fields s 12
      ≡ Ok (fields_with c kl (record { start = 94 + nonce_length c + kl; length = length custom }), header_length c fig (length salt) (length custom))
  unfolding listed seen put size_rule fits file_limit
  walk_custom h t =
      let e = header_length_custom c fig (length salt) (length custom) t in
      let l = at_least in
      walk_front (length s) (omega arith)
      ∙ walk_lies s (89 + nonce_length c + kl) 12 custom _ (w.custom_lies t) (fields_with c kl nowhere) refl refl refl
      (omega (arith, h)) (length s - 1 - 1 - 1 - 1 - 1) (94 + nonce_length c + kl + length custom) (omega arith)
      (λ z. omega arith) refl
      ∙ walk_end s (94 + nonce_length c + kl + length custom) _ _ (length s - 1 - 1 - 1 - 1 - 1 - 1)
      (header_length c fig (length salt) (length custom)) (w.custom_end_lies t) (omega arith) (omega arith)

  walk_written : length s ≤ file_limit
      → walk (length s) no_fields s 12
      ≡ Ok (fields_with c kl (custom_place c fig (length salt) (length custom)), header_length c fig (length salt) (length custom))
  walk_written h =
      by_bool (eqb (length custom) 0) (λ t. rw t (walk_none t)) (λ t. rw t (walk_custom h t))

  -- the custom dictionary's bytes, and the reader's judgement of it
  custom_bytes : bytes_at s (custom_place c fig (length salt) (length custom)) ≡ custom
  custom_bytes =
      by_bool (eqb (length custom) 0)
      (λ t. rw t (no_bytes custom (eqb-true (length custom) 0 t)))
      (λ t. rw t (bytes_at_lies s (89 + nonce_length c + kl) 12 custom _ (w.custom_lies t)))

  custom_sound : (v : Result Unit Fault) → custom_in v ≡ (Ok tt) → v ≡ Ok tt
  unfolding custom_in
  custom_sound (Ok tt) e = refl
  custom_sound (Err (fault.Broken at)) e = let z : ◌≡◌ {A = ℕ} 0 1 = cc in absurd (omega arith)
  custom_sound (Err (fault.Repeated at)) e = let z : ◌≡◌ {A = ℕ} 0 1 = cc in absurd (omega arith)

  custom_judged : custom_verdict custom ≡ Ok tt
      → custom_of s (custom_place c fig (length salt) (length custom)) ≡ Ok tt
  unfolding custom_verdict custom_of header.custom_in
  custom_judged =
      by_bool (eqb (length custom) 0)
      (λ t. rw t (λ v. refl))
      (λ t. let b = bytes_at_lies s (89 + nonce_length c + kl) 12 custom _ (w.custom_lies t) in
      rw (t, ne_eqb (94 + nonce_length c + kl) 0 (λ e. omega arith), b) (λ v. rw (custom_sound (verdict custom) v)))

  kdf_bytes_lem : bytes_at s (kdf_place c fig (length salt)) ≡ kdf_bytes fig salt
  kdf_bytes_lem = bytes_at_lies s (84 + nonce_length c) 11 (kdf_bytes fig salt) _ w.kdf_lies

  salt_bytes : IsWritable fig (length salt) → bytes_at s (salt_place (written_kdf fig (kdf_place c fig (length salt)) (length salt))) ≡ salt
  salt_bytes h =
      ap (λ (q : Place). bytes_at s q) (salt_place_is fig (kdf_place c fig (length salt)) (length salt))
      ∙ part-part s (kdf_bytes fig salt) (89 + nonce_length c) (89 + nonce_length c + salt_at fig) (salt_at fig) kl
      (length salt) kdf_bytes_lem (salt_at-le fig (length salt)) refl
      ∙ kdf_bytes_salt_is fig salt h

  no_compression_lem : le 4 s 38 ≡ 0
  unfolding le le_bytes field_bytes
  no_compression_lem = le_lies s 33 3 no_compression _ w.compression_lies 4 0 (omega arith)

  cipher_known : cipher_of (bytes_at s (record { start = 17; length = 16 })) ≡ Some c
  cipher_known =
      let i : bytes_at s (record { start = 17; length = 16 }) ≡ identifier c =
      bytes_at_lies s 12 2 (identifier c) _ w.cipher_lies in
      ap cipher_of i ∙ cipher_of-identifier c

  header_refused : (r : Refusal) → kdf_of s (kdf_place c fig (length salt)) ≡ Err r → minor ≤ 1
      → length s ≤ file_limit
      → header s ≡ Err r
  header_refused r x m f =
      let l = at_least in
      let n = header_length-ge c fig (length salt) (length custom) in
      let p = custom_place c fig (length salt) (length custom) in
      header-judged s minor (header_length c fig (length salt) (length custom)) (fields_with c kl p) f (omega arith)
      w.first_is w.second_is m w.version_is (walk_written f)
      ∙ refuses_judged s (fields_with c kl p) minor _ c r (complete_fields c kl p) cipher_known no_compression_lem refl x

  module _ (writable : IsWritable fig (length salt))
      (sound : custom_verdict custom ≡ Ok tt) where
    kdf_asks : kdf_of s (kdf_place c fig (length salt))
        ≡ Ok (written_kdf fig (kdf_place c fig (length salt)) (length salt))
    kdf_asks = kdf_of-kdf_bytes fig salt s (kdf_place c fig (length salt)) writable kdf_bytes_lem

    judged_written : judged s (fields_with c kl (custom_place c fig (length salt) (length custom))) minor (header_length c fig (length salt) (length custom))
        ≡ Ok (written_header minor c fig (length salt) (length custom))
    judged_written =
        accepts-judged s (fields_with c kl (custom_place c fig (length salt) (length custom))) minor (header_length c fig (length salt) (length custom)) c
        (written_kdf fig (kdf_place c fig (length salt)) (length salt))
        (complete_fields c kl (custom_place c fig (length salt) (length custom))) cipher_known no_compression_lem refl
        kdf_asks (custom_judged sound)

    header_written : minor ≤ 1 → length s ≤ file_limit
        → header s ≡ Ok (written_header minor c fig (length salt) (length custom))
    header_written m f =
        let l = at_least in
        let n = header_length-ge c fig (length salt) (length custom) in
        accepts-header s (written_header minor c fig (length salt) (length custom)) (record {
          fits = f;
          long = omega arith;
          first_is = w.first_is;
          second_is = w.second_is;
          minor_le = m;
          version_is = w.version_is;
          fields = fields_with c kl (custom_place c fig (length salt) (length custom));
          walk_is = walk_written f;
          judged_is = judged_written;
        })

-- figures that pass the writer's checks are read back
pub header_read_back : (minor : ℕ) (id seed nonce : List ℕ) (fig : Figures) (salt custom : List ℕ) (c : Cipher)
    (rest : List ℕ)
    → checked minor id seed nonce fig salt custom ≡ Ok c
    → length (header_bytes minor c seed nonce fig salt custom ++ rest) ≤ file_limit
    → ReadsBack minor c seed nonce fig salt custom (header_bytes minor c seed nonce fig salt custom ++ rest)
    (written_header minor c fig (length salt) (length custom))
header_read_back minor id seed nonce fig salt custom c rest e f =
    let k = checked_as minor id seed nonce fig salt custom c e in
    let s = header_bytes minor c seed nonce fig salt custom ++ rest in
    let w = header_fields minor c seed nonce fig salt custom rest s refl k.seed_long k.nonce_long
    k.minor_le in
    let m = writable_le fig (length salt) k.writable in
    record {
      header_is =
          header_written minor c seed nonce fig salt custom s w m k.writable
          k.custom_sound k.minor_le f;
      minor_is = refl;
      cipher_is = refl;
      kdf_is = refl;
      seed_is = bytes_at_lies s 42 4 seed _ w.seed_lies;
      nonce_is = bytes_at_lies s 79 7 nonce _ w.nonce_lies;
      dictionary_is = kdf_bytes_lem minor c seed nonce fig salt custom s w m;
      salt_is = salt_bytes minor c seed nonce fig salt custom s w m k.writable;
      custom_is = custom_bytes minor c seed nonce fig salt custom s w m;
      length_is =
          sym
          (length-header_bytes minor c seed nonce fig salt custom k.seed_long
          k.nonce_long);
      length_told = refl;
    }

-- too few rounds: 20 at the item `R`, whatever the custom dictionary is and whatever stands behind the header
pub header_few : (minor : ℕ) (c : Cipher) (seed nonce : List ℕ) (rounds : ℕ) (salt custom rest : List ℕ) → minor ≤ 1
    → length seed ≡ 32
    → length nonce ≡ nonce_length c
    → length salt ≡ 32
    → rounds < rounds_least
    → length (header_bytes minor c seed nonce (figures.AesKdf rounds) salt custom ++ rest) ≤ file_limit
    → header (header_bytes minor c seed nonce (figures.AesKdf rounds) salt custom ++ rest)
    ≡ Err (TooFewRounds (rounds_item c))
unfolding kdf_length
header_few minor c seed nonce rounds salt custom rest m seed_long nonce_long salt-long few f =
    let fig = figures.AesKdf rounds in
    let s = header_bytes minor c seed nonce fig salt custom ++ rest in
    let w = header_fields minor c seed nonce fig salt custom rest s refl seed_long nonce_long m in
    let small : kdf_length fig (length salt) ≤ 171 = omega (arith, salt-long) in
    header_refused minor c seed nonce fig salt custom s w small (TooFewRounds (rounds_item c))
    (kdf_of_few rounds salt s (kdf_place c fig (length salt)) salt-long few
    (kdf_bytes_lem minor c seed nonce fig salt custom s w small))
    m f
