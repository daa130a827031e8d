-- The places of a KDF dictionary that is refused, which stands at p in an input of n bytes and ends before its end.
--
-- In order:
--   fault_at-lt       the first byte of an item, or the dictionary's
--   Lies, kdf_of_lies .. and so every place
--   custom_of_lies    the places of a custom dictionary
-- Assumes nothing.
use mathlib.Core.Path.{◌≡◌, refl, sym}
use mathlib.Core.List.{List}
use Prim.Native.Nat.{ℕ, ◌+◌, ◌≤◌, ◌<◌}
use native.Mathlib.Omega.{arith}
use lib.Dec.{eqb, leb}
use lib.ListN.{length}
use Rattle.words.specs.Endian.{le}
use Rattle.words.proofs.Laws.Cases.{by_bool}
use Rattle.refusals.specs.Limits.{rounds_limit, rounds_least, argon2_fits}
use Rattle.refusals.specs.Numbers.{Outcome}
use Rattle.fields.specs.Fields.{bytes_at, given}
use Rattle.fields.specs.declared.Place.{Place}
use Rattle.dictionary.specs.Dictionary.{verdict}
use Rattle.dictionary.specs.declared.Fault.TheVariants as fault
use Rattle.dictionary.specs.declared.Fault.{Fault}
use Rattle.dictionary.specs.declared.Value.{Value}
use Rattle.dictionary.proofs.Laws.Within.{verdict-placed}
use Rattle.kdf_dictionary.specs.Kdf.{uuid_name, salt_name, rounds_name}
use Rattle.kdf_dictionary.specs.KdfDictionary.{searched, item_of, fault_in, fault_at, aes_kdf_in, aes_kdf_of, argon2_items, complete, incomplete, argon2_listed, unlisted, argon2_figures, argon2_in, listed_as, listed_in, uuid_in, uuid_of, kdf_in, kdf_of}
use Rattle.kdf_dictionary.specs.declared.Items.{Items}
use Rattle.kdf_dictionary.specs.declared.Variant.{Variant}
use Rattle.kdf_dictionary.specs.declared.Listed.{Listed}
use Rattle.kdf_dictionary.specs.declared.Listed.TheVariants as listed
use Rattle.std.specs.Prelude.{Result, Ok, Err, Option, Some, None}
use Rattle.refusals.specs.declared.Refusal.{Refusal}
use Rattle.kdf_dictionary.specs.declared.Kdf.{Kdf}
use Rattle.kdf_dictionary.proofs.Laws.Items.{found_within}
use Rattle.outer_header.specs.Kdbx4Header.{custom_in, custom_of}
use Rattle.places.specs.Places.{LiesIn}

-- nothing is said of an accepted dictionary
abbrev pub Lies : ℕ → Result Kdf Refusal → Type 0
Lies n (Ok k) = 0 ≤ 0
Lies n (Err r) = LiesIn n r

abbrev pub LiesOutcome : ℕ → Outcome → Type 0
LiesOutcome n (Ok tt) = 0 ≤ 0
LiesOutcome n (Err r) = LiesIn n r

module _ (d : List ℕ) (p : Place) (n : ℕ) (ends : p.start + length d < n) where
  fault_in-lt : (name : List ℕ) (f : Result (Option Value) Refusal) → f ≡ searched d name → fault_in p name f < n
  unfolding fault_in
  fault_in-lt name (Ok (Some v)) e =
      let w = found_within d name (Ok (Some (record { kind = v.kind; start = v.start; length = v.length }))) e v.kind v.start v.length refl in omega arith
  fault_in-lt name (Ok None) e = omega arith
  fault_in-lt name (Err r) e = omega arith

  fault_at-lt : (name : List ℕ) → fault_at d p name < n
  fault_at-lt name = fault_in-lt name (searched d name) refl

  aes_kdf_lies : Lies n (aes_kdf_of d p)
  unfolding aes_kdf_of aes_kdf_in
  aes_kdf_lies =
      let q = item_of d salt_name 0x42 in
      let r = item_of d rounds_name 0x05 in
      by_bool (eqb q.length 32)
      (λ t. by_bool (given r)
      (λ u. by_bool (leb (le 8 d r.start) rounds_limit)
      (λ v. by_bool (leb rounds_least (le 8 d r.start))
      (λ w. rw (t, u, v, w) (omega arith))
      (λ w. rw (t, u, v, w) (fault_at-lt rounds_name)))
      (λ v. rw (t, u, v) (fault_at-lt rounds_name)))
      (λ u. rw (t, u) (fault_at-lt rounds_name)))
      (λ t. rw t (fault_at-lt salt_name))

  figures_lies : (v : Variant) (i : Items) → Lies n (argon2_figures d p v i)
  unfolding argon2_figures
  figures_lies v i =
      by_bool
      (argon2_fits i.salt.length (le 8 d i.passes.start) (le 8 d i.memory.start) (le 4 d i.lanes.start))
      (λ t. rw t (omega arith))
      (λ t. rw t (fault_at-lt _))

  argon2_lies : (v : Variant) (i : Items) → Lies n (argon2_in d p v i)
  unfolding argon2_in
  argon2_lies v i =
      by_bool (complete i)
      (λ t. by_bool (argon2_listed d i.version)
      (λ u. rw (t, u) (figures_lies v i))
      (λ u. rw (t, u) (fault_at-lt (unlisted d i.version))))
      (λ t. rw t (fault_at-lt (incomplete i)))

  listed_lies : (l : Listed) → Lies n (listed_in d p l)
  unfolding listed_in
  listed_lies listed.Unlisted = fault_at-lt uuid_name
  listed_lies listed.AesKdf = aes_kdf_lies
  listed_lies (listed.Argon2 v) = argon2_lies v (argon2_items d)

  uuid_lies : Lies n (uuid_of d p)
  unfolding uuid_of uuid_in
  uuid_lies =
      let q = item_of d uuid_name 0x42 in
      by_bool (eqb q.length 16)
      (λ t. rw t (listed_lies (listed_as (bytes_at d q))))
      (λ t. rw t (fault_at-lt uuid_name))

  kdf_in_lies : (v : Result Unit Fault) → v ≡ verdict d → Lies n (kdf_in d p v)
  unfolding kdf_in
  kdf_in_lies (Ok tt) e = uuid_lies
  kdf_in_lies (Err (fault.Broken at)) e = let w = rw (sym e) at (verdict-placed d) in omega arith
  kdf_in_lies (Err (fault.Repeated at)) e = let w = rw (sym e) at (verdict-placed d) in omega arith

  custom_in_lies : (v : Result Unit Fault) → v ≡ verdict d → LiesOutcome n (custom_in p v)
  unfolding custom_in
  custom_in_lies (Ok tt) e = omega arith
  custom_in_lies (Err (fault.Broken at)) e = let w = rw (sym e) at (verdict-placed d) in omega arith
  custom_in_lies (Err (fault.Repeated at)) e = let w = rw (sym e) at (verdict-placed d) in omega arith

module _ (s : List ℕ) (p : Place) (n : ℕ) (ends : p.start + length (bytes_at s p) < n) where
  pub kdf_of_lies : Lies n (kdf_of s p)
  unfolding kdf_of
  kdf_of_lies = kdf_in_lies (bytes_at s p) p n ends (verdict (bytes_at s p)) refl

  pub custom_of_lies : LiesOutcome n (custom_of s p)
  unfolding custom_of
  custom_of_lies =
      by_bool (given p)
      (λ t. rw t (custom_in_lies (bytes_at s p) p n ends (verdict (bytes_at s p)) refl))
      (λ t. rw t (omega arith))
