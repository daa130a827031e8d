-- What an accepted KDF dictionary keeps to.
--
-- In order:
--   IsAesKdf, IsArgon2, IsAsked, kdf_of_asks    the seed has 32 bytes and the rounds are enough and within the limit; Argon2's
--                                              figures fit; seed and salt lie within the dictionary
--   kdf_of_bytes                                the dictionary's bytes and place alone decide
-- Not here: dictionaries themselves (crate dictionary).
-- Assumes nothing.
use mathlib.Core.Path.{◌≡◌, refl, ap}
use mathlib.Core.Bool.{true}
use mathlib.Core.List.{List}
use Prim.Native.Nat.{ℕ, ◌≤◌}
use native.Mathlib.Omega.{arith}
use lib.Dec.{eqb, leb}
use lib.ListN.{length, length-take}
use borrow.Author.Tests.{leb-true, eqb-true}
use Rattle.words.specs.Endian.{le}
use Rattle.words.proofs.Laws.Cases.{by_bool}
use Rattle.refusals.specs.Limits.{rounds_limit, rounds_least, argon2_fits}
use Rattle.fields.specs.Fields.{bytes_at, end_of, given}
use Rattle.fields.specs.declared.Place.{Place}
use Rattle.dictionary.specs.Dictionary.{verdict}
use Rattle.dictionary.specs.declared.Fault.TheVariants as fault
use Rattle.dictionary.specs.declared.Fault.{Fault}
use Rattle.kdf_dictionary.specs.Kdf.{uuid_name, salt_name, rounds_name}
use Rattle.kdf_dictionary.specs.declared.AesKdf.{AesKdf}
use Rattle.kdf_dictionary.specs.declared.Argon2.{Argon2}
use Rattle.kdf_dictionary.specs.declared.Kdf.{Kdf}
use Rattle.kdf_dictionary.specs.declared.Kdf.TheVariants as kdf
use Rattle.kdf_dictionary.specs.declared.Variant.{Variant}
use Rattle.kdf_dictionary.specs.declared.Variant.TheVariants as variant
use Rattle.kdf_dictionary.specs.declared.Listed.{Listed}
use Rattle.kdf_dictionary.specs.declared.Listed.TheVariants as listed
use Rattle.kdf_dictionary.specs.declared.Items.{Items}
use Rattle.std.specs.Prelude.{Result, Ok, Err}
use Rattle.refusals.specs.declared.Refusal.{Refusal}
use Rattle.kdf_dictionary.specs.KdfDictionary.{
  item_of,
  aes_kdf_in,
  aes_kdf_of,
  argon2_items,
  complete,
  argon2_listed,
  argon2_kdf,
  argon2_figures,
  argon2_in,
  listed_as,
  listed_in,
  uuid_in,
  uuid_of,
  kdf_in,
  kdf_of,
}
use Rattle.kdf_dictionary.proofs.Laws.Items.{item_of_within, salt_within}

-- AES-KDF, asked for by the dictionary at the place p
pub record IsAesKdf (p : Place) (k : AesKdf) : Type 0 where
  pub seed_length : k.seed.length ≡ 32
  pub seed_behind : p.start ≤ k.seed.start
  pub seed_within : end_of k.seed ≤ end_of p
  pub rounds_le : k.rounds ≤ rounds_limit
  pub rounds_ge : rounds_least ≤ k.rounds

-- Argon2, asked for by the dictionary at the place p
pub record IsArgon2 (p : Place) (k : Argon2) : Type 0 where
  pub salt_behind : p.start ≤ k.salt.start
  pub salt_ends : end_of k.salt ≤ end_of p
  pub figures_fit : argon2_fits k.salt.length k.passes k.memory k.lanes ≡ true

abbrev pub IsAsked : Place → Kdf → Type 0
IsAsked p (kdf.AesKdf k) = IsAesKdf p k
IsAsked p (kdf.Argon2d k) = IsArgon2 p k
IsAsked p (kdf.Argon2id k) = IsArgon2 p k

-- nothing is said of a refusal
abbrev Asked : Place → Result Kdf Refusal → Type 0
Asked p (Ok k) = IsAsked p k
Asked p (Err r) = 0 ≤ 0

argon2_kdf_asked : (p : Place) (v : Variant) (k : Argon2) → IsArgon2 p k → IsAsked p (argon2_kdf v k)
argon2_kdf_asked p variant.D k h = h
argon2_kdf_asked p variant.Id k h = h

module _ (d : List ℕ) (p : Place) (fits : length d ≤ p.length) where
  aes_kdf_in_asked : (q r : Place) → end_of q ≤ length d → Asked p (aes_kdf_in d p q r)
  unfolding aes_kdf_in
  aes_kdf_in_asked q r w =
      by_bool (eqb q.length 32)
      (λ t. by_bool (given r)
      (λ u. by_bool (leb (le 8 d r.start) rounds_limit)
      (λ v. by_bool (leb rounds_least (le 8 d r.start))
      (λ x. rw (t, u, v, x) (record {
        seed_length = eqb-true q.length 32 t;
        seed_behind = omega arith;
        seed_within = omega arith;
        rounds_le = leb-true (le 8 d r.start) rounds_limit v;
        rounds_ge = leb-true rounds_least (le 8 d r.start) x;
      }))
      (λ x. rw (t, u, v, x) (omega arith)))
      (λ v. rw (t, u, v) (omega arith)))
      (λ u. rw (t, u) (omega arith)))
      (λ t. rw t (omega arith))

  argon2_figures_asked : (v : Variant) (i : Items) → end_of i.salt ≤ length d → Asked p (argon2_figures d p v i)
  unfolding argon2_figures
  argon2_figures_asked v i w =
      by_bool (argon2_fits i.salt.length (le 8 d i.passes.start) (le 8 d i.memory.start) (le 4 d i.lanes.start))
      (λ t. rw t (argon2_kdf_asked p v _ (record {
        salt_behind = omega arith;
        salt_ends = omega arith;
        figures_fit = t;
      })))
      (λ t. rw t (omega arith))

  argon2_in_asked : (v : Variant) (i : Items) → end_of i.salt ≤ length d → Asked p (argon2_in d p v i)
  unfolding argon2_in
  argon2_in_asked v i w =
      by_bool (complete i)
      (λ t. by_bool (argon2_listed d i.version)
      (λ u. rw (t, u) (argon2_figures_asked v i w))
      (λ u. rw (t, u) (omega arith)))
      (λ t. rw t (omega arith))

  listed_in_asked : (l : Listed) → Asked p (listed_in d p l)
  unfolding listed_in aes_kdf_of
  listed_in_asked listed.Unlisted = omega arith
  listed_in_asked listed.AesKdf =
      aes_kdf_in_asked (item_of d salt_name 0x42) (item_of d rounds_name 0x05) (item_of_within d salt_name 0x42)
  listed_in_asked (listed.Argon2 v) = argon2_in_asked v (argon2_items d) (salt_within d (argon2_items d) refl)

  uuid_in_asked : (q : Place) → Asked p (uuid_in d p q)
  unfolding uuid_in
  uuid_in_asked q =
      by_bool (eqb q.length 16) (λ t. rw t (listed_in_asked (listed_as (bytes_at d q)))) (λ t. rw t (omega arith))

  kdf_in_asked : (o : Result Unit Fault) → Asked p (kdf_in d p o)
  unfolding kdf_in uuid_of
  kdf_in_asked (Err (fault.Broken at)) = omega arith
  kdf_in_asked (Err (fault.Repeated at)) = omega arith
  kdf_in_asked (Ok tt) = uuid_in_asked (item_of d uuid_name 0x42)

kdf_of_asked : (s : List ℕ) (p : Place) → Asked p (kdf_of s p)
unfolding kdf_of
kdf_of_asked s p = kdf_in_asked (bytes_at s p) p (simp length-take (omega arith)) (verdict (bytes_at s p))

pub kdf_of_asks : (s : List ℕ) (p : Place) (k : Kdf) → kdf_of s p ≡ Ok k → IsAsked p k
kdf_of_asks s p k e = rw e at (kdf_of_asked s p)

-- the dictionary's bytes and place alone decide
pub kdf_of_bytes : (s t : List ℕ) (p : Place) → bytes_at s p ≡ bytes_at t p → kdf_of s p ≡ kdf_of t p
unfolding kdf_of
kdf_of_bytes s t p e = ap (λ (d : List ℕ). kdf_in d p (verdict d)) e
