-- A file whose header passes every check before that of the rounds.
--
-- In order:
--   begins_judged     what stands behind the end field decides
--   kdf_begins        .. and of the KDF dictionary its rounds
--   begins_refuses    rounds that are refused
--   begins_accepts    rounds that pass
-- Assumes nothing.
use mathlib.Core.Path.{◌≡◌, ◌∙◌}
use mathlib.Core.List.{List}
use Prim.Native.Nat.{ℕ}
use borrow.Author.Tests.{eq-eqb}
use Rattle.slices.proofs.Laws.Same.{same_refl}
use Rattle.refusals.specs.declared.Refusal.{Refusal}
use Rattle.fields.specs.Fields.{bytes_at}
use Rattle.fields.specs.declared.Place.{Place}
use Rattle.kdf_dictionary.specs.Kdf.{aes_kdf_uuid, salt_name, rounds_name}
use Rattle.kdf_dictionary.specs.KdfDictionary.{
  item_of,
  aes_kdf_in,
  aes_kdf_of,
  listed_as,
  listed_in,
  uuid_in,
  uuid_of,
  kdf_in,
  kdf_of,
}
use Rattle.kdf_dictionary.specs.declared.Kdf.{Kdf}
use Rattle.std.specs.Prelude.{Ok, Err}
use Rattle.outer_header.specs.Kdbx4Header.{custom_of, judged, header}
use Rattle.outer_header.proofs.Laws.Accepted.{header_of, header-judged, refuses_judged, accepts-judged}
use Rattle.round_trip.specs.FewRounds.{Begins}

module _ (rounds : ℕ) (s : List ℕ) (i : Begins rounds s) where
  begins_judged : header s ≡ judged s i.fields i.minor i.end
  begins_judged =
      header-judged s i.minor i.end i.fields i.fits i.long i.first_is i.second_is i.minor_le
      i.version_is i.walk_is

  -- where the KDF dictionary stands, and its bytes
  abbrev p : Place
  p = i.fields.kdf

  abbrev d : List ℕ
  d = bytes_at s p

  pub kdf_begins : kdf_of s i.fields.kdf
      ≡ aes_kdf_in (bytes_at s i.fields.kdf) i.fields.kdf (item_of (bytes_at s i.fields.kdf) salt_name 0x42)
      (item_of (bytes_at s i.fields.kdf) rounds_name 0x05)
  unfolding kdf_of kdf_in uuid_of uuid_in listed_as listed_in aes_kdf_of
  kdf_begins =
      let k = i.has_rounds in
      rw (k.sound, eq-eqb _ 16 k.uuid_long, k.uuid_is, same_refl aes_kdf_uuid)

  pub begins_refuses : (r : Refusal) → kdf_of s i.fields.kdf ≡ Err r → header s ≡ Err r
  begins_refuses r e =
      begins_judged
      ∙ refuses_judged s i.fields i.minor i.end i.cipher r i.all_present i.cipher_is i.uncompressed
      i.nonce_long e

  pub begins_accepts : (k : Kdf) → kdf_of s i.fields.kdf ≡ Ok k
      → custom_of s i.fields.custom ≡ Ok tt
      → header s ≡ Ok (header_of i.fields i.minor i.end i.cipher k)
  begins_accepts k e c =
      begins_judged
      ∙ accepts-judged s i.fields i.minor i.end i.cipher k i.all_present i.cipher_is i.uncompressed
      i.nonce_long e c
