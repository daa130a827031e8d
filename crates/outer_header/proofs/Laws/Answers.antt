-- The values of an accepted header, as code lays them out.
--
-- In order: kdf_values_six, the six values of a KDF one by one; values_of_is.
-- Assumes nothing.
use mathlib.Core.Path.{◌≡◌, ap₂}
use mathlib.Core.List.{List, [], ◌∷◌}
use Prim.Native.Nat.{ℕ}
use lib.ListN.{get_or}
use Rattle.ciphers.specs.Answers.{cipher_number}
use Rattle.kdf_dictionary.specs.Answers.{kdf_values}
use Rattle.kdf_dictionary.specs.declared.Kdf.{Kdf}
use Rattle.kdf_dictionary.specs.declared.Kdf.TheVariants as kdf
use Rattle.outer_header.specs.declared.Header.{Header}
use Rattle.outer_header.specs.Answers.{values_of}

pub kdf_values_six : (k : Kdf) (v : List ℕ) → v ≡ kdf_values k
    → get_or v 0 0 ∷ get_or v 1 0 ∷ get_or v 2 0 ∷ get_or v 3 0 ∷ get_or v 4 0 ∷ get_or v 5 0 ∷ [] ≡ kdf_values k
kdf_values_six (kdf.AesKdf a) v e = rw e
kdf_values_six (kdf.Argon2d a) v e = rw e
kdf_values_six (kdf.Argon2id a) v e = rw e

-- the values with the cipher's number n, and t behind the places
abbrev laid : Header → ℕ → List ℕ → List ℕ
laid h n t =
    h.minor ∷ n ∷ h.length
    ∷ h.seed.start ∷ h.seed.length
    ∷ h.nonce.start ∷ h.nonce.length
    ∷ h.kdf_dictionary.start ∷ h.kdf_dictionary.length
    ∷ h.custom.start ∷ h.custom.length
    ∷ t

pub values_of_is : (h : Header) (n : ℕ) (v : List ℕ) → n ≡ cipher_number h.cipher → v ≡ kdf_values h.kdf
    → laid h n (get_or v 0 0 ∷ get_or v 1 0 ∷ get_or v 2 0 ∷ get_or v 3 0 ∷ get_or v 4 0 ∷ get_or v 5 0 ∷ []) ≡ values_of h
values_of_is h n v e f = ap₂ (laid h) e (kdf_values_six h.kdf v f)
