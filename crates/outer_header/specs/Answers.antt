-- What a header's answer says (document 01, "Refusal numbers": "0 is success. A refusal returns its number with zero in
-- every other answer").
--
--   values_of    of an accepted header: minor version, cipher, length; start and length of seed, nonce, KDF dictionary
--               and custom dictionary; the KDF's values
--   said        these values of the header that is read
-- Not here: what the answer is (Kdbx4Header); a cipher's number and a KDF's values (crates ciphers and kdf_dictionary,
-- Answers).
-- Assumes nothing.
use Rattle.std.specs.Prelude.{List, ◌∷◌, ℕ, Result, Ok, Err}
use Rattle.refusals.specs.Numbers.{Said, success, refused}
use Rattle.ciphers.specs.Answers.{cipher_number}
use Rattle.kdf_dictionary.specs.Answers.{kdf_values}
use Rattle.outer_header.specs.declared.Header.{Header}
use Rattle.refusals.specs.declared.Refusal.{Refusal}

abbrev pub values_of : Header → List ℕ
values_of h =
    h.minor ∷ cipher_number h.cipher ∷ h.length
    ∷ h.seed.start ∷ h.seed.length
    ∷ h.nonce.start ∷ h.nonce.length
    ∷ h.kdf_dictionary.start ∷ h.kdf_dictionary.length
    ∷ h.custom.start ∷ h.custom.length
    ∷ kdf_values h.kdf

abbrev pub said : Result Header Refusal → Said
said (Ok h) = success (values_of h)
said (Err r) = refused 17 r
