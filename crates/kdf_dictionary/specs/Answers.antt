-- What the answer of a KDF dictionary says (document 01, "Refusal numbers": "0 is success. A refusal returns its number
-- with zero in every other answer").
--
--   kdf_values    which KDF (0 AES-KDF, 1 Argon2d, 2 Argon2id); start and length of its seed or salt; rounds or passes;
--                memory; lanes (zeros where the KDF has none)
--   said         these values of the KDF that is asked for
-- Not here: what the answer is (KdfDictionary).
-- Assumes nothing.
use Rattle.std.specs.Prelude.{List, [], ◌∷◌, ℕ, Result, Ok, Err}
use Rattle.refusals.specs.Numbers.{Said, success, refused}
use Rattle.kdf_dictionary.specs.declared.Kdf.{Kdf}
use Rattle.kdf_dictionary.specs.declared.Kdf.TheVariants as kdf
use Rattle.refusals.specs.declared.Refusal.{Refusal}

abbrev pub kdf_values : Kdf → List ℕ
kdf_values (kdf.AesKdf k) = 0 ∷ k.seed.start ∷ k.seed.length ∷ k.rounds ∷ 0 ∷ 0 ∷ []
kdf_values (kdf.Argon2d k) = 1 ∷ k.salt.start ∷ k.salt.length ∷ k.passes ∷ k.memory ∷ k.lanes ∷ []
kdf_values (kdf.Argon2id k) = 2 ∷ k.salt.start ∷ k.salt.length ∷ k.passes ∷ k.memory ∷ k.lanes ∷ []

abbrev pub said : Result Kdf Refusal → Said
said (Ok k) = success (kdf_values k)
said (Err r) = refused 6 r
