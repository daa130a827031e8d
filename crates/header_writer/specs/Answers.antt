-- What the check of a header's figures says (document 01, "Refusal numbers": "0 is success. A refusal returns its
-- number with zero in every other answer").
--
--   said    the cipher's number
-- Not here: what the answer is (Written); a cipher's number (crate ciphers, Answers).
-- Assumes nothing.
use Rattle.std.specs.Prelude.{[], ◌∷◌, Result, Ok, Err}
use Rattle.refusals.specs.Numbers.{Said, success, refused}
use Rattle.ciphers.specs.Answers.{cipher_number}
use Rattle.refusals.specs.declared.Refusal.{Refusal}
use Rattle.ciphers.specs.declared.Cipher.{Cipher}

abbrev pub said : Result Cipher Refusal → Said
said (Ok c) = success (cipher_number c ∷ [])
said (Err r) = refused 1 r
