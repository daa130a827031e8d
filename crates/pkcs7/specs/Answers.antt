-- What the check of a padding says (document 01, "Refusal numbers"): 16, "padding is wrong"; "0 is success. A refusal
-- returns its number with zero in every other answer".
--
--   said    how many bytes pad the piece
-- Not here: what the answer is (Answer).
-- Assumes nothing.
use Rattle.std.specs.Prelude.{[], ◌∷◌, ℕ, Option, Some, None}
use Rattle.refusals.specs.Numbers.{Said, success, refused}
use Rattle.refusals.specs.declared.Refusal.TheVariants.{WrongPadding}

abbrev pub said : Option ℕ → Said
said (Some p) = success (p ∷ [])
said None = refused 1 WrongPadding
