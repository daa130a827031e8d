-- Refusal numbers tell the refusals apart: none has the number of success, and two of one number are the same.
--
-- In order: of_refusal_positive, of_refusal_inj, of_refusal_17; number_negative, a size field's.
-- Assumes nothing.
use mathlib.Core.Path.{◌≡◌, refl, sym, ap, ap₂, ◌∙◌}
use mathlib.Core.List.{[], ◌∷◌}
use Prim.Native.Nat.{ℕ, ◌<◌}
use native.Mathlib.Omega.{arith}
use lib.ListN.{get_or}
use Rattle.words.specs.Answers as answers
use Rattle.std.specs.Prelude.{None}
use Rattle.refusals.specs.declared.Refusal.{Refusal}
use Rattle.refusals.specs.declared.Refusal.TheVariants.{TooLong, CutShort, WrongSignature, WrongVersion, WrongSize, Repeated, UnknownField, Absent, Unlisted, BrokenDictionary, TooManyRounds, HeaderHash, HeaderTag, BlockTag, TrailingBytes, WrongPadding, NoRoom, WrongCredential, OutOfSequence, TooFewRounds, FigureOutside}
use Rattle.refusals.specs.Numbers.{of_refusal, place_of}

pub of_refusal_positive : (r : Refusal) → 0 < of_refusal r
of_refusal_positive TooLong = omega arith
of_refusal_positive (CutShort at) = omega arith
of_refusal_positive (WrongSignature at) = omega arith
of_refusal_positive (WrongVersion at) = omega arith
of_refusal_positive (WrongSize at) = omega arith
of_refusal_positive (Repeated at) = omega arith
of_refusal_positive (UnknownField at) = omega arith
of_refusal_positive (Absent at) = omega arith
of_refusal_positive (Unlisted at) = omega arith
of_refusal_positive (BrokenDictionary at) = omega arith
of_refusal_positive (TooManyRounds at) = omega arith
of_refusal_positive HeaderHash = omega arith
of_refusal_positive HeaderTag = omega arith
of_refusal_positive BlockTag = omega arith
of_refusal_positive TrailingBytes = omega arith
of_refusal_positive WrongPadding = omega arith
of_refusal_positive NoRoom = omega arith
of_refusal_positive WrongCredential = omega arith
of_refusal_positive OutOfSequence = omega arith
of_refusal_positive (TooFewRounds at) = omega arith
of_refusal_positive (FigureOutside at) = omega arith

-- the refusal of a number and a place; 21 has none
named : ℕ → ℕ → Refusal
named n at =
    get_or
    (TooLong ∷ TooLong ∷ CutShort at ∷ WrongSignature at ∷ WrongVersion at ∷ WrongSize at ∷ Repeated at ∷ UnknownField at ∷
    Absent at ∷ Unlisted at ∷ BrokenDictionary at ∷ TooManyRounds at ∷ HeaderHash ∷ HeaderTag ∷ BlockTag ∷ TrailingBytes ∷
    WrongPadding ∷ NoRoom ∷ WrongCredential ∷ OutOfSequence ∷ TooFewRounds at ∷ TooLong ∷ FigureOutside at ∷ [])
    n
    TooLong

named_of_refusal : (r : Refusal) → named (of_refusal r) (place_of r) ≡ r
unfolding named
named_of_refusal TooLong = refl
named_of_refusal (CutShort at) = refl
named_of_refusal (WrongSignature at) = refl
named_of_refusal (WrongVersion at) = refl
named_of_refusal (WrongSize at) = refl
named_of_refusal (Repeated at) = refl
named_of_refusal (UnknownField at) = refl
named_of_refusal (Absent at) = refl
named_of_refusal (Unlisted at) = refl
named_of_refusal (BrokenDictionary at) = refl
named_of_refusal (TooManyRounds at) = refl
named_of_refusal HeaderHash = refl
named_of_refusal HeaderTag = refl
named_of_refusal BlockTag = refl
named_of_refusal TrailingBytes = refl
named_of_refusal WrongPadding = refl
named_of_refusal NoRoom = refl
named_of_refusal WrongCredential = refl
named_of_refusal OutOfSequence = refl
named_of_refusal (TooFewRounds at) = refl
named_of_refusal (FigureOutside at) = refl

pub of_refusal_inj : (r q : Refusal) → of_refusal r ≡ of_refusal q → place_of r ≡ place_of q → r ≡ q
of_refusal_inj r q e d = sym (named_of_refusal r) ∙ ap₂ named e d ∙ named_of_refusal q

-- 17 has no place, so that its number is enough
pub of_refusal_17 : (r : Refusal) → of_refusal r ≡ 17 → r ≡ NoRoom
unfolding named
of_refusal_17 r e = sym (named_of_refusal r) ∙ ap (λ (n : ℕ). named n (place_of r)) e

-- the number of a negative size (crate words, Answers) is that of the refusal
pub number_negative : (at : ℕ) → answers.number None ≡ of_refusal (WrongSize at)
number_negative at = refl
