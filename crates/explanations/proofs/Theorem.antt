-- Every sentence has room, so that what `explain` answers is the whole sentence.
--
-- In order:
--   sentence_room     no sentence is longer than the struct's text
--   sentence-shown    the text's first bytes, as many as its length says, are the sentence
-- Assumes nothing.
use mathlib.Core.Path.{◌≡◌, refl, ap, ◌∙◌}
use mathlib.Core.List.{List}
use Prim.Native.Nat.{ℕ, ◌≤◌}
use native.Mathlib.Omega.{arith}
use lib.ListN.{length, take, replicate}
use Rattle.slices.proofs.Laws.Over.{over_fits, take_over}
use Rattle.refusals.specs.declared.Refusal.{Refusal}
use Rattle.refusals.specs.declared.Refusal.TheVariants.{
  TooLong,
  CutShort,
  WrongSignature,
  WrongVersion,
  WrongSize,
  Repeated,
  UnknownField,
  Absent,
  Unlisted,
  BrokenDictionary,
  TooManyRounds,
  HeaderHash,
  HeaderTag,
  BlockTag,
  TrailingBytes,
  WrongPadding,
  NoRoom,
  WrongCredential,
  OutOfSequence,
  TooFewRounds,
  FigureOutside,
}
use Rattle.explanations.specs.Sentences.{ascii, sentence, held}

pub sentence_room : (r : Refusal) → length (sentence r) ≤ 192
unfolding ascii sentence
sentence_room TooLong = omega arith
sentence_room (CutShort at) = omega arith
sentence_room (WrongSignature at) = omega arith
sentence_room (WrongVersion at) = omega arith
sentence_room (WrongSize at) = omega arith
sentence_room (Repeated at) = omega arith
sentence_room (UnknownField at) = omega arith
sentence_room (Absent at) = omega arith
sentence_room (Unlisted at) = omega arith
sentence_room (BrokenDictionary at) = omega arith
sentence_room (TooManyRounds at) = omega arith
sentence_room HeaderHash = omega arith
sentence_room HeaderTag = omega arith
sentence_room BlockTag = omega arith
sentence_room TrailingBytes = omega arith
sentence_room WrongPadding = omega arith
sentence_room NoRoom = omega arith
sentence_room WrongCredential = omega arith
sentence_room OutOfSequence = omega arith
sentence_room (TooFewRounds at) = omega arith
sentence_room (FigureOutside at) = omega arith

pub sentence-shown : (r : Refusal) → take (held (sentence r)).length (held (sentence r)).text ≡ sentence r
unfolding held
sentence-shown r =
    ap (λ (x : List ℕ). take (length (sentence r)) x) (over_fits (sentence r) (replicate 192 0) (sentence_room r))
    ∙ take_over (sentence r) (replicate 192 0) (length (sentence r)) refl
