-- Document 01, "Refusal numbers": the number of each refusal. 0 is success. Document 02, Items 3 and 6: 20 and 22;
-- Item 8: the place.
--
--   of_refusal, place_of, unplaced  a refusal: its number, its place, and itself without it
--   Outcome, Written                what operations answer: number_of, place_of_answer; count_of: how many bytes were written
--   Said, success, refused          what an answer says in these terms: a number, a place and values
-- Not here: what each answer of another crate says (its own Answers).
-- Assumes nothing.
use Rattle.std.specs.Prelude.{List, ℕ, replicate, Result, Ok, Err}
use Rattle.refusals.specs.declared.Refusal.{Refusal}
use Rattle.refusals.specs.declared.Refusal.TheVariants.{TooLong, CutShort, WrongSignature, WrongVersion, WrongSize, Repeated, UnknownField, Absent, Unlisted, BrokenDictionary, TooManyRounds, HeaderHash, HeaderTag, BlockTag, TrailingBytes, WrongPadding, NoRoom, WrongCredential, OutOfSequence, TooFewRounds, FigureOutside}

abbrev pub of_refusal : Refusal → ℕ
of_refusal TooLong = 1
of_refusal (CutShort at) = 2
of_refusal (WrongSignature at) = 3
of_refusal (WrongVersion at) = 4
of_refusal (WrongSize at) = 5
of_refusal (Repeated at) = 6
of_refusal (UnknownField at) = 7
of_refusal (Absent at) = 8
of_refusal (Unlisted at) = 9
of_refusal (BrokenDictionary at) = 10
of_refusal (TooManyRounds at) = 11
of_refusal HeaderHash = 12
of_refusal HeaderTag = 13
of_refusal BlockTag = 14
of_refusal TrailingBytes = 15
of_refusal WrongPadding = 16
of_refusal NoRoom = 17
of_refusal WrongCredential = 18
of_refusal OutOfSequence = 19
of_refusal (TooFewRounds at) = 20
of_refusal (FigureOutside at) = 22

-- document 02, Item 8: the place of the fault, "the one answer beside the number that need not be zero"
abbrev pub place_of : Refusal → ℕ
place_of TooLong = 0
place_of (CutShort at) = at
place_of (WrongSignature at) = at
place_of (WrongVersion at) = at
place_of (WrongSize at) = at
place_of (Repeated at) = at
place_of (UnknownField at) = at
place_of (Absent at) = at
place_of (Unlisted at) = at
place_of (BrokenDictionary at) = at
place_of (TooManyRounds at) = at
place_of HeaderHash = 0
place_of HeaderTag = 0
place_of BlockTag = 0
place_of TrailingBytes = 0
place_of WrongPadding = 0
place_of NoRoom = 0
place_of WrongCredential = 0
place_of OutOfSequence = 0
place_of (TooFewRounds at) = at
place_of (FigureOutside at) = at

-- "from writers, hash, tag and blocks it is zero"
abbrev pub unplaced : Refusal → Refusal
unplaced TooLong = TooLong
unplaced (CutShort at) = CutShort 0
unplaced (WrongSignature at) = WrongSignature 0
unplaced (WrongVersion at) = WrongVersion 0
unplaced (WrongSize at) = WrongSize 0
unplaced (Repeated at) = Repeated 0
unplaced (UnknownField at) = UnknownField 0
unplaced (Absent at) = Absent 0
unplaced (Unlisted at) = Unlisted 0
unplaced (BrokenDictionary at) = BrokenDictionary 0
unplaced (TooManyRounds at) = TooManyRounds 0
unplaced HeaderHash = HeaderHash
unplaced HeaderTag = HeaderTag
unplaced BlockTag = BlockTag
unplaced TrailingBytes = TrailingBytes
unplaced WrongPadding = WrongPadding
unplaced NoRoom = NoRoom
unplaced WrongCredential = WrongCredential
unplaced OutOfSequence = OutOfSequence
unplaced (TooFewRounds at) = TooFewRounds 0
unplaced (FigureOutside at) = FigureOutside 0

-- what an operation that has nothing else to say answers: nothing, or the refusal
abbrev pub Outcome : Type 0
Outcome = Result (Unit {0}) Refusal

-- .. and one that writes into a lent slice: how many bytes, or the refusal
abbrev pub Written : Type 0
Written = Result ℕ Refusal

-- the number and the place of an answer
abbrev pub number_of : {T : Type 0} → Result T Refusal → ℕ
number_of (Ok x) = 0
number_of (Err r) = of_refusal r

-- "A refusal returns its number with zero in every other answer"
abbrev pub place_of_answer : {T : Type 0} → Result T Refusal → ℕ
place_of_answer (Ok x) = 0
place_of_answer (Err r) = place_of r

abbrev pub count_of : Written → ℕ
count_of (Ok n) = n
count_of (Err r) = 0

-- "For an answer that is an enum, a definition provides this paper's number and values for each of the enum's cases":
-- the number, the place of a refusal and the values
pub record Said : Type 0 where
  pub number : ℕ
  pub place : ℕ
  pub values : List ℕ

-- "0 is success"
abbrev pub success : List ℕ → Said
success values = record { number = 0; place = 0; values = values }

-- "A refusal returns its number with zero in every other answer": in its n values, but not in its place
abbrev pub refused : ℕ → Refusal → Said
refused n r = record { number = of_refusal r; place = place_of r; values = replicate n 0 }
