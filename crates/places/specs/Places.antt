-- Document 02, Item 8: the place of a refusal.
--
--   "numbers 2 to 11, 20 and 22 .. shall carry a place in every reader"    LiesIn, Places: the readers
--   "for 2 its length; for 3 .. (0 or 4); for 4, 8", "otherwise the first
--    byte of the field, or of the dictionary item at fault"                LiesIn
--   "from writers, hash, tag and blocks it is zero"                        Places: the openers and the writers
-- Not here: which field or item begins at the place (Begins).
-- Assumes nothing.
use Rattle.std.specs.Prelude.{◌≡◌, true, ◌||◌, List, [], ℕ, ◌<◌, eqb, length, Err, Ok}
use Rattle.refusals.specs.declared.Refusal.{Refusal}
use Rattle.refusals.specs.declared.Refusal.TheVariants.{TooLong, CutShort, WrongSignature, WrongVersion, WrongSize, Repeated, UnknownField, Absent, Unlisted, BrokenDictionary, TooManyRounds, HeaderHash, HeaderTag, BlockTag, TrailingBytes, WrongPadding, NoRoom, WrongCredential, OutOfSequence, TooFewRounds, FigureOutside}
use Rattle.refusals.specs.Numbers.{place_of}
use Rattle.dictionary.specs.Dictionary.{verdict, find}
use Rattle.dictionary.specs.declared.Fault.TheVariants as fault
use Rattle.outer_header.specs.Kdbx4Header.{header}
use Rattle.outer_header.specs.declared.Header.{Header}
use Rattle.inner_header.specs.InnerHeader.{inner, attachment}
use Rattle.inner_header.specs.Writer as inner_writer
use Rattle.opening.specs.Decryption.{refused}
use Rattle.opening.specs.Steps.{step_of}
use Rattle.opening.specs.declared.Opener.{Opener}
use Rattle.vault.specs.Vault.{start_refused, start, opened_in}
use Rattle.writer.specs.Written.{Figures, writing}

-- the place of a refusal, in an input of n bytes
abbrev pub LiesIn : ℕ → Refusal → Type 0
LiesIn n TooLong = place_of TooLong ≡ 0
LiesIn n (CutShort at) = at ≡ n
LiesIn n (WrongSignature at) = (eqb at 0 || eqb at 4) ≡ true
LiesIn n (WrongVersion at) = at ≡ 8
LiesIn n (WrongSize at) = at < n
LiesIn n (Repeated at) = at < n
LiesIn n (UnknownField at) = at < n
LiesIn n (Absent at) = at < n
LiesIn n (Unlisted at) = at < n
LiesIn n (BrokenDictionary at) = at < n
LiesIn n (TooManyRounds at) = at < n
LiesIn n HeaderHash = place_of HeaderHash ≡ 0
LiesIn n HeaderTag = place_of HeaderTag ≡ 0
LiesIn n BlockTag = place_of BlockTag ≡ 0
LiesIn n TrailingBytes = place_of TrailingBytes ≡ 0
LiesIn n WrongPadding = place_of WrongPadding ≡ 0
LiesIn n NoRoom = place_of NoRoom ≡ 0
LiesIn n WrongCredential = place_of WrongCredential ≡ 0
LiesIn n OutOfSequence = place_of OutOfSequence ≡ 0
LiesIn n (TooFewRounds at) = at < n
LiesIn n (FigureOutside at) = at < n

-- f is a file, t is T, n bytes are lent, p is a payload, d a lone dictionary
pub record Places : Type 0 where
  -- the readers
  pub header_lies : (f : List ℕ) (r : Refusal) → header f ≡ Err r → LiesIn (length f) r
  pub inner_lies : (p : List ℕ) (r : Refusal) → inner p ≡ Err r → LiesIn (length p) r
  pub attachment_lies : (p : List ℕ) (i : ℕ) (r : Refusal) → attachment p i ≡ Err r → LiesIn (length p) r
  pub dictionary_lies : (d name : List ℕ) (r : Refusal) → 0 < length d → find d name ≡ Err r
      → LiesIn (length d) r
  pub dictionary_empty : (name : List ℕ) → find [] name ≡ Err (BrokenDictionary 0)
  -- the check of a lone dictionary says what looking up a name in it says
  pub check_broken : (d name : List ℕ) (at : ℕ) → verdict d ≡ Err (fault.Broken at)
      → find d name ≡ Err (BrokenDictionary at)
  pub check_repeated : (d name : List ℕ) (at : ℕ) → verdict d ≡ Err (fault.Repeated at)
      → find d name ≡ Err (Repeated at)
  -- the openers say what the header's reader says, and behind an accepted header the place is zero
  pub start_header : (t f : List ℕ) (r : Refusal) → header f ≡ Err r → start t f ≡ start_refused r
  pub start_zero : (t f : List ℕ) (h : Header) (r : Refusal) → header f ≡ Ok h → start t f ≡ start_refused r
      → place_of r ≡ 0
  pub whole_header : (t f : List ℕ) (n : ℕ) (r : Refusal) → header f ≡ Err r → opened_in t f n ≡ refused r
  pub whole_zero : (t f : List ℕ) (n : ℕ) (h : Header) (r : Refusal) → header f ≡ Ok h
      → opened_in t f n ≡ refused r
      → place_of r ≡ 0
  pub step_zero : (f : List ℕ) (o : Opener) (n : ℕ) (r : Refusal) → (step_of f o n).answer.written ≡ Err r
      → place_of r ≡ 0
  -- the writers
  pub writer_zero : (g : Figures) (t b : List ℕ) (n : ℕ) (r : Refusal) → writing g t b n ≡ Err r
      → place_of r ≡ 0
  pub inner_writer_zero : (algorithm : ℕ) (key run document : List ℕ) (n : ℕ) (r : Refusal)
      → inner_writer.writing algorithm key run document n ≡ Err r
      → place_of r ≡ 0
