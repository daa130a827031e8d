-- Document 02, Item 8: what begins at the place of a refusal.
--
--   "for 2 its length; for 3 the first signature that differs (0 or 4);
--    for 4, 8; for 8 the end field; otherwise the first byte of the field,
--    or of the dictionary item at fault"                                  PointsTo, PointsToInner, PointsToLone
--   "A dictionary fault that belongs to no item points to where the
--    dictionary's value begins"                                           FaultAt, NeedAt (Items)
--   "counted from the front of the file, .. payload or lone dictionary"   InValue, Begins
-- Where a field or an item begins is said by sizes alone, from the front on: FieldAt, FieldOf, FieldAgain; ComeTo,
-- ItemAt, ItemOf, ItemAgain. The readers' walks and searches are not cited there.
-- Not here: that a place lies inside the input (Places).
-- Assumes nothing.
use Rattle.std.specs.Prelude.{◌≡◌, false, List, [], ◌∷◌, ℕ, ◌+◌, ◌<◌, length, get_or, take, drop, Some, None, Err}
use Rattle.words.specs.Endian.{le}
use Rattle.words.specs.Size.{int32}
use Rattle.refusals.specs.declared.Refusal.{Refusal}
use Rattle.refusals.specs.declared.Refusal.TheVariants.{
  TooLong,
  CutShort,
  WrongSignature,
  WrongVersion,
  WrongSize,
  Repeated,
  UnknownField,
  Absent,
  Unlisted,
  BrokenDictionary,
  TooManyRounds,
  TooFewRounds,
  FigureOutside,
}
use Rattle.fields.specs.Fields.{fits}
use Rattle.fields.specs.declared.SizeRule.{SizeRule}
use Rattle.ciphers.specs.Ciphers.{cipher_of, nonce_length}
use Rattle.ciphers.specs.declared.Cipher.{Cipher}
use Rattle.dictionary.specs.Dictionary.{find}
use Rattle.kdf_dictionary.specs.Kdf.{
  uuid_name,
  salt_name,
  rounds_name,
  version_name,
  passes_name,
  memory_name,
  lanes_name,
  secret_name,
  associated_name,
}
use Rattle.outer_header.specs.Kdbx4Header.{listed, size_rule, header}
use Rattle.inner_header.specs.InnerHeader.{rule_of, algorithm_listed, inner, attachment}
use Rattle.places.specs.Items.{
  ItemOf,
  ItemAgain,
  ItemWith,
  FaultAt,
  NeedAt,
  NoKdf,
  NotVersion,
  ManyRounds,
  FewRounds,
  SaltOutside,
  PassesOutside,
  MemoryOutside,
  LanesOutside,
  LittleMemory,
}

-- a field begins at a place: the first one at `from`, each other one behind the value of the one before it, which is
-- not the end field
pub data FieldAt (s : List ℕ) (from : ℕ) : ℕ → Type 0 where
  front : FieldAt s from from
  behind : (at size : ℕ) → FieldAt s from at → 0 < get_or s at 0 → int32 (le 4 s (at + 1)) ≡ Some size
      → FieldAt s from (at + 5 + size)

-- the field of an ID begins at a place
pub record FieldOf (s : List ℕ) (from id at : ℕ) : Type 0 where
  pub begins : FieldAt s from at
  pub id_is : get_or s at 0 ≡ id

-- a field begins at a place, and one of the same ID before it
pub record FieldAgain (s : List ℕ) (from at : ℕ) : Type 0 where
  pub id : ℕ
  pub begins : FieldOf s from id at
  pub before : ℕ
  pub before_lt : before < at
  pub former : FieldOf s from id before

-- the size that stands at a field is not the rule's: it is negative, or another one
abbrev pub WrongSized : SizeRule → List ℕ → ℕ → Type 0
WrongSized rule s at = (n : ℕ) → int32 (le 4 s (at + 1)) ≡ Some n → fits rule n ≡ false

-- the field of an ID begins at a place, and P holds of its value
pub record ValueOf (P : List ℕ → Type 0) (f : List ℕ) (id at : ℕ) : Type 0 where
  pub field : FieldOf f 12 id at
  pub size : ℕ
  pub size_is : int32 (le 4 f (at + 1)) ≡ Some size
  pub holds : P (take size (drop (at + 5) f))

-- a place of a file, in the dictionary that is the value of the field of an ID: P of the dictionary and the place in it
pub record InValue (P : List ℕ → ℕ → Type 0) (f : List ℕ) (id place : ℕ) : Type 0 where
  pub at : ℕ
  pub inside : ℕ
  pub value : ValueOf (λ (d : List ℕ). P d inside) f id at
  pub place_is : place ≡ at + 5 + inside

-- what begins at the place of a refusal of a file's header. Field 0 is the end field, 2 the cipher, 3 the compression,
-- 7 the nonce, 11 the KDF dictionary and 12 the custom one
pub data PointsTo (f : List ℕ) : Refusal → Type 0 where
  too_long : PointsTo f TooLong
  cut_short : PointsTo f (CutShort (length f))
  signature : (le 4 f 0 ≡ 0x9AA2D903 → ⊥) → PointsTo f (WrongSignature 0)
  second_signature : le 4 f 0 ≡ 0x9AA2D903 → (le 4 f 4 ≡ 0xB54BFB67 → ⊥) → PointsTo f (WrongSignature 4)
  version : PointsTo f (WrongVersion 8)
  size : (at : ℕ) → FieldAt f 12 at → WrongSized (size_rule (get_or f at 0)) f at → PointsTo f (WrongSize at)
  end_bytes : (at : ℕ) → FieldOf f 12 0 at → (take 4 (drop (at + 5) f) ≡ 0x0D ∷ 0x0A ∷ 0x0D ∷ 0x0A ∷ [] → ⊥)
      → PointsTo f (WrongSize at)
  nonce : (at n cipher : ℕ) (c : Cipher) → FieldOf f 12 7 at → int32 (le 4 f (at + 1)) ≡ Some n
      → ValueOf (λ (v : List ℕ). cipher_of v ≡ Some c) f 2 cipher
      → (n ≡ nonce_length c → ⊥)
      → PointsTo f (WrongSize at)
  repeated_field : (at : ℕ) → FieldAgain f 12 at → PointsTo f (Repeated at)
  repeated_kdf_item : (at : ℕ) → InValue ItemAgain f 11 at → PointsTo f (Repeated at)
  repeated_custom_item : (at : ℕ) → InValue ItemAgain f 12 at → PointsTo f (Repeated at)
  unknown_field : (at : ℕ) → FieldAt f 12 at → listed (get_or f at 0) ≡ false → PointsTo f (UnknownField at)
  absent : (at : ℕ) → FieldOf f 12 0 at → PointsTo f (Absent at)
  cipher : (at : ℕ) → ValueOf (λ (v : List ℕ). cipher_of v ≡ None) f 2 at → PointsTo f (Unlisted at)
  compression : (at : ℕ) → FieldOf f 12 3 at → (le 4 f (at + 5) ≡ 0 → ⊥) → PointsTo f (Unlisted at)
  kdf : (at : ℕ) → InValue (ItemWith uuid_name NoKdf) f 11 at → PointsTo f (Unlisted at)
  argon2_version : (at : ℕ) → InValue (ItemWith version_name NotVersion) f 11 at → PointsTo f (Unlisted at)
  argon2_secret : (at : ℕ) → InValue (ItemOf secret_name) f 11 at → PointsTo f (Unlisted at)
  argon2_associated : (at : ℕ) → InValue (ItemOf associated_name) f 11 at → PointsTo f (Unlisted at)
  broken_kdf : (at : ℕ) → InValue FaultAt f 11 at → PointsTo f (BrokenDictionary at)
  broken_custom : (at : ℕ) → InValue FaultAt f 12 at → PointsTo f (BrokenDictionary at)
  kdf_needs : (at : ℕ) → InValue NeedAt f 11 at → PointsTo f (BrokenDictionary at)
  many_rounds : (at : ℕ) → InValue (ItemWith rounds_name ManyRounds) f 11 at → PointsTo f (TooManyRounds at)
  few_rounds : (at : ℕ) → InValue (ItemWith rounds_name FewRounds) f 11 at → PointsTo f (TooFewRounds at)
  salt : (at : ℕ) → InValue (ItemWith salt_name SaltOutside) f 11 at → PointsTo f (FigureOutside at)
  passes : (at : ℕ) → InValue (ItemWith passes_name PassesOutside) f 11 at → PointsTo f (FigureOutside at)
  memory : (at : ℕ) → InValue (ItemWith memory_name MemoryOutside) f 11 at → PointsTo f (FigureOutside at)
  lanes : (at : ℕ) → InValue (ItemWith lanes_name LanesOutside) f 11 at → PointsTo f (FigureOutside at)
  little_memory : (at : ℕ) → InValue (ItemWith memory_name LittleMemory) f 11 at → PointsTo f (FigureOutside at)

-- .. of a payload's inner header, and of an attachment. Field 0 is the end field, 1 the algorithm; 3 is the last ID
pub data PointsToInner (p : List ℕ) : Refusal → Type 0 where
  too_long : PointsToInner p TooLong
  cut_short : PointsToInner p (CutShort (length p))
  size : (at : ℕ) → FieldAt p 0 at → WrongSized (rule_of (get_or p at 0)) p at → PointsToInner p (WrongSize at)
  repeated_field : (at : ℕ) → FieldAgain p 0 at → PointsToInner p (Repeated at)
  unknown_field : (at : ℕ) → FieldAt p 0 at → 3 < get_or p at 0 → PointsToInner p (UnknownField at)
  absent : (at : ℕ) → FieldOf p 0 0 at → PointsToInner p (Absent at)
  algorithm : (at : ℕ) → FieldOf p 0 1 at → algorithm_listed (le 4 p (at + 5)) ≡ false → PointsToInner p (Unlisted at)

-- .. of a lone dictionary
pub data PointsToLone (d : List ℕ) : Refusal → Type 0 where
  repeated_item : (at : ℕ) → ItemAgain d at → PointsToLone d (Repeated at)
  broken : (at : ℕ) → FaultAt d at → PointsToLone d (BrokenDictionary at)

-- f is a file, p a payload, d a lone dictionary. The openers say what the header's reader says (Places)
pub record Begins : Type 0 where
  pub header_points : (f : List ℕ) (r : Refusal) → header f ≡ Err r → PointsTo f r
  pub inner_points : (p : List ℕ) (r : Refusal) → inner p ≡ Err r → PointsToInner p r
  pub attachment_points : (p : List ℕ) (i : ℕ) (r : Refusal) → attachment p i ≡ Err r → PointsToInner p r
  pub dictionary_points : (d name : List ℕ) (r : Refusal) → find d name ≡ Err r → PointsToLone d r
