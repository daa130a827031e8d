-- The outer header of a KDBX 4 file: document 01, "Header".
--
--   "Signatures 0x9AA2D903 and 0xB54BFB67, then the version, major in the high word"    header
--   the table of fields: ID and size                                                      listed, size_rule
--   "Each field in file order: .. ID listed (7), not repeated (6), .. (5), .. (2)"        field_here, seen, put
--   ".. end bytes (5)"                                                                    ends_right, walk
--   "a required field is absent at the end field"                                         complete
--   "After the end field: absence (8), cipher then compression (9), nonce size (5),
--    KDF dictionary, custom dictionary"                                                   judged, identified, figures
--   "Order: length (1), 12 bytes present (2), signatures (3), version (4)"                header
--   document 02, Item 8: "for 2 its length; for 3 the first signature that differs (0
--    or 4); for 4, 8; for 8 the end field; otherwise the first byte of the field, or
--    of the dictionary item at fault"                                                     header, judged, identified
-- A walk counts its fields down from the file's length: a field has five bytes or more, so the count never ends it
-- (proofs, Laws.Walk, body_count).
-- A field that is absent has the place 0, where no field's value stands.
-- Not here: one field (crate fields); dictionaries (crates dictionary and kdf_dictionary); writing (crate
-- header_writer, Written).
-- Assumes nothing.
use Rattle.std.specs.Prelude.{Bool, false, cond, ◌&&◌, ◌||◌, List, [], ◌∷◌, ℕ, zero, suc, ◌+◌, ◌-◌, eqb, leb, ltb, length, get_or, Option, Some, None, Result, Ok, Err}
use Rattle.words.specs.Endian.{le}
use Rattle.slices.specs.Same.{same}
use Rattle.refusals.specs.declared.Refusal.TheVariants.{
  TooLong,
  CutShort,
  WrongSignature,
  WrongVersion,
  WrongSize,
  Repeated,
  Absent,
  Unlisted,
  BrokenDictionary,
}
use Rattle.refusals.specs.Numbers.{Outcome}
use Rattle.refusals.specs.Limits.{file_limit}
use Rattle.fields.specs.Fields.{bytes_at, end_of, begin, field_at, nowhere, given}
use Rattle.fields.specs.declared.Place.{Place}
use Rattle.fields.specs.declared.SizeRule.{SizeRule}
use Rattle.fields.specs.declared.SizeRule.TheVariants.{Any, Exactly}
use Rattle.refusals.specs.declared.Refusal.{Refusal}
use Rattle.ciphers.specs.Ciphers.{cipher_of, nonce_length}
use Rattle.ciphers.specs.declared.Cipher.{Cipher}
use Rattle.dictionary.specs.Dictionary.{verdict}
use Rattle.dictionary.specs.declared.Fault.TheVariants as fault
use Rattle.dictionary.specs.declared.Fault.{Fault}
use Rattle.kdf_dictionary.specs.KdfDictionary.{kdf_of}
use Rattle.kdf_dictionary.specs.declared.Kdf.{Kdf}
use Rattle.outer_header.specs.declared.Header.{Header}
use Rattle.outer_header.specs.declared.walk.Fields.{Fields}

-- the table of fields
unfoldable pub listed : ℕ → Bool
listed id = eqb id 0 || (eqb id 2 || (eqb id 3 || (eqb id 4 || (eqb id 7 || (eqb id 11 || eqb id 12)))))

unfoldable pub size_rule : ℕ → SizeRule
size_rule id = cond (eqb id 0) (Exactly 4)
    (cond (eqb id 2) (Exactly 16) (cond (eqb id 3) (Exactly 4) (cond (eqb id 4) (Exactly 32) Any)))

-- whether a field of the ID came before
unfoldable pub seen : Fields → ℕ → Bool
seen f id =
    cond (eqb id 2) (given f.cipher)
    (cond (eqb id 3) (given f.compression)
    (cond (eqb id 4) (given f.seed)
    (cond (eqb id 7) (given f.nonce)
    (cond (eqb id 11) (given f.kdf)
    (cond (eqb id 12) (given f.custom) false)))))

-- the fields with one more
unfoldable pub put : Fields → ℕ → Place → Fields
put f id p =
    record {
      cipher = cond (eqb id 2) p f.cipher;
      compression = cond (eqb id 3) p f.compression;
      seed = cond (eqb id 4) p f.seed;
      nonce = cond (eqb id 7) p f.nonce;
      kdf = cond (eqb id 11) p f.kdf;
      custom = cond (eqb id 12) p f.custom;
    }

unfoldable pub no_fields : Fields
no_fields = record {
  cipher = nowhere;
  compression = nowhere;
  seed = nowhere;
  nonce = nowhere;
  kdf = nowhere;
  custom = nowhere;
}

-- the field at a place, where the fields before it are known
unfoldable pub field_here : Fields → List ℕ → ℕ → Result (ℕ × Place) Refusal
field_here f s at = field_at (listed (get_or s at 0)) (seen f (get_or s at 0)) (size_rule (get_or s at 0)) s at

-- "end, bytes 0D 0A 0D 0A"
unfoldable pub ends_right : List ℕ → Place → Bool
ends_right s p = same (bytes_at s p) (0x0D ∷ 0x0A ∷ 0x0D ∷ 0x0A ∷ [])

-- the fields from `at` on, the first k of them, up to the end field
unfoldable pub walk_in : Fields → List ℕ → Result (ℕ × Place) Refusal → (Fields → ℕ → Result (Fields × ℕ) Refusal) → Result (Fields × ℕ) Refusal
walk_in f s (Err r) rest = Err r
walk_in f s (Ok (id, p)) rest =
    cond (eqb id 0)
    (cond (ends_right s p) (Ok (f, end_of p)) (Err (WrongSize (begin p))))
    (rest (put f id p) (end_of p))

unfoldable pub walk : ℕ → Fields → List ℕ → ℕ → Result (Fields × ℕ) Refusal
walk zero f s at = Err (CutShort (length s))
walk (suc k) f s at = walk_in f s (field_here f s at) (λ (g : Fields) (n : ℕ). walk k g s n)

-- "a required field is absent at the end field": all but 12 are required
unfoldable pub complete : Fields → Bool
complete f = given f.cipher && (given f.compression && (given f.seed && (given f.nonce && given f.kdf)))

-- a custom dictionary is judged where it is given; its places are the file's
unfoldable pub custom_in : Place → Result Unit Fault → Outcome
custom_in p (Ok tt) = Ok tt
custom_in p (Err (fault.Broken at)) = Err (BrokenDictionary (p.start + at))
custom_in p (Err (fault.Repeated at)) = Err (Repeated (p.start + at))

unfoldable pub custom_of : List ℕ → Place → Outcome
custom_of s p = cond (given p) (custom_in p (verdict (bytes_at s p))) (Ok tt)

-- "KDF dictionary, custom dictionary": the header's figures, at last
unfoldable pub figures_in : Fields → ℕ → ℕ → Cipher → Result Kdf Refusal → Outcome → Result Header Refusal
figures_in f minor end c (Err r) custom = Err r
figures_in f minor end c (Ok k) (Err x) = Err x
figures_in f minor end c (Ok k) (Ok tt) =
    Ok (record {
      minor = minor;
      cipher = c;
      seed = f.seed;
      nonce = f.nonce;
      kdf = k;
      kdf_dictionary = f.kdf;
      custom = f.custom;
      length = end;
    })

unfoldable pub figures : List ℕ → Fields → ℕ → ℕ → Cipher → Result Header Refusal
figures s f minor end c = figures_in f minor end c (kdf_of s f.kdf) (custom_of s f.custom)

-- "cipher then compression (9), nonce size (5)"
unfoldable pub identified : List ℕ → Fields → ℕ → ℕ → Option Cipher → Result Header Refusal
identified s f minor end None = Err (Unlisted (begin f.cipher))
identified s f minor end (Some c) =
    cond (eqb (le 4 s f.compression.start) 0)
    (cond (eqb f.nonce.length (nonce_length c)) (figures s f minor end c)
    (Err (WrongSize (begin f.nonce))))
    (Err (Unlisted (begin f.compression)))

-- where the end field begins: five bytes and its value's four before the header's end
abbrev pub end_field : ℕ → ℕ
end_field end = end - 9

-- "absence (8)"
unfoldable pub judged : List ℕ → Fields → ℕ → ℕ → Result Header Refusal
judged s f minor end =
    cond (complete f) (identified s f minor end (cipher_of (bytes_at s f.cipher)))
    (Err (Absent (end_field end)))

unfoldable pub judged_in : List ℕ → ℕ → Result (Fields × ℕ) Refusal → Result Header Refusal
judged_in s minor (Err r) = Err r
judged_in s minor (Ok (f, end)) = judged s f minor end

-- the fields of a file of a known version
unfoldable pub body : List ℕ → ℕ → Result Header Refusal
body s minor = judged_in s minor (walk (length s) no_fields s 12)

-- "Order: length (1), 12 bytes present (2), signatures (3), version (4)": 4.0 or 4.1, then the fields
unfoldable pub header : List ℕ → Result Header Refusal
header s =
    cond (leb (length s) file_limit)
    (cond (ltb (length s) 12) (Err (CutShort (length s)))
    (cond (eqb (le 4 s 0) 0x9AA2D903)
    (cond (eqb (le 4 s 4) 0xB54BFB67)
    (cond (eqb (le 4 s 8) 0x40000) (body s 0)
    (cond (eqb (le 4 s 8) 0x40001) (body s 1)
    (Err (WrongVersion 8))))
    (Err (WrongSignature 4)))
    (Err (WrongSignature 0))))
    (Err TooLong)
