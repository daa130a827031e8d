-- Variant dictionaries: document 01, "Header", the paragraph "A dictionary is ..".
--
--   "Types, in hexadecimal: 04 .. 42", "Sizes must fit the type"          size_fits_type
--   "Item: type, name size, name, value size, value; sizes are Int32"     entry_at, name_of, value_of, next, item_bytes
--   "a 0 byte that must be its last"                                      entry_at
--   "Names are compared as bytes", "a repeated name"                      named
--   "a UInt16 version whose high byte must be 1", "Any fault is 10; a
--    sound item with a repeated name is 6; the first met from the front
--    is given"                                                            verdict
--   "Looking up a name in a sound dictionary finds its value .. a broken
--    one is refused with 10 or 6. A name that isn't there is answered as
--    absent"                                                              find
--   "shows that stretch of the dictionary itself .. with nothing shown"   shown, lookup; where it lies: Lookup
--   document 02, Item 8: "the first byte .. of the dictionary item at
--    fault", the second one of a repeated name                            value_at, name_at, entry_at, walk_in
--   "a dictionary fault that belongs to no item points to where the
--    dictionary's value begins": place 0                                  entry_at, verdict
-- A walk counts its items down from the dictionary's length: an item has nine bytes or more, so the count never ends it
-- (proofs, Laws.Enough).
-- Not here: what a KDF dictionary needs, and the one that is written (crate kdf_dictionary).
-- Assumes nothing.
use Rattle.std.specs.Prelude.{Bool, true, false, cond, List, [], ◌∷◌, ◌++◌, ℕ, zero, suc, ◌+◌, ◌-◌, eqb, leb, ltb, length, get_or, take, drop, Option, Some, None, Result, Ok, Err}
use Rattle.words.specs.Endian.{le, le_bytes}
use Rattle.words.specs.Size.{int32}
use Rattle.slices.specs.Same.{same}
use Rattle.refusals.specs.declared.Refusal.TheVariants.{BrokenDictionary, Repeated}
use Rattle.dictionary.specs.declared.Fault.TheVariants as fault
use Rattle.dictionary.specs.declared.Fault.{Fault}
use Rattle.dictionary.specs.declared.Value.{Value}
use Rattle.refusals.specs.declared.Refusal.{Refusal}
use Rattle.dictionary.specs.declared.Item.{Item}

-- "04 UInt32, 05 UInt64, 08 Bool (one byte), 0C Int32, 0D Int64, 18 string, 42 bytes"
unfoldable pub size_fits_type : ℕ → ℕ → Bool
size_fits_type kind n =
    cond (eqb kind 0x04) (eqb n 4)
    (cond (eqb kind 0x05) (eqb n 8)
    (cond (eqb kind 0x08) (eqb n 1)
    (cond (eqb kind 0x0C) (eqb n 4)
    (cond (eqb kind 0x0D) (eqb n 8)
    (cond (eqb kind 0x18) true
    (eqb kind 0x42))))))

-- the item whose type stands at `at`, with a name of n bytes and a value of v
abbrev pub item_at : List ℕ → ℕ → ℕ → ℕ → Item
item_at s at n v =
    record { kind = get_or s at 0; name = at + 5; name_len = n; value = at + 5 + n + 4; value_len = v }

-- value size not negative, value present, size fitting
unfoldable pub value_at : List ℕ → ℕ → ℕ → Option ℕ → Result (Option Item) ℕ
value_at s at n None = Err at
value_at s at n (Some v) =
    cond (ltb (length s - (at + 5 + n + 4)) v) (Err at)
    (cond (size_fits_type (get_or s at 0) v) (Ok (Some (item_at s at n v))) (Err at))

-- name size not negative, the name and the four bytes of the value size present
unfoldable pub name_at : List ℕ → ℕ → Option ℕ → Result (Option Item) ℕ
name_at s at None = Err at
name_at s at (Some n) =
    cond (ltb (length s - (at + 5)) (n + 4)) (Err at) (value_at s at n (int32 (le 4 s (at + 5 + n))))

-- what stands at a place: the last byte is 0, and an item begins with its type and four bytes of the name size; a
-- missing last byte and bytes behind it are no item's fault
unfoldable pub entry_at : List ℕ → ℕ → Result (Option Item) ℕ
entry_at s at =
    cond (leb (length s) at) (Err 0)
    (cond (eqb (get_or s at 0) 0) (cond (eqb (length s - at) 1) (Ok None) (Err 0))
    (cond (ltb (length s - at) 5) (Err at) (name_at s at (int32 (le 4 s (at + 1))))))

abbrev pub name_of : List ℕ → Item → List ℕ
name_of s i = take i.name_len (drop i.name s)

abbrev pub value_of : List ℕ → Item → List ℕ
value_of s i = take i.value_len (drop i.value s)

-- where the entry behind an item stands
abbrev pub next : Item → ℕ
next i = i.value + i.value_len

-- some item from `at` on and before `stop` has the name, among the first k
unfoldable pub named_in : List ℕ → List ℕ → Result (Option Item) ℕ → (ℕ → Bool) → Bool
named_in s name (Ok (Some i)) rest = cond (same (name_of s i) name) true (rest (next i))
named_in s name (Ok None) rest = false
named_in s name (Err b) rest = false

unfoldable pub named : ℕ → List ℕ → ℕ → ℕ → List ℕ → Bool
named zero s at stop name = false
named (suc k) s at stop name =
    cond (leb stop at) false (named_in s name (entry_at s at) (λ (n : ℕ). named k s n stop name))

-- the items from `at` on, the first k of them: the first fault is given
unfoldable pub walk_in : List ℕ → ℕ → Result (Option Item) ℕ → (ℕ → Result Unit Fault) → Result Unit Fault
walk_in s at (Ok (Some i)) rest =
    cond (named (length s) s 2 at (name_of s i)) (Err (fault.Repeated at)) (rest (next i))
walk_in s at (Ok None) rest = Ok tt
walk_in s at (Err b) rest = Err (fault.Broken b)

unfoldable pub walk : ℕ → List ℕ → ℕ → Result Unit Fault
walk zero s at = Err (fault.Broken 0)
walk (suc k) s at = walk_in s at (entry_at s at) (walk k s)

-- the version's high byte is the second one
unfoldable pub verdict : List ℕ → Result Unit Fault
verdict s =
    cond (ltb (length s) 3) (Err (fault.Broken 0))
    (cond (eqb (get_or s 1 0) 1) (walk (length s) s 2) (Err (fault.Broken 0)))

-- the item of the name from `at` on, among the first k
unfoldable pub search_in : List ℕ → List ℕ → Result (Option Item) ℕ → (ℕ → Result (Option Value) Refusal) → Result (Option Value) Refusal
search_in s name (Ok (Some i)) rest =
    cond (same (name_of s i) name) (Ok (Some (record { kind = i.kind; start = i.value; length = i.value_len }))) (rest (next i))
search_in s name (Ok None) rest = Ok None
search_in s name (Err b) rest = Ok None

unfoldable pub search_from : ℕ → List ℕ → ℕ → List ℕ → Result (Option Value) Refusal
search_from zero s at name = Ok None
search_from (suc k) s at name = search_in s name (entry_at s at) (λ (n : ℕ). search_from k s n name)

-- the verdict first, then the item of the name
unfoldable pub find_in : Result Unit Fault → List ℕ → List ℕ → Result (Option Value) Refusal
find_in (Ok tt) s name = search_from (length s) s 2 name
find_in (Err (fault.Broken at)) s name = Err (BrokenDictionary at)
find_in (Err (fault.Repeated at)) s name = Err (Repeated at)

unfoldable pub find : List ℕ → List ℕ → Result (Option Value) Refusal
find s name = find_in (verdict s) s name

-- the stretch of the dictionary that is shown: nothing but where the name is found
unfoldable pub shown : List ℕ → Result (Option Value) Refusal → List ℕ
shown s (Ok (Some v)) = take v.length (drop v.start s)
shown s (Ok None) = []
shown s (Err r) = []

unfoldable pub lookup : List ℕ → List ℕ → List ℕ
lookup s name = shown s (find s name)

-- the bytes of an item that is written: type, name size, name, value size, value
unfoldable pub item_bytes : ℕ → List ℕ → List ℕ → List ℕ
item_bytes kind name value = kind ∷ le_bytes 4 (length name) ++ name ++ le_bytes 4 (length value) ++ value
