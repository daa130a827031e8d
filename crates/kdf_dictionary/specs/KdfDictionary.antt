-- What a KDF dictionary asks for: document 01, "Header"; document 02, Items 3 and 6.
--
--   "The KDF dictionary then needs `$UUID` (42, 16 bytes), else 10; a listed KDF, else 9"    uuid_of, listed_as
--   "`S` (42, 32 bytes) and `R` (05), else 10; R within the limit, else 11"; "Reader and
--    writer shall turn away fewer than 6,000 rounds .. 20, directly after 11"                aes_kdf_of
--   "Items: V (UInt32), S (bytes), I and M (UInt64), P (UInt32)"                             argon2_items
--   "10 for an absent or wrongly typed item"                                                 complete
--   "then 9 for another V or an item K or A"                                                 argon2_listed
--   "then 22 for a figure outside"                                                           argon2_figures
--   "Any fault is 10; .. 6", before all that                                                 kdf_in, kdf_of
--   document 02, Item 8: "the first byte .. of the dictionary item at fault"; "too little
--    M for P, checked last, points to M"                                                    fault_at, outside
-- "Other items are allowed": AES-KDF's dictionary may hold items named `K` or `A`.
-- The items are looked at in the order `$UUID`, `S`, `R`; `$UUID`, `V`, `S`, `I`, `M`, `P`, then `V`, `K`, `A`, then
-- `S`, `I`, `M`, `P`.
-- An item that is absent or of another type has the place 0, where no item's value stands, and no bytes.
-- Places are those of the file: `p` is where the dictionary stands in it.
-- Not here: dictionaries themselves (crate dictionary), those that are written (Kdf), the bounds (refusals, Limits).
-- Assumes nothing.
use Rattle.std.specs.Prelude.{Bool, true, false, cond, not, ◌&&◌, List, ℕ, ◌+◌, ◌-◌, eqb, leb, length, Result, Ok, Err, Option, Some, None}
use Rattle.words.specs.Endian.{le}
use Rattle.slices.specs.Same.{same}
use Rattle.refusals.specs.declared.Refusal.TheVariants.{Repeated, Unlisted, BrokenDictionary, TooManyRounds, TooFewRounds, FigureOutside}
use Rattle.refusals.specs.Limits.{rounds_limit, rounds_least, salt_fits, passes_fit, memory_fits, lanes_fit, argon2_fits}
use Rattle.fields.specs.Fields.{bytes_at, nowhere, given}
use Rattle.fields.specs.declared.Place.{Place}
use Rattle.dictionary.specs.Dictionary.{verdict, search_from}
use Rattle.dictionary.specs.declared.Fault.TheVariants as fault
use Rattle.dictionary.specs.declared.Fault.{Fault}
use Rattle.dictionary.specs.declared.Value.{Value}
use Rattle.kdf_dictionary.specs.Kdf.{
  aes_kdf_uuid,
  argon2d_uuid,
  argon2id_uuid,
  uuid_name,
  salt_name,
  rounds_name,
  version_name,
  passes_name,
  memory_name,
  lanes_name,
  secret_name,
  associated_name,
}
use Rattle.kdf_dictionary.specs.declared.Argon2.{Argon2}
use Rattle.kdf_dictionary.specs.declared.Kdf.{Kdf}
use Rattle.kdf_dictionary.specs.declared.Kdf.TheVariants as kdf
use Rattle.kdf_dictionary.specs.declared.Variant.{Variant}
use Rattle.kdf_dictionary.specs.declared.Variant.TheVariants as variant
use Rattle.kdf_dictionary.specs.declared.Listed.{Listed}
use Rattle.kdf_dictionary.specs.declared.Listed.TheVariants as listed
use Rattle.kdf_dictionary.specs.declared.Items.{Items}
use Rattle.refusals.specs.declared.Refusal.{Refusal}

-- what a search in a sound dictionary finds
abbrev pub searched : List ℕ → List ℕ → Result (Option Value) Refusal
searched d name = search_from (length d) d 2 name

-- the place of what is found, where it has the type
unfoldable pub typed_in : ℕ → Result (Option Value) Refusal → Place
typed_in kind (Err r) = nowhere
typed_in kind (Ok None) = nowhere
typed_in kind (Ok (Some v)) = cond (eqb v.kind kind) (record { start = v.start; length = v.length }) nowhere

-- the item of a name and a type in a sound dictionary: where its value stands
abbrev pub item_of : List ℕ → List ℕ → ℕ → Place
item_of d name kind = typed_in kind (searched d name)

unfoldable pub is_found : Result (Option Value) Refusal → Bool
is_found (Err r) = false
is_found (Ok None) = false
is_found (Ok (Some v)) = true

-- an item of a name, of whatever type
abbrev pub has_item : List ℕ → List ℕ → Bool
has_item d name = is_found (searched d name)

-- a place of the dictionary, in the file
abbrev pub place_in : Place → Place → Place
place_in p q = record { start = p.start + q.start; length = q.length }

-- document 02, Item 8: "the first byte .. of the dictionary item at fault", nine bytes and the name before its value;
-- "a dictionary fault that belongs to no item points to where the dictionary's value begins"
unfoldable pub fault_in : Place → List ℕ → Result (Option Value) Refusal → ℕ
fault_in p name (Ok (Some v)) = p.start + (v.start - (9 + length name))
fault_in p name (Ok None) = p.start
fault_in p name (Err r) = p.start

-- where the item of a name begins in the file, or the dictionary where there is none
abbrev pub fault_at : List ℕ → Place → List ℕ → ℕ
fault_at d p name = fault_in p name (searched d name)

-- AES-KDF: `S` of type 42, 32 bytes; `R` of type 05, within the limit (11) and no less than the least (20)
unfoldable pub aes_kdf_in : List ℕ → Place → Place → Place → Result Kdf Refusal
aes_kdf_in d p q r =
    cond (eqb q.length 32)
    (cond (given r)
    (cond (leb (le 8 d r.start) rounds_limit)
    (cond (leb rounds_least (le 8 d r.start))
    (Ok (kdf.AesKdf (record { seed = place_in p q; rounds = le 8 d r.start })))
    (Err (TooFewRounds (fault_at d p rounds_name))))
    (Err (TooManyRounds (fault_at d p rounds_name))))
    (Err (BrokenDictionary (fault_at d p rounds_name))))
    (Err (BrokenDictionary (fault_at d p salt_name)))

unfoldable pub aes_kdf_of : List ℕ → Place → Result Kdf Refusal
aes_kdf_of d p = aes_kdf_in d p (item_of d salt_name 0x42) (item_of d rounds_name 0x05)

-- Argon2: where the values of its items stand
unfoldable pub argon2_items : List ℕ → Items
argon2_items d =
    record {
      version = item_of d version_name 0x04;
      salt = item_of d salt_name 0x42;
      passes = item_of d passes_name 0x05;
      memory = item_of d memory_name 0x05;
      lanes = item_of d lanes_name 0x04;
    }

-- all items present and rightly typed
unfoldable pub complete : Items → Bool
complete i =
    given i.version && (given i.salt && (given i.passes && (given i.memory && given i.lanes)))

-- .. or the name of the first that is not
unfoldable pub incomplete : Items → List ℕ
incomplete i =
    cond (given i.version)
    (cond (given i.salt)
    (cond (given i.passes)
    (cond (given i.memory) lanes_name memory_name) passes_name) salt_name) version_name

-- "V 0x13", and neither an item `K` nor an item `A`
unfoldable pub argon2_listed : List ℕ → Place → Bool
argon2_listed d version =
    eqb (le 4 d version.start) 0x13 && (not (has_item d secret_name) && not (has_item d associated_name))

-- .. or the name of the first that is at fault: `V`, `K`, `A`
unfoldable pub unlisted : List ℕ → Place → List ℕ
unlisted d version =
    cond (eqb (le 4 d version.start) 0x13) (cond (has_item d secret_name) secret_name associated_name) version_name

abbrev pub argon2_kdf : Variant → Argon2 → Kdf
argon2_kdf variant.D a = kdf.Argon2d a
argon2_kdf variant.Id a = kdf.Argon2id a

-- the name of the first figure outside its bounds; "too little M for P, checked last, points to M"
unfoldable pub outside : ℕ → ℕ → ℕ → ℕ → List ℕ
outside salt passes memory lanes =
    cond (salt_fits salt)
    (cond (passes_fit passes)
    (cond (memory_fits memory)
    (cond (lanes_fit lanes) memory_name lanes_name) memory_name) passes_name) salt_name

-- the figures within their bounds
unfoldable pub argon2_figures : List ℕ → Place → Variant → Items → Result Kdf Refusal
argon2_figures d p v i =
    cond
    (argon2_fits i.salt.length (le 8 d i.passes.start) (le 8 d i.memory.start) (le 4 d i.lanes.start))
    (Ok (argon2_kdf v
    (record {
      salt = place_in p i.salt;
      passes = le 8 d i.passes.start;
      memory = le 8 d i.memory.start;
      lanes = le 4 d i.lanes.start;
    })))
    (Err (FigureOutside
    (fault_at d p
    (outside i.salt.length (le 8 d i.passes.start) (le 8 d i.memory.start) (le 4 d i.lanes.start)))))

unfoldable pub argon2_in : List ℕ → Place → Variant → Items → Result Kdf Refusal
argon2_in d p v i =
    cond (complete i)
    (cond (argon2_listed d i.version) (argon2_figures d p v i)
    (Err (Unlisted (fault_at d p (unlisted d i.version)))))
    (Err (BrokenDictionary (fault_at d p (incomplete i))))

-- a listed KDF
unfoldable pub listed_as : List ℕ → Listed
listed_as id =
    cond (same id aes_kdf_uuid) listed.AesKdf
    (cond (same id argon2d_uuid) (listed.Argon2 variant.D)
    (cond (same id argon2id_uuid) (listed.Argon2 variant.Id) listed.Unlisted))

unfoldable pub listed_in : List ℕ → Place → Listed → Result Kdf Refusal
listed_in d p listed.Unlisted = Err (Unlisted (fault_at d p uuid_name))
listed_in d p listed.AesKdf = aes_kdf_of d p
listed_in d p (listed.Argon2 v) = argon2_in d p v (argon2_items d)

-- `$UUID` of type 42, 16 bytes
unfoldable pub uuid_in : List ℕ → Place → Place → Result Kdf Refusal
uuid_in d p q = cond (eqb q.length 16) (listed_in d p (listed_as (bytes_at d q)))
    (Err (BrokenDictionary (fault_at d p uuid_name)))

unfoldable pub uuid_of : List ℕ → Place → Result Kdf Refusal
uuid_of d p = uuid_in d p (item_of d uuid_name 0x42)

-- the whole dictionary is walked before its items are looked at
unfoldable pub kdf_in : List ℕ → Place → Result Unit Fault → Result Kdf Refusal
kdf_in d p (Err (fault.Broken at)) = Err (BrokenDictionary (p.start + at))
kdf_in d p (Err (fault.Repeated at)) = Err (Repeated (p.start + at))
kdf_in d p (Ok tt) = uuid_of d p

-- the KDF that the dictionary at a place of a file asks for
unfoldable pub kdf_of : List ℕ → Place → Result Kdf Refusal
kdf_of s p = kdf_in (bytes_at s p) p (verdict (bytes_at s p))
