-- Document 02, Item 8: where an item of a dictionary begins, and which item, or none, is at fault.
--
--   "Item: type, name size, name, value size, value" (document 01)      SoundItem, ComeTo, ItemAt, ItemOf
--   "the first byte .. of the dictionary item at fault"                 ItemAgain (6), FaultAt, NeedAt (10)
--   "A dictionary fault that belongs to no item points to where the
--    dictionary's value begins"                                         FaultAt, NeedAt: the place 0
--   the items that a KDF dictionary needs, in documents 01 and 02       Names, Needed, Typed
--   .. and their figures (9, 11, 20, 22)                                NoKdf .. LittleMemory
-- Places are those of the dictionary. Where an item begins is said by sizes alone, from the front on: the readers'
-- walks and searches are not cited.
-- Not here: the fields of a header, and the refusals (Begins).
-- Assumes nothing.
use Rattle.std.specs.Prelude.{◌≡◌, true, false, List, ℕ, ◌+◌, ◌*◌, ◌≤◌, ◌<◌, length, get_or, take, drop, Some}
use Rattle.words.specs.Endian.{le}
use Rattle.words.specs.Size.{int32}
use Rattle.refusals.specs.Limits.{rounds_limit, rounds_least, salt_fits, passes_fit, memory_fits, lanes_fit}
use Rattle.fields.specs.Fields.{fits}
use Rattle.fields.specs.declared.SizeRule.{SizeRule}
use Rattle.fields.specs.declared.SizeRule.TheVariants.{Any, Exactly}
use Rattle.dictionary.specs.Dictionary.{size_fits_type}
use Rattle.kdf_dictionary.specs.Kdf.{
  aes_kdf_uuid,
  argon2d_uuid,
  argon2id_uuid,
  uuid_name,
  salt_name,
  rounds_name,
  version_name,
  passes_name,
  memory_name,
  lanes_name,
}

-- a sound item stands at a place of a dictionary: type, name size, name, value size and value are there, and the size
-- fits the type
pub record SoundItem (d : List ℕ) (at : ℕ) : Type 0 where
  pub name_size : ℕ
  pub value_size : ℕ
  pub name_is : int32 (le 4 d (at + 1)) ≡ Some name_size
  pub value_is : int32 (le 4 d (at + 5 + name_size)) ≡ Some value_size
  pub within : at + 9 + name_size + value_size ≤ length d
  pub fits_type : size_fits_type (get_or d at 0) value_size ≡ true

-- the items of a dictionary come to a place: behind the version, and behind each sound item
pub data ComeTo (d : List ℕ) : ℕ → Type 0 where
  front : ComeTo d 2
  behind : (at : ℕ) → ComeTo d at → (i : SoundItem d at) → ComeTo d (at + 9 + i.name_size + i.value_size)

-- an item begins there, sound or not: a type, which is not the closing byte 0
pub record ItemAt (d : List ℕ) (at : ℕ) : Type 0 where
  pub comes : ComeTo d at
  pub type_some : 0 < get_or d at 0

-- the item of a name begins at a place
pub record ItemOf (name d : List ℕ) (at : ℕ) : Type 0 where
  pub begins : ItemAt d at
  pub size_is : int32 (le 4 d (at + 1)) ≡ Some (length name)
  pub name_is : take (length name) (drop (at + 5) d) ≡ name

-- an item begins at a place, and one of the same name before it
pub record ItemAgain (d : List ℕ) (at : ℕ) : Type 0 where
  pub name : List ℕ
  pub begins : ItemOf name d at
  pub before : ℕ
  pub before_lt : before < at
  pub former : ItemOf name d before

-- the item of a name begins at a place, and F holds: of the dictionary, where the item's value begins, and its size
pub record ItemWith (name : List ℕ) (F : List ℕ → ℕ → ℕ → Type 0) (d : List ℕ) (at : ℕ) : Type 0 where
  pub item : ItemOf name d at
  pub sound : SoundItem d at
  pub holds : F d (at + 9 + length name) sound.value_size

-- where a fault of a dictionary is: at an item that is not sound, or, where it belongs to no item, at the front. The
-- high byte of the version is not 1; or the items end, and no closing byte stands there that is the last
pub data FaultAt (d : List ℕ) : ℕ → Type 0 where
  item : (at : ℕ) → ItemAt d at → (SoundItem d at → ⊥) → FaultAt d at
  version : (get_or d 1 0 ≡ 1 → ⊥) → FaultAt d 0
  unclosed : (at : ℕ) → ComeTo d at → get_or d at 0 ≡ 0 → (at + 1 ≡ length d → ⊥) → FaultAt d 0

-- the KDFs, and a dictionary that names one: the value of `$UUID`
pub data AesKdfId : List ℕ → Type 0 where
  with_aes_kdf : AesKdfId aes_kdf_uuid

pub data Argon2Id : List ℕ → Type 0 where
  argon2d : Argon2Id argon2d_uuid
  argon2id : Argon2Id argon2id_uuid

pub record Names (K : List ℕ → Type 0) (d : List ℕ) : Type 0 where
  pub at : ℕ
  pub uuid : ItemWith uuid_name (λ (e : List ℕ) (v n : ℕ). K (take n (drop v e))) d at

-- the items that a KDF dictionary needs: name, type, and which sizes are right
pub data Needed (d : List ℕ) : List ℕ → ℕ → SizeRule → Type 0 where
  uuid : Needed d uuid_name 0x42 (Exactly 16)
  aes_salt : Names AesKdfId d → Needed d salt_name 0x42 (Exactly 32)
  aes_rounds : Names AesKdfId d → Needed d rounds_name 0x05 Any
  version : Names Argon2Id d → Needed d version_name 0x04 Any
  salt : Names Argon2Id d → Needed d salt_name 0x42 Any
  passes : Names Argon2Id d → Needed d passes_name 0x05 Any
  memory : Names Argon2Id d → Needed d memory_name 0x05 Any
  lanes : Names Argon2Id d → Needed d lanes_name 0x04 Any

-- the item at a place has a type, and a value of a right size
pub record Typed (d : List ℕ) (at kind : ℕ) (rule : SizeRule) : Type 0 where
  pub sound : SoundItem d at
  pub kind_is : get_or d at 0 ≡ kind
  pub size_fits : fits rule sound.value_size ≡ true

-- where a needed item is at fault: at the item, which has another type or size, or at the front, where no item has the
-- name
pub data NeedAt (d : List ℕ) : ℕ → Type 0 where
  wrong : (name : List ℕ) (kind : ℕ) (rule : SizeRule) (at : ℕ) → Needed d name kind rule → ItemOf name d at
      → (Typed d at kind rule → ⊥)
      → NeedAt d at
  none : (name : List ℕ) (kind : ℕ) (rule : SizeRule) → Needed d name kind rule → ((at : ℕ) → ItemOf name d at → ⊥)
      → NeedAt d 0

-- what else is at fault in an item of a KDF dictionary d, whose value begins at v and has n bytes
abbrev pub NoKdf : List ℕ → ℕ → ℕ → Type 0
NoKdf d v n = (AesKdfId (take n (drop v d)) → ⊥) × (Argon2Id (take n (drop v d)) → ⊥)

abbrev pub NotVersion : List ℕ → ℕ → ℕ → Type 0
NotVersion d v n = le 4 d v ≡ 0x13 → ⊥

abbrev pub ManyRounds : List ℕ → ℕ → ℕ → Type 0
ManyRounds d v n = rounds_limit < le 8 d v

abbrev pub FewRounds : List ℕ → ℕ → ℕ → Type 0
FewRounds d v n = le 8 d v < rounds_least

abbrev pub SaltOutside : List ℕ → ℕ → ℕ → Type 0
SaltOutside d v n = salt_fits n ≡ false

abbrev pub PassesOutside : List ℕ → ℕ → ℕ → Type 0
PassesOutside d v n = passes_fit (le 8 d v) ≡ false

abbrev pub MemoryOutside : List ℕ → ℕ → ℕ → Type 0
MemoryOutside d v n = memory_fits (le 8 d v) ≡ false

abbrev pub LanesOutside : List ℕ → ℕ → ℕ → Type 0
LanesOutside d v n = lanes_fit (le 4 d v) ≡ false

-- "too little M for P": the lanes ask for more memory than stands at v
pub record LittleMemory (d : List ℕ) (v n : ℕ) : Type 0 where
  pub at : ℕ
  pub lanes : ItemWith lanes_name (λ (e : List ℕ) (w k : ℕ). le 8 d v < 8_192 * le 4 e w) d at
