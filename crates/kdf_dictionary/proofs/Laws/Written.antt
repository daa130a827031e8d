-- A dictionary that is written is sound, and each of its items is found.
--
-- In order:
--   Part, IsSound                    an item to be written: its type fits, and its lengths are sizes
--   joined                           items one behind the other, and then the last byte
--   entry_at_item, entry_at_end        what the reader meets
--   found_from, search_from-joined     what a search finds
--   Fresh, verdict-joined            where no name comes twice the dictionary is sound
--   sizes, value-joined, le-joined   an item's value, and its number
-- Not here: dictionaries that are read (crate dictionary).
-- Assumes nothing.
use mathlib.Core.Path.{◌≡◌, refl, sym, ap, ap₂, ◌∙◌}
use mathlib.Core.Bool.{Bool, true, false, cond}
use mathlib.Core.List.{List, [], ◌∷◌, ◌++◌, append_assoc, append-nil}
use Prim.Native.Nat.{ℕ, ◌+◌, ◌-◌, ◌%◌, ◌^◌, ◌≤◌, ◌<◌}
use native.Mathlib.Nat.{add-zero, mod-eq_of_lt}
use native.Mathlib.Omega.{arith}
use lib.ListN.{length, get_or, take, drop, length-append}
use lib.Seq.{get_or-append_seam, drop-append_seam, take-append_seam}
use borrow.Author.Tests.{lt-leb, le-ltb, lt-ltb, ne_eqb}
use Rattle.words.specs.Endian.{le, le_bytes}
use Rattle.words.specs.Size.{int32}
use Rattle.std.specs.Prelude.{Some, None, Ok, Option, Result}
use Rattle.words.proofs.Laws.Endian.{length-le_bytes, le-le_bytes, le-drop, le-take}
use Rattle.slices.specs.Same.{same}
use Rattle.fields.specs.Fields.{field_bytes}
use Rattle.fields.proofs.Laws.Written.{id_written, size_written, bytes_at_written, length-field_bytes, le_inside}
use Rattle.dictionary.specs.declared.Item.{Item}
use Rattle.dictionary.specs.declared.Value.{Value}
use Rattle.refusals.specs.declared.Refusal.{Refusal}
use Rattle.dictionary.specs.Dictionary.{size_fits_type, value_at, name_at, entry_at, name_of, next, named_in, named, walk_in, walk, verdict, search_in, search_from, item_bytes}
use Rattle.dictionary.proofs.Laws.Walk.{named_past, named_more, walk_more, search_from_more}
use Rattle.kdf_dictionary.proofs.Laws.Layout.{length-item_bytes}

-- an item to be written
pub record Part : Type 0 where
  pub kind : ℕ
  pub name : List ℕ
  pub value : List ℕ

pub record IsSound (i : Part) : Type 0 where
  pub kind_is : i.kind ≡ 0 → ⊥
  pub name_small : length i.name < 2 ^ 31
  pub value_small : length i.value < 2 ^ 31
  pub fits : size_fits_type i.kind (length i.value) ≡ true

abbrev pub bytes_of : Part → List ℕ
bytes_of i = item_bytes i.kind i.name i.value

-- how many bytes an item has
abbrev pub size_of : Part → ℕ
size_of i = 9 + length i.name + length i.value

unfoldable pub AllSound : List Part → Type 0
AllSound [] = Unit
AllSound (i ∷ is) = IsSound i × AllSound is

-- items one behind the other, and then the last byte
unfoldable pub joined : List Part → List ℕ
joined [] = 0x00 ∷ []
joined (i ∷ is) = bytes_of i ++ joined is

-- the item that the reader meets
abbrev item_here : ℕ → Part → Item
item_here at i =
    record {
      kind = i.kind;
      name = at + 5;
      name_len = length i.name;
      value = at + 5 + length i.name + 4;
      value_len = length i.value;
    }

module _ (before : List ℕ) (i : Part) (after : List ℕ) (h : IsSound i) where
  abbrev whole : List ℕ
  whole = before ++ (bytes_of i ++ after)

  abbrev front : List ℕ
  front = i.kind ∷ le_bytes 4 (length i.name) ++ i.name

  abbrev size : List ℕ
  size = le_bytes 4 (length i.value)

  -- the item as a field of its name, and as a field of its value behind it
  as_name : whole ≡ before ++ field_bytes i.kind i.name ++ (le_bytes 4 (length i.value) ++ (i.value ++ after))
  unfolding item_bytes field_bytes
  as_name =
      ap (λ (x : List ℕ). before ++ x)
      (append_assoc (front ++ size) i.value after ∙ append_assoc front size (i.value ++ after))
      ∙ sym (append_assoc before front (size ++ (i.value ++ after)))

  as_value : whole ≡ before ++ field_bytes i.kind i.name ++ le_bytes 4 (length i.value) ++ (i.value ++ after)
  as_value = as_name ∙ sym (append_assoc (before ++ field_bytes i.kind i.name) size (i.value ++ after))

  kind_here : get_or whole (length before) 0 ≡ i.kind
  kind_here =
      ap (λ (s : List ℕ). get_or s (length before) 0) as_name
      ∙ id_written before i.kind i.name (le_bytes 4 (length i.value) ++ (i.value ++ after))

  name_size : int32 (le 4 whole (length before + 1)) ≡ Some (length i.name)
  name_size =
      ap (λ (s : List ℕ). int32 (le 4 s (length before + 1))) as_name
      ∙ size_written before i.kind i.name (le_bytes 4 (length i.value) ++ (i.value ++ after)) h.name_small

  pub name_here : take (length i.name) (drop (length before + 5) whole) ≡ i.name
  name_here =
      ap (λ (s : List ℕ). take (length i.name) (drop (length before + 5) s)) as_name
      ∙ bytes_at_written before i.kind i.name (le_bytes 4 (length i.value) ++ (i.value ++ after))

  -- .. and its value behind that
  pub value_here : take (length i.value) (drop (length before + 5 + length i.name + 4) whole) ≡ i.value
  value_here =
      let n : length before + 5 + length i.name + 4 ≡ length (before ++ field_bytes i.kind i.name ++ size) =
      rw (length-append, length-append, length-field_bytes, length-le_bytes) (omega arith) in
      ap₂ (λ (s : List ℕ) (a : ℕ). take (length i.value) (drop a s)) as_value n
      ∙ ap (λ (s : List ℕ). take (length i.value) s)
      (drop-append_seam (before ++ field_bytes i.kind i.name ++ size) (i.value ++ after))
      ∙ take-append_seam i.value after

  value_size : int32 (le 4 whole (length before + 5 + length i.name)) ≡ Some (length i.value)
  unfolding int32
  value_size =
      let m : length i.value % 256 ^ 4 ≡ length i.value = omega (arith, h.value_small) in
      let b : 0 + 4 ≤ length size = rw length-le_bytes (omega arith) in
      let n : length (before ++ field_bytes i.kind i.name) + 0 ≡ length before + 5 + length i.name =
      rw (length-append, length-field_bytes) (omega arith) in
      let e : le 4 whole (length before + 5 + length i.name) ≡ length i.value =
      ap₂ (λ (s : List ℕ) (a : ℕ). le 4 s a) as_value (sym n)
      ∙ le_inside (before ++ field_bytes i.kind i.name) size (i.value ++ after) 4 0 b
      ∙ le-le_bytes 4 (length i.value) ∙ m in
      rw (e, lt-ltb (length i.value) (2 ^ 31) h.value_small)

  length_whole : length whole ≡ length before + size_of i + length after
  length_whole = rw (length-append, length-append, length-item_bytes) (omega arith)

  pub entry_at_item : entry_at whole (length before) ≡ Ok (Some (item_here (length before) i))
  unfolding entry_at name_at value_at
  entry_at_item =
      let l = length_whole in
      let a : length before < length whole = omega arith in
      let b : 5 ≤ length whole - length before = omega arith in
      let c : length i.name + 4 ≤ length whole - (length before + 5) = omega arith in
      let d : length i.value ≤ length whole - (length before + 5 + length i.name + 4) = omega arith in
      rw (
        lt-leb (length whole) (length before) a,
        kind_here,
        ne_eqb i.kind 0 h.kind_is,
        le-ltb _ 5 b,
        name_size,
        le-ltb _ _ c,
        value_size,
        le-ltb _ _ d,
        kind_here,
        h.fits,
      )

pub entry_at_end : (before : List ℕ) → entry_at (before ++ (0x00 ∷ [])) (length before) ≡ Ok None
unfolding entry_at
entry_at_end before =
    let l : length (before ++ (0x00 ∷ [])) ≡ length before + 1 = length-append before (0x00 ∷ []) in
    let a : length before < length (before ++ (0x00 ∷ [])) = omega arith in
    let b : length (before ++ (0x00 ∷ [])) - length before ≡ 1 = omega arith in
    rw (lt-leb _ (length before) a, get_or-append_seam before 0x00 [] 0, b)

-- where an item ends
next_item : (before : List ℕ) (i : Part) → next (item_here (length before) i) ≡ length (before ++ bytes_of i)
next_item before i = rw (length-append, length-item_bytes) (omega arith)

-- what a search among items from a place on finds
unfoldable pub found_from : ℕ → List Part → List ℕ → Result (Option Value) Refusal
found_from at [] name = Ok None
found_from at (i ∷ is) name =
    cond (same i.name name)
    (Ok (Some (record { kind = i.kind; start = at + 5 + length i.name + 4; length = length i.value })))
    (found_from (at + size_of i) is name)

pub search_from-joined : (is : List Part) (before : List ℕ) (k : ℕ) (name : List ℕ) → AllSound is → length is < k
    → search_from k (before ++ joined is) (length before) name ≡ found_from (length before) is name
unfolding AllSound joined found_from search_in
search_from-joined [] before k name h l =
    search_from_more k (before ++ (0x00 ∷ [])) (length before) name (Ok None) (omega arith) (sym (entry_at_end before))
search_from-joined (i ∷ is) before k name h l =
    let s = before ++ (bytes_of i ++ joined is) in
    let m : length (before ++ bytes_of i) ≡ length before + size_of i = rw (length-append, length-item_bytes) (omega arith) in
    let more : search_from (k - 1) s (next (item_here (length before) i)) name ≡ found_from (length before + size_of i) is name =
    ap₂ (λ (x : List ℕ) (n : ℕ). search_from (k - 1) x n name) (sym (append_assoc before (bytes_of i) (joined is)))
    (next_item before i)
    ∙ search_from-joined is (before ++ bytes_of i) (k - 1) name h.1 (omega arith)
    ∙ ap (λ (n : ℕ). found_from n is name) m in
    search_from_more k s (length before) name (Ok (Some (item_here (length before) i))) (omega arith)
    (sym (entry_at_item before i (joined is) h.0))
    ∙ ap₂
    (λ (x : List ℕ) (f : Result (Option Value) Refusal). cond (same x name) (Ok (Some (record { kind = i.kind; start = length before + 5 + length i.name + 4; length = length i.value }))) f)
    (name_here before i (joined is) h.0) more

-- items one behind the other
unfoldable plain : List Part → List ℕ
plain [] = []
plain (i ∷ is) = bytes_of i ++ plain is

-- an item has the name
unfoldable pub any_named : List Part → List ℕ → Bool
any_named [] name = false
any_named (i ∷ is) name = cond (same i.name name) true (any_named is name)

length_plain : (is : List Part) → length is ≤ length (plain is)
unfolding plain
length_plain [] = omega arith
length_plain (i ∷ is) =
    let r = length_plain is in
    rw (length-append, length-item_bytes) (omega arith)

named_plain : (is : List Part) (before rest : List ℕ) (k stop : ℕ) (name : List ℕ) → AllSound is → length is < k
    → stop ≡ length before + length (plain is)
    → named k (before ++ (plain is ++ rest)) (length before) stop name ≡ any_named is name
unfolding AllSound plain any_named named_in
named_plain [] before rest k stop name h l e =
    named_past k (before ++ rest) (length before) stop name (omega arith)
named_plain (i ∷ is) before rest k stop name h l e =
    let n : length (bytes_of i ++ plain is) ≡ size_of i + length (plain is) =
    rw (length-append, length-item_bytes) (omega arith) in
    let m : length (before ++ bytes_of i) ≡ length before + size_of i =
    rw (length-append, length-item_bytes) (omega arith) in
    let w : before ++ (bytes_of i ++ plain is ++ rest) ≡ before ++ (bytes_of i ++ (plain is ++ rest)) =
    ap (λ (x : List ℕ). before ++ x) (append_assoc (bytes_of i) (plain is) rest) in
    let s = before ++ (bytes_of i ++ (plain is ++ rest)) in
    let more : named (k - 1) s (next (item_here (length before) i)) stop name ≡ any_named is name =
    ap₂ (λ (x : List ℕ) (a : ℕ). named (k - 1) x a stop name) (sym (append_assoc before (bytes_of i) (plain is ++ rest)))
    (next_item before i)
    ∙ named_plain is (before ++ bytes_of i) rest (k - 1) stop name h.1 (omega arith) (omega arith) in
    ap (λ (x : List ℕ). named k x (length before) stop name) w
    ∙ named_more k s (length before) stop name (Ok (Some (item_here (length before) i))) (omega arith) (omega arith)
    (sym (entry_at_item before i (plain is ++ rest) h.0))
    ∙ ap₂ (λ (x : List ℕ) (b : Bool). cond (same x name) true b) (name_here before i (plain is ++ rest) h.0) more

-- no name of the items is one of those before it
unfoldable pub Fresh : List Part → List Part → Type 0
Fresh ds [] = Unit
Fresh ds (i ∷ is) = (any_named ds i.name ≡ false) × Fresh (ds ++ (i ∷ [])) is

plain_append : (ds : List Part) (i : Part) → plain (ds ++ (i ∷ [])) ≡ plain ds ++ bytes_of i
unfolding plain
plain_append [] i = append-nil (bytes_of i)
plain_append (d ∷ ds) i =
    ap (λ (x : List ℕ). bytes_of d ++ x) (plain_append ds i) ∙ sym (append_assoc (bytes_of d) (plain ds) (bytes_of i))

sound-append : (ds : List Part) (i : Part) → AllSound ds → IsSound i → AllSound (ds ++ (i ∷ []))
unfolding AllSound
sound-append [] i h k = (k, h)
sound-append (d ∷ ds) i h k = (h.0, sound-append ds i h.1 k)

-- the version, the items before a place, and those from it on
abbrev split : List Part → List Part → List ℕ
split ds is = (0x00 ∷ 0x01 ∷ plain ds) ++ joined is

walk-joined : (is ds : List Part) (k : ℕ) → AllSound ds → AllSound is → Fresh ds is → length is < k
    → walk k (split ds is) (length (0x00 ∷ 0x01 ∷ plain ds)) ≡ Ok tt
unfolding AllSound joined Fresh walk_in
walk-joined [] ds k hd h f l =
    walk_more k (split ds []) (length (0x00 ∷ 0x01 ∷ plain ds)) (Ok None) (omega arith)
    (sym (entry_at_end (0x00 ∷ 0x01 ∷ plain ds)))
walk-joined (i ∷ is) ds k hd h f l =
    let before : List ℕ = 0x00 ∷ 0x01 ∷ plain ds in
    let s : List ℕ = split ds (i ∷ is) in
    let a : ℕ = length before in
    let z = length_plain ds in
    let n : length s ≡ a + length (bytes_of i ++ joined is) = length-append before (bytes_of i ++ joined is) in
    let fresh : named (length s) s 2 a (name_of s (item_here a i)) ≡ false =
    ap (λ (x : List ℕ). named (length s) s 2 a x) (name_here before i (joined is) h.0)
    ∙ named_plain ds (0x00 ∷ 0x01 ∷ []) (bytes_of i ++ joined is) (length s) a i.name hd (omega arith) (omega arith) ∙ f.0 in
    let m : next (item_here a i) ≡ length (0x00 ∷ 0x01 ∷ plain (ds ++ (i ∷ []))) =
    rw (plain_append, length-append, length-item_bytes) (omega arith) in
    let w : s ≡ split (ds ++ (i ∷ [])) is =
    sym (append_assoc before (bytes_of i) (joined is))
    ∙ ap (λ (x : List ℕ). (0x00 ∷ 0x01 ∷ x) ++ joined is) (sym (plain_append ds i)) in
    let more : walk (k - 1) s (next (item_here a i)) ≡ (Ok tt) =
    ap₂ (λ (x : List ℕ) (b : ℕ). walk (k - 1) x b) w m
    ∙ walk-joined is (ds ++ (i ∷ [])) (k - 1) (sound-append ds i hd h.0) h.1 f.1 (omega arith) in
    walk_more k s a (Ok (Some (item_here a i))) (omega arith) (sym (entry_at_item before i (joined is) h.0))
    ∙ rw fresh more

length-joined : (is : List Part) → length is < length (joined is)
unfolding joined
length-joined [] = omega arith
length-joined (i ∷ is) =
    let r = length-joined is in
    rw (length-append, length-item_bytes) (omega arith)

pub verdict-joined : (is : List Part) → AllSound is → Fresh [] is → verdict (0x00 ∷ 0x01 ∷ joined is) ≡ Ok tt
unfolding verdict plain AllSound
verdict-joined is h f =
    let l = length-joined is in
    rw (le-ltb (length (0x00 ∷ 0x01 ∷ joined is)) 3 (omega arith)) (walk-joined is [] (length (0x00 ∷ 0x01 ∷ joined is)) tt h f (omega arith))

pub search_joined : (is : List Part) (name : List ℕ) → AllSound is
    → search_from (length (0x00 ∷ 0x01 ∷ joined is)) (0x00 ∷ 0x01 ∷ joined is) 2 name ≡ found_from 2 is name
search_joined is name h =
    let l = length-joined is in
    search_from-joined is (0x00 ∷ 0x01 ∷ []) (length (0x00 ∷ 0x01 ∷ joined is)) name h (omega arith)

-- how many bytes items have
unfoldable pub sizes : List Part → ℕ
sizes [] = 0
sizes (i ∷ is) = size_of i + sizes is

length-sizes : (is : List Part) → length (plain is) ≡ sizes is
unfolding plain sizes
length-sizes [] = refl
length-sizes (i ∷ is) =
    let r = length-sizes is in
    rw (length-append, length-item_bytes) (omega arith)

joined-append : (ds is : List Part) → joined (ds ++ is) ≡ plain ds ++ joined is
unfolding joined plain
joined-append [] is = refl
joined-append (d ∷ ds) is =
    ap (λ (x : List ℕ). bytes_of d ++ x) (joined-append ds is) ∙ sym (append_assoc (bytes_of d) (plain ds) (joined is))

module _ (ds : List Part) (i : Part) (is : List Part) (h : IsSound i) (at : ℕ)
    (e : at ≡ 2 + sizes ds + (9 + length i.name)) where
  -- the value of an item, behind those before it
  pub value-joined : take (length i.value) (drop at (0x00 ∷ 0x01 ∷ joined (ds ++ (i ∷ is)))) ≡ i.value
  unfolding joined
  value-joined =
      let l = length-sizes ds in
      let n : at ≡ length (0x00 ∷ 0x01 ∷ plain ds) + 5 + length i.name + 4 = omega arith in
      ap₂ (λ (s : List ℕ) (a : ℕ). take (length i.value) (drop a (0x00 ∷ 0x01 ∷ s))) (joined-append ds (i ∷ is)) n
      ∙ value_here (0x00 ∷ 0x01 ∷ plain ds) i (joined is) h

  -- .. as a number of n bytes
  pub le-joined : (n x : ℕ) → i.value ≡ le_bytes n x → x < 256 ^ n
      → le n (0x00 ∷ 0x01 ∷ joined (ds ++ (i ∷ is))) at ≡ x
  le-joined n x v small =
      let s : List ℕ = 0x00 ∷ 0x01 ∷ joined (ds ++ (i ∷ is)) in
      let m : length i.value ≡ n = ap length v ∙ length-le_bytes n x in
      ap (λ (a : ℕ). le n s a) (sym (add-zero at))
      ∙ sym (le-drop at n s 0)
      ∙ sym (le-take n n (drop at s) 0 (omega arith))
      ∙ ap (λ (k : ℕ). le n (take k (drop at s)) 0) (sym m)
      ∙ ap (λ (y : List ℕ). le n y 0) (value-joined ∙ v)
      ∙ le-le_bytes n x ∙ mod-eq_of_lt small
