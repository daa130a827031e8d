-- The items of a KDF dictionary, as its reader finds them.
--
-- In order:
--   GivenItem, given_item, sized_item    an item that is given, or has bytes: where it begins
--   item_with, names                     what holds of its value; the KDF that is named
--   no_aes, no_argon2, aes_id ..         identifiers that are none of the KDFs', and that are
--   Complete, complete_given             all items of Argon2
--   Lacks, found_wrong, ungiven_lacks, unsized_lacks    an item of another type or size
-- Not here: where an item that is found begins (ItemsAt); refusals (KdfAt).
-- Assumes nothing.
use mathlib.Core.Path.{◌≡◌, sym, ap, subst, ◌∙◌}
use mathlib.Core.Bool.{true, false, false≢true}
use mathlib.Core.List.{List}
use Prim.Native.Nat.{ℕ, ◌+◌, ◌<◌}
use native.Mathlib.Omega.{arith}
use lib.Dec.{eqb}
use lib.ListN.{length, take, drop}
use borrow.Author.Tests.{eqb-true, eqb-false, ne_eqb, not-true}
use Rattle.std.specs.Prelude.{Some, Option, None, Result, Ok, Err}
use Rattle.words.proofs.Laws.Cases.{by_bool, and_true}
use Rattle.slices.specs.Same.{same}
use Rattle.slices.proofs.Laws.Same.{same_refl}
use Rattle.fields.specs.Fields.{bytes_at, given, fits}
use Rattle.fields.specs.declared.Place.{Place}
use Rattle.fields.specs.declared.SizeRule.{SizeRule}
use Rattle.fields.specs.declared.SizeRule.TheVariants.{Any, Exactly}
use Rattle.dictionary.specs.declared.Value.{Value}
use Rattle.refusals.specs.declared.Refusal.{Refusal}
use Rattle.kdf_dictionary.specs.Kdf.{
  aes_kdf_uuid,
  argon2d_uuid,
  argon2id_uuid,
  uuid_name,
  salt_name,
  version_name,
  passes_name,
  memory_name,
  lanes_name,
}
use Rattle.kdf_dictionary.specs.KdfDictionary.{searched, typed_in, item_of, fault_in, argon2_items, complete}
use Rattle.places.specs.Items.{SoundItem, ItemOf, ItemWith, AesKdfId, Argon2Id, Names, Typed}
use Rattle.places.proofs.Laws.Sizes.{of_same}
use Rattle.places.proofs.Laws.ItemsAt.{sound-value, FoundItem, FoundSays, searched_begins}

-- an item of a name that is given, with its value at q: where it begins, and so where its fault is
pub record GivenItem (d name : List ℕ) (q : Place) (f : Result (Option Value) Refusal) : Type 0 where
  pub at : ℕ
  pub item : ItemOf name d at
  pub sound : SoundItem d at
  pub start_is : q.start ≡ at + 9 + length name
  pub length_is : q.length ≡ sound.value_size
  pub fault_is : (p : Place) → p.start + at ≡ fault_in p name f

typed_item : (d name : List ℕ) (kind : ℕ) (f : Result (Option Value) Refusal) → FoundSays d name f → 0 < (typed_in kind f).start
    → GivenItem d name (typed_in kind f) f
unfolding typed_in fault_in
typed_item d name kind (Ok (Some v)) h =
    by_bool (eqb v.kind kind)
    (λ t. rw t (λ l. record {
      at = h.at;
      item = h.item;
      sound = h.sound;
      start_is = omega (arith, h.start_is);
      length_is = sym h.size_is;
      fault_is = λ p. omega (arith, h.start_is);
    }))
    (λ t. rw t (λ l. absurd (omega arith)))
typed_item d name kind (Ok None) h = λ l. absurd (omega arith)
typed_item d name kind (Err r) h = λ l. absurd h

pub given_item : (d name : List ℕ) (kind : ℕ) → given (item_of d name kind) ≡ true
    → GivenItem d name (item_of d name kind) (searched d name)
given_item d name kind e =
    let q = item_of d name kind in
    let n = eqb-false q.start 0 (not-true (eqb q.start 0) e) in
    typed_item d name kind (searched d name) (searched_begins d name) (omega (arith, n))

typed-start : (d name : List ℕ) (kind : ℕ) (f : Result (Option Value) Refusal) → FoundSays d name f → 0 < (typed_in kind f).length
    → 0 < (typed_in kind f).start
unfolding typed_in
typed-start d name kind (Ok (Some v)) h =
    by_bool (eqb v.kind kind) (λ t. rw t (λ l. omega (arith, h.start_is))) (λ t. rw t (λ l. absurd (omega arith)))
typed-start d name kind (Ok None) h = λ l. l
typed-start d name kind (Err r) h = λ l. l

pub sized_item : (d name : List ℕ) (kind n : ℕ) → 0 < n → eqb (item_of d name kind).length n ≡ true
    → GivenItem d name (item_of d name kind) (searched d name)
sized_item d name kind n h e =
    let f = searched d name in
    let l : 0 < (item_of d name kind).length = omega (arith, h, eqb-true (item_of d name kind).length n e) in
    typed_item d name kind f (searched_begins d name) (typed-start d name kind f (searched_begins d name) l)

pub item_with : (d name : List ℕ) (q : Place) (f : Result (Option Value) Refusal) (F : List ℕ → ℕ → ℕ → Type 0) (g : GivenItem d name q f)
    → F d q.start q.length
    → ItemWith name F d g.at
item_with d name q f F g h =
    record {
      item = g.item;
      sound = g.sound;
      holds =
          subst (λ (n : ℕ). F d (g.at + 9 + length name) n) g.length_is
          (subst (λ (v : ℕ). F d v q.length) g.start_is h);
    }

pub names : (d : List ℕ) (q : Place) (f : Result (Option Value) Refusal) (K : List ℕ → Type 0) → GivenItem d uuid_name q f → K (bytes_at d q)
    → Names K d
names d q f K g h =
    record { at = g.at; uuid = item_with d uuid_name q f (λ (e : List ℕ) (v n : ℕ). K (take n (drop v e))) g h }

-- an identifier that is none of the KDFs', and one that is
pub no_aes : (id : List ℕ) → same id aes_kdf_uuid ≡ false → AesKdfId id → ⊥
no_aes id e AesKdfId.with_aes_kdf = false≢true (sym e ∙ same_refl aes_kdf_uuid)

pub no_argon2 : (id : List ℕ) → same id argon2d_uuid ≡ false → same id argon2id_uuid ≡ false → Argon2Id id → ⊥
no_argon2 id d e Argon2Id.argon2d = false≢true (sym d ∙ same_refl argon2d_uuid)
no_argon2 id d e Argon2Id.argon2id = false≢true (sym e ∙ same_refl argon2id_uuid)

pub aes_id : (id : List ℕ) → id ≡ aes_kdf_uuid → AesKdfId id
aes_id id e = subst AesKdfId (sym e) AesKdfId.with_aes_kdf

pub argon2d_id : (id : List ℕ) → id ≡ argon2d_uuid → Argon2Id id
argon2d_id id e = subst Argon2Id (sym e) Argon2Id.argon2d

pub argon2id_id : (id : List ℕ) → id ≡ argon2id_uuid → Argon2Id id
argon2id_id id e = subst Argon2Id (sym e) Argon2Id.argon2id

-- all items of Argon2 are given
pub record Complete (d : List ℕ) : Type 0 where
  pub version : given (item_of d version_name 0x04) ≡ true
  pub salt : given (item_of d salt_name 0x42) ≡ true
  pub passes : given (item_of d passes_name 0x05) ≡ true
  pub memory : given (item_of d memory_name 0x05) ≡ true
  pub lanes : given (item_of d lanes_name 0x04) ≡ true

pub complete_given : (d : List ℕ) → complete (argon2_items d) ≡ true → Complete d
unfolding complete argon2_items
complete_given d e =
    let v = and_true (given (item_of d version_name 0x04)) _ e in
    let s = and_true (given (item_of d salt_name 0x42)) _ v.1 in
    let i = and_true (given (item_of d passes_name 0x05)) _ s.1 in
    let m = and_true (given (item_of d memory_name 0x05)) _ i.1 in
    record { version = v.0; salt = s.0; passes = i.0; memory = m.0; lanes = m.1 }

-- an item that is found has another type, or a wrong size
abbrev pub Lacks : ℕ → SizeRule → Result (Option Value) Refusal → Type 0
Lacks kind rule (Ok (Some v)) = v.kind ≡ kind → fits rule v.length ≡ true → ⊥
Lacks kind rule (Ok None) = Unit
Lacks kind rule (Err r) = Unit

pub found_wrong : (d name : List ℕ) (kind : ℕ) (rule : SizeRule) (k start n : ℕ) (h : FoundItem d name k start n)
    → Lacks kind rule (Ok (Some (record { kind = k; start = start; length = n })))
    → Typed d h.at kind rule
    → ⊥
found_wrong d name kind rule k start n h l y =
    let i = h.sound in
    let v : y.sound.value_size ≡ n =
    of_same y.sound.value_size n
    (sym (sound-value d h.at i.name_size (Some i.value_size) y.sound i.name_is i.value_is)
    ∙ ap (λ (j : ℕ). Some j) h.size_is) in
    l (sym h.kind_is ∙ y.kind_is) (subst (λ (j : ℕ). fits rule j ≡ true) v y.size_fits)

given_start : (start n : ℕ) → 0 < start → given (record { start = start; length = n }) ≡ true
given_start start n h = rw (ne_eqb start 0 (λ e. omega arith))

ungiven : (d name : List ℕ) (kind : ℕ) (f : Result (Option Value) Refusal) → FoundSays d name f → given (typed_in kind f) ≡ false
    → Lacks kind Any f
unfolding typed_in
ungiven d name kind (Ok (Some v)) h =
    by_bool (eqb v.kind kind)
    (λ t. rw t (λ e q r. false≢true (sym e ∙ given_start v.start v.length (omega (arith, h.start_is)))))
    (λ t. rw t (λ e q r. eqb-false v.kind kind t q))
ungiven d name kind (Ok None) h = λ e. tt
ungiven d name kind (Err r) h = λ e. tt

pub ungiven_lacks : (d name : List ℕ) (kind : ℕ) → given (item_of d name kind) ≡ false → Lacks kind Any (searched d name)
ungiven_lacks d name kind e = ungiven d name kind (searched d name) (searched_begins d name) e

pub unsized_lacks : (kind m : ℕ) (f : Result (Option Value) Refusal) → eqb (typed_in kind f).length m ≡ false → Lacks kind (Exactly m) f
unfolding typed_in fits
unsized_lacks kind m (Ok (Some v)) =
    by_bool (eqb v.kind kind)
    (λ t. rw t (λ e q r. false≢true (sym e ∙ r)))
    (λ t. rw t (λ e q r. eqb-false v.kind kind t q))
unsized_lacks kind m (Ok None) = λ e. tt
unsized_lacks kind m (Err r) = λ e. tt
