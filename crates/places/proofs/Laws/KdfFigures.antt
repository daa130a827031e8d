-- The places of 9 and 22 in a KDF dictionary, which is the value of a field at p.
--
-- In order:
--   named_item, kdf_item, given_points    an item at the place of its fault, and what holds of its value
--   salt_of .. lanes_of                     Argon2's figures
--   outside_points                        a figure outside (22)
--   unlisted_points                       another V, or an item `K` or `A` (9)
-- Not here: the items (KdfItems); the other places (KdfAt).
-- Assumes nothing.
use mathlib.Core.Path.{◌≡◌, refl, sym, subst}
use mathlib.Core.Bool.{Bool, true, false, not, ◌&&◌, false≢true}
use mathlib.Core.List.{List}
use Prim.Native.Nat.{ℕ, ◌+◌, ◌-◌, ◌*◌, ◌<◌}
use native.Mathlib.Omega.{arith}
use lib.Dec.{eqb}
use lib.ListN.{length}
use borrow.Author.Tests.{eqb-false, leb-false}
use Rattle.words.specs.Endian.{le}
use Rattle.words.proofs.Laws.Cases.{by_bool}
use Rattle.refusals.specs.Limits.{salt_fits, passes_fit, memory_fits, lanes_fit, argon2_fits}
use Rattle.refusals.specs.declared.Refusal.TheVariants.{Unlisted, FigureOutside}
use Rattle.fields.specs.Fields.{bytes_at, given}
use Rattle.fields.specs.declared.Place.{Place}
use Rattle.std.specs.Prelude.{Option, Some, None, Result, Ok, Err}
use Rattle.dictionary.specs.declared.Value.{Value}
use Rattle.refusals.specs.declared.Refusal.{Refusal}
use Rattle.kdf_dictionary.specs.Kdf.{
  salt_name,
  version_name,
  passes_name,
  memory_name,
  lanes_name,
  secret_name,
  associated_name,
}
use Rattle.kdf_dictionary.specs.KdfDictionary.{
  searched,
  item_of,
  is_found,
  has_item,
  fault_in,
  fault_at,
  argon2_listed,
  unlisted,
  outside,
}
use Rattle.places.specs.Begins.{InValue, PointsTo}
use Rattle.places.specs.Items.{
  ItemOf,
  ItemWith,
  NotVersion,
  SaltOutside,
  PassesOutside,
  MemoryOutside,
  LanesOutside,
  LittleMemory,
}
use Rattle.places.proofs.Laws.FieldsAt.{Met, in_value}
use Rattle.places.proofs.Laws.ItemsAt.{FoundSays, searched_begins}
use Rattle.places.proofs.Laws.KdfItems.{GivenItem, given_item, item_with, Complete}

-- Argon2's figures
abbrev pub salt_of : List ℕ → ℕ
salt_of d = (item_of d salt_name 0x42).length

abbrev pub passes_of : List ℕ → ℕ
passes_of d = le 8 d (item_of d passes_name 0x05).start

abbrev pub memory_of : List ℕ → ℕ
memory_of d = le 8 d (item_of d memory_name 0x05).start

abbrev pub lanes_of : List ℕ → ℕ
lanes_of d = le 4 d (item_of d lanes_name 0x04).start

-- of the names that Argon2's dictionary may not have, one is there
not_neither : (a : Bool) → (true && (not false && not a)) ≡ false → a ≡ true
not_neither true e = refl
not_neither false e = absurd (false≢true (sym e))

-- too little memory for the lanes
little_memory : (d : List ℕ) → given (item_of d lanes_name 0x04) ≡ true → (v n : ℕ)
    → le 8 d v < 8_192 * lanes_of d
    → LittleMemory d v n
little_memory d e v n h =
    let g = given_item d lanes_name 0x04 e in
    record {
      at = g.at;
      lanes =
          item_with d lanes_name (item_of d lanes_name 0x04) (searched d lanes_name)
          (λ (c : List ℕ) (w k : ℕ). le 8 d v < 8_192 * le 4 c w) g h;
    }

module _ (s : List ℕ) (p : Place) (m : Met s 12 11 p) where
  fault_item : (name : List ℕ) (f : Result (Option Value) Refusal) → FoundSays (bytes_at s p) name f → is_found f ≡ true
      → InValue (ItemOf name) s 11 (fault_in p name f)
  unfolding fault_in is_found
  fault_item name (Ok (Some v)) h e =
      in_value s 11 p (ItemOf name) (v.start - (9 + length name)) m
      (subst (ItemOf name (bytes_at s p)) (omega (arith, h.start_is)) h.item)
  fault_item name (Ok None) h e = absurd (false≢true e)
  fault_item name (Err r) h e = absurd (false≢true e)

  named_item : (name : List ℕ) → has_item (bytes_at s p) name ≡ true
      → InValue (ItemOf name) s 11 (fault_at (bytes_at s p) p name)
  named_item name e =
      fault_item name (searched (bytes_at s p) name) (searched_begins (bytes_at s p) name) e

  pub kdf_item : (name : List ℕ) (q : Place) (f : Result (Option Value) Refusal) (F : List ℕ → ℕ → ℕ → Type 0)
      → GivenItem (bytes_at s p) name q f
      → F (bytes_at s p) q.start q.length
      → InValue (ItemWith name F) s 11 (fault_in p name f)
  kdf_item name q f F g h =
      subst (InValue (ItemWith name F) s 11) (g.fault_is p)
      (in_value s 11 p (ItemWith name F) g.at m (item_with (bytes_at s p) name q f F g h))

  pub given_points : (name : List ℕ) (kind : ℕ) (F : List ℕ → ℕ → ℕ → Type 0)
      → given (item_of (bytes_at s p) name kind) ≡ true
      → F (bytes_at s p) (item_of (bytes_at s p) name kind).start (item_of (bytes_at s p) name kind).length
      → InValue (ItemWith name F) s 11 (fault_at (bytes_at s p) p name)
  given_points name kind F e h =
      let d = bytes_at s p in
      kdf_item name (item_of d name kind) (searched d name) F (given_item d name kind e) h

  pub outside_points : Complete (bytes_at s p)
      → argon2_fits (salt_of (bytes_at s p)) (passes_of (bytes_at s p)) (memory_of (bytes_at s p)) (lanes_of (bytes_at s p))
      ≡ false
      → PointsTo s (FigureOutside (fault_at (bytes_at s p) p
      (outside (salt_of (bytes_at s p)) (passes_of (bytes_at s p)) (memory_of (bytes_at s p)) (lanes_of (bytes_at s p)))))
  unfolding outside argon2_fits
  outside_points c =
      let d = bytes_at s p in
      by_bool (salt_fits (salt_of d))
      (λ t. by_bool (passes_fit (passes_of d))
      (λ u. by_bool (memory_fits (memory_of d))
      (λ v. by_bool (lanes_fit (lanes_of d))
      (λ w. rw (t, u, v, w) (λ e. PointsTo.little_memory _ (given_points memory_name 0x05 LittleMemory c.memory
      (little_memory d c.lanes (item_of d memory_name 0x05).start (item_of d memory_name 0x05).length
      (leb-false (8_192 * lanes_of d) (memory_of d) e)))))
      (λ w. rw (t, u, v, w) (λ e. PointsTo.lanes _ (given_points lanes_name 0x04 LanesOutside c.lanes w))))
      (λ v. rw (t, u, v) (λ e. PointsTo.memory _ (given_points memory_name 0x05 MemoryOutside c.memory v))))
      (λ u. rw (t, u) (λ e. PointsTo.passes _ (given_points passes_name 0x05 PassesOutside c.passes u))))
      (λ t. rw t (λ e. PointsTo.salt _ (given_points salt_name 0x42 SaltOutside c.salt t)))

  pub unlisted_points : Complete (bytes_at s p)
      → argon2_listed (bytes_at s p) (item_of (bytes_at s p) version_name 0x04) ≡ false
      → PointsTo s (Unlisted (fault_at (bytes_at s p) p (unlisted (bytes_at s p) (item_of (bytes_at s p) version_name 0x04))))
  unfolding unlisted argon2_listed
  unlisted_points c =
      let d = bytes_at s p in
      let version = le 4 d (item_of d version_name 0x04).start in
      by_bool (eqb version 0x13)
      (λ t. by_bool (has_item d secret_name)
      (λ u. rw (t, u) (λ e. PointsTo.argon2_secret _ (named_item secret_name u)))
      (λ u. rw (t, u) (λ e. PointsTo.argon2_associated _
      (named_item associated_name (not_neither (has_item d associated_name) e)))))
      (λ t. rw t (λ e. PointsTo.argon2_version _
      (given_points version_name 0x04 NotVersion c.version (eqb-false version 0x13 t))))
