-- What begins at the places of a KDF dictionary that is refused, and of a custom one: the value of a field at p.
--
-- In order:
--   Points, figures_points           what is said of a dictionary; Argon2's figures
--   fault_needed, needed_points      an item that is needed (10)
--   aes_kdf_points, argon2_points, uuid_points    the items of each KDF, and the KDF
--   kdf_of_points, custom_of_points    .. and so every place
-- Not here: the places of 22, and of 9 in Argon2's items (KdfFigures); that the places lie inside the file (Kdf).
-- Assumes nothing.
use mathlib.Core.Path.{◌≡◌, refl, sym, subst}
use mathlib.Core.Bool.{true, false}
use mathlib.Core.List.{List}
use Prim.Native.Nat.{ℕ, ◌+◌, ◌-◌}
use native.Mathlib.Omega.{arith}
use lib.Dec.{eqb, leb}
use lib.ListN.{length}
use borrow.Author.Tests.{leb-false}
use Rattle.words.specs.Endian.{le}
use Rattle.words.proofs.Laws.Cases.{by_bool}
use Rattle.slices.specs.Same.{same}
use Rattle.slices.proofs.Laws.Same.{same_true}
use Rattle.refusals.specs.Limits.{rounds_limit, rounds_least, argon2_fits}
use Rattle.refusals.specs.declared.Refusal.TheVariants.{BrokenDictionary}
use Rattle.refusals.specs.Numbers.{Outcome}
use Rattle.fields.specs.Fields.{bytes_at, given}
use Rattle.fields.specs.declared.Place.{Place}
use Rattle.fields.specs.declared.SizeRule.{SizeRule}
use Rattle.fields.specs.declared.SizeRule.TheVariants.{Any, Exactly}
use Rattle.dictionary.specs.Dictionary.{verdict}
use Rattle.dictionary.specs.declared.Fault.TheVariants as fault
use Rattle.dictionary.specs.declared.Fault.{Fault}
use Rattle.dictionary.specs.declared.Value.{Value}
use Rattle.kdf_dictionary.specs.Kdf.{
  aes_kdf_uuid,
  argon2d_uuid,
  argon2id_uuid,
  uuid_name,
  salt_name,
  rounds_name,
  version_name,
  passes_name,
  memory_name,
  lanes_name,
}
use Rattle.kdf_dictionary.specs.KdfDictionary.{
  searched,
  item_of,
  fault_in,
  fault_at,
  aes_kdf_in,
  aes_kdf_of,
  argon2_items,
  complete,
  incomplete,
  argon2_listed,
  argon2_figures,
  argon2_in,
  listed_as,
  listed_in,
  uuid_in,
  uuid_of,
  kdf_in,
  kdf_of,
}
use Rattle.kdf_dictionary.specs.declared.Variant.{Variant}
use Rattle.kdf_dictionary.specs.declared.Variant.TheVariants as variant
use Rattle.std.specs.Prelude.{Result, Ok, Err, Option, Some, None}
use Rattle.refusals.specs.declared.Refusal.{Refusal}
use Rattle.kdf_dictionary.specs.declared.Kdf.{Kdf}
use Rattle.outer_header.specs.Kdbx4Header.{custom_in, custom_of}
use Rattle.places.specs.Begins.{InValue, PointsTo}
use Rattle.places.specs.Items.{
  ItemAgain,
  FaultAt,
  AesKdfId,
  Argon2Id,
  Names,
  Needed,
  NeedAt,
  NoKdf,
  ManyRounds,
  FewRounds,
}
use Rattle.places.proofs.Laws.FieldsAt.{Met, in_value, in_front}
use Rattle.places.proofs.Laws.ItemsAt.{VerdictSays, verdict_points, FoundSays, searched_begins}
use Rattle.places.proofs.Laws.Missing.{searched_absent}
use Rattle.places.proofs.Laws.KdfItems.{
  GivenItem,
  sized_item,
  names,
  no_aes,
  no_argon2,
  aes_id,
  argon2d_id,
  argon2id_id,
  Complete,
  complete_given,
  Lacks,
  found_wrong,
  ungiven_lacks,
  unsized_lacks,
}
use Rattle.places.proofs.Laws.KdfFigures.{
  kdf_item,
  given_points,
  salt_of,
  passes_of,
  memory_of,
  lanes_of,
  outside_points,
  unlisted_points,
}

-- nothing is said of an accepted dictionary
abbrev pub Points : List ℕ → Result Kdf Refusal → Type 0
Points s (Ok k) = Unit
Points s (Err r) = PointsTo s r

abbrev pub PointsOutcome : List ℕ → Outcome → Type 0
PointsOutcome s (Ok tt) = Unit
PointsOutcome s (Err r) = PointsTo s r

module _ (s : List ℕ) (p : Place) (m : Met s 12 11 p) where
  figures_points : (v : Variant) → Complete (bytes_at s p)
      → Points s (argon2_figures (bytes_at s p) p v (argon2_items (bytes_at s p)))
  unfolding argon2_figures argon2_items
  figures_points v c =
      let d = bytes_at s p in
      by_bool (argon2_fits (salt_of d) (passes_of d) (memory_of d) (lanes_of d))
      (λ t. rw t tt)
      (λ t. rw t (outside_points s p m c t))

  module _ (sound : verdict (bytes_at s p) ≡ Ok tt) where
    fault_needed : (name : List ℕ) (kind : ℕ) (rule : SizeRule) (f : Result (Option Value) Refusal) → Needed (bytes_at s p) name kind rule
        → searched (bytes_at s p) name ≡ f
        → FoundSays (bytes_at s p) name f
        → Lacks kind rule f
        → InValue NeedAt s 11 (fault_in p name f)
    unfolding fault_in
    fault_needed name kind rule (Ok (Some v)) d e h l =
        let b : h.at ≡ v.start - (9 + length name) = omega (arith, h.start_is) in
        in_value s 11 p NeedAt (v.start - (9 + length name)) m
        (subst (NeedAt (bytes_at s p)) b (NeedAt.wrong name kind rule h.at d h.item
        (found_wrong (bytes_at s p) name kind rule v.kind v.start v.length h l)))
    fault_needed name kind rule (Ok None) d e h l =
        in_front s 11 p NeedAt m (NeedAt.none name kind rule d (searched_absent (bytes_at s p) name sound e))
    fault_needed name kind rule (Err r) d e h l = absurd h

    needed_points : (name : List ℕ) (kind : ℕ) (rule : SizeRule) → Needed (bytes_at s p) name kind rule
        → Lacks kind rule (searched (bytes_at s p) name)
        → PointsTo s (BrokenDictionary (fault_at (bytes_at s p) p name))
    needed_points name kind rule d l =
        let f = searched (bytes_at s p) name in
        PointsTo.kdf_needs _ (fault_needed name kind rule f d refl (searched_begins (bytes_at s p) name) l)

    -- an item that is not given
    absent_points : (name : List ℕ) (kind : ℕ) → Needed (bytes_at s p) name kind Any
        → given (item_of (bytes_at s p) name kind) ≡ false
        → PointsTo s (BrokenDictionary (fault_at (bytes_at s p) p name))
    absent_points name kind d e = needed_points name kind Any d (ungiven_lacks (bytes_at s p) name kind e)

    -- an item that has not n bytes
    unsized_points : (name : List ℕ) (kind n : ℕ) → Needed (bytes_at s p) name kind (Exactly n)
        → eqb (item_of (bytes_at s p) name kind).length n ≡ false
        → PointsTo s (BrokenDictionary (fault_at (bytes_at s p) p name))
    unsized_points name kind n d e =
        needed_points name kind (Exactly n) d (unsized_lacks kind n (searched (bytes_at s p) name) e)

    aes_kdf_points : Names AesKdfId (bytes_at s p) → Points s (aes_kdf_of (bytes_at s p) p)
    unfolding aes_kdf_of aes_kdf_in
    aes_kdf_points a =
        let d = bytes_at s p in
        let q = item_of d salt_name 0x42 in
        let r = item_of d rounds_name 0x05 in
        by_bool (eqb q.length 32)
        (λ t. by_bool (given r)
        (λ u. by_bool (leb (le 8 d r.start) rounds_limit)
        (λ v. by_bool (leb rounds_least (le 8 d r.start))
        (λ w. rw (t, u, v, w) tt)
        (λ w. rw (t, u, v, w) (PointsTo.few_rounds _
        (given_points s p m rounds_name 0x05 FewRounds u (leb-false rounds_least (le 8 d r.start) w)))))
        (λ v. rw (t, u, v) (PointsTo.many_rounds _
        (given_points s p m rounds_name 0x05 ManyRounds u (leb-false (le 8 d r.start) rounds_limit v)))))
        (λ u. rw (t, u) (absent_points rounds_name 0x05 (Needed.aes_rounds a) u)))
        (λ t. rw t (unsized_points salt_name 0x42 32 (Needed.aes_salt a) t))

    incomplete_points : Names Argon2Id (bytes_at s p) → complete (argon2_items (bytes_at s p)) ≡ false
        → PointsTo s (BrokenDictionary (fault_at (bytes_at s p) p (incomplete (argon2_items (bytes_at s p)))))
    unfolding complete incomplete argon2_items
    incomplete_points a =
        let d = bytes_at s p in
        by_bool (given (item_of d version_name 0x04))
        (λ t. by_bool (given (item_of d salt_name 0x42))
        (λ u. by_bool (given (item_of d passes_name 0x05))
        (λ v. by_bool (given (item_of d memory_name 0x05))
        (λ w. rw (t, u, v, w) (λ e. absent_points lanes_name 0x04 (Needed.lanes a) e))
        (λ w. rw (t, u, v, w) (λ e. absent_points memory_name 0x05 (Needed.memory a) w)))
        (λ v. rw (t, u, v) (λ e. absent_points passes_name 0x05 (Needed.passes a) v)))
        (λ u. rw (t, u) (λ e. absent_points salt_name 0x42 (Needed.salt a) u)))
        (λ t. rw t (λ e. absent_points version_name 0x04 (Needed.version a) t))

    argon2_points : (v : Variant) → Names Argon2Id (bytes_at s p)
        → Points s (argon2_in (bytes_at s p) p v (argon2_items (bytes_at s p)))
    unfolding argon2_in argon2_items
    argon2_points v a =
        let d = bytes_at s p in
        let i = argon2_items d in
        by_bool (complete i)
        (λ t.
        let c = complete_given d t in
        by_bool (argon2_listed d (item_of d version_name 0x04))
        (λ u. rw (t, u) (figures_points v c))
        (λ u. rw (t, u) (unlisted_points s p m c u)))
        (λ t. rw t (incomplete_points a t))

    uuid_listed : (q : Place) → GivenItem (bytes_at s p) uuid_name q (searched (bytes_at s p) uuid_name)
        → Points s (listed_in (bytes_at s p) p (listed_as (bytes_at (bytes_at s p) q)))
    unfolding listed_in listed_as
    uuid_listed q g =
        let d = bytes_at s p in
        let id = bytes_at d q in
        let f = searched d uuid_name in
        by_bool (same id aes_kdf_uuid)
        (λ t. rw t (aes_kdf_points (names d q f AesKdfId g (aes_id id (same_true id aes_kdf_uuid t)))))
        (λ t. by_bool (same id argon2d_uuid)
        (λ u. rw (t, u) (argon2_points variant.D (names d q f Argon2Id g (argon2d_id id (same_true id argon2d_uuid u)))))
        (λ u. by_bool (same id argon2id_uuid)
        (λ v. rw (t, u, v) (argon2_points variant.Id
        (names d q f Argon2Id g (argon2id_id id (same_true id argon2id_uuid v)))))
        (λ v. rw (t, u, v) (PointsTo.kdf _ (kdf_item s p m uuid_name q f NoKdf g (no_aes id t, no_argon2 id u v))))))

    uuid_points : Points s (uuid_of (bytes_at s p) p)
    unfolding uuid_of uuid_in
    uuid_points =
        let d = bytes_at s p in
        let q = item_of d uuid_name 0x42 in
        by_bool (eqb q.length 16)
        (λ t. rw t (uuid_listed q (sized_item d uuid_name 0x42 16 (omega arith) t)))
        (λ t. rw t (unsized_points uuid_name 0x42 16 Needed.uuid t))

  kdf_in_points : (v : Result Unit Fault) → v ≡ verdict (bytes_at s p) → Points s (kdf_in (bytes_at s p) p v)
  unfolding kdf_in
  kdf_in_points (Ok tt) e = uuid_points (sym e)
  kdf_in_points (Err (fault.Broken at)) e =
      let h : VerdictSays (bytes_at s p) (Err (fault.Broken at)) = rw (sym e) at (verdict_points (bytes_at s p)) in
      PointsTo.broken_kdf (p.start + at) (in_value s 11 p FaultAt at m h)
  kdf_in_points (Err (fault.Repeated at)) e =
      let h : VerdictSays (bytes_at s p) (Err (fault.Repeated at)) = rw (sym e) at (verdict_points (bytes_at s p)) in
      PointsTo.repeated_kdf_item (p.start + at) (in_value s 11 p ItemAgain at m h)

  pub kdf_of_points : Points s (kdf_of s p)
  unfolding kdf_of
  kdf_of_points = kdf_in_points (verdict (bytes_at s p)) refl

module _ (s : List ℕ) (p : Place) where
  custom_in_points : Met s 12 12 p → (v : Result Unit Fault) → v ≡ verdict (bytes_at s p) → PointsOutcome s (custom_in p v)
  unfolding custom_in
  custom_in_points m (Ok tt) e = tt
  custom_in_points m (Err (fault.Broken at)) e =
      let h : VerdictSays (bytes_at s p) (Err (fault.Broken at)) = rw (sym e) at (verdict_points (bytes_at s p)) in
      PointsTo.broken_custom (p.start + at) (in_value s 12 p FaultAt at m h)
  custom_in_points m (Err (fault.Repeated at)) e =
      let h : VerdictSays (bytes_at s p) (Err (fault.Repeated at)) = rw (sym e) at (verdict_points (bytes_at s p)) in
      PointsTo.repeated_custom_item (p.start + at) (in_value s 12 p ItemAgain at m h)

  pub custom_of_points : (given p ≡ true → Met s 12 12 p) → PointsOutcome s (custom_of s p)
  unfolding custom_of
  custom_of_points h =
      by_bool (given p)
      (λ t. rw t (custom_in_points (h t) (verdict (bytes_at s p)) refl))
      (λ t. rw t tt)
