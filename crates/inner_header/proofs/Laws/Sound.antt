-- Every attachment of a payload's fields has its flags byte, and lies within the payload.
--
-- In order: Within, Sound, field_of_within, sound-snoc, put_sound, walk_kept, opened-sound.
-- Assumes nothing.
use mathlib.Core.Path.{◌≡◌, refl, sym, ◌∙◌}
use mathlib.Core.List.{List, [], ◌∷◌, ◌++◌}
use Prim.Native.Nat.{ℕ, zero, suc, ◌+◌, ◌≤◌, ◌<◌}
use native.Mathlib.Omega.{arith}
use lib.Dec.{eqb, leb}
use lib.ListN.{length, get_or, length-append}
use borrow.Author.Tests.{eqb-true, eqb-false, leb-true}
use Rattle.words.proofs.Laws.Cases.{by_bool}
use Rattle.refusals.specs.Numbers.{Outcome}
use Rattle.refusals.specs.Limits.{payload_limit}
use Rattle.fields.specs.declared.Place.{Place}
use Rattle.std.specs.Prelude.{Result, Ok, Err}
use Rattle.refusals.specs.declared.Refusal.{Refusal}
use Rattle.fields.specs.Fields.{end_of, fits, nowhere}
use Rattle.fields.proofs.Laws.Written.{field_at_passed}
use Rattle.inner_header.specs.InnerHeader.{
  Fields,
  no_fields,
  listed,
  rule_of,
  repeated,
  field_of,
  put,
  Walked,
  ended,
  refused,
  walk_in,
  walk,
  fault,
  judged_by,
  judged,
  opened,
}
use Rattle.inner_header.proofs.Laws.Walk.{field_of_stands, get_or-snoc}

-- a place with a flags byte, within the payload
pub record Within (s : List ℕ) (p : Place) : Type 0 where
  pub flagged : 1 ≤ p.length
  pub within : p.start + p.length ≤ length s

abbrev pub Sound : List ℕ → List Place → Type 0
Sound s l = (i : ℕ) → i < length l → Within s (get_or l i nowhere)

pub field_of_within : (a k : Place) (s : List ℕ) (at id : ℕ) (p : Place) → field_of a k s at ≡ Ok (id, p) → id ≡ 3
    → Within s p
unfolding field_of fits rule_of
field_of_within a k s at id p e z =
    let w = field_of_stands a k s at id p e in
    let q =
    (field_at_passed (listed (get_or s at 0)) (repeated a k (get_or s at 0)) (rule_of (get_or s at 0)) s at id p e).fits_is in
    let d : get_or s at 0 ≡ 3 = sym w.id_is ∙ z in
    record { flagged = leb-true 1 p.length (rw d at q); within = w.within }

pub sound-snoc : (s : List ℕ) (l : List Place) (p : Place) → Sound s l → Within s p → Sound s (l ++ (p ∷ []))
sound-snoc s l p h w i b =
    by_bool (eqb (length l) i)
    (λ t. rw (get_or-snoc l p i nowhere, t) w)
    (λ t. let n : length l ≡ i → ⊥ = eqb-false (length l) i t in
    let m = rw (length-append l (p ∷ [])) at b in
    rw (get_or-snoc l p i nowhere, t) (h i (omega (arith, n))))

-- nothing is said of a refusal
abbrev Kept : List ℕ → Walked → Type 0
Kept s (ended f end) = Sound s f.attachments
Kept s (refused r) = 0 ≤ 0

put_sound : (s : List ℕ) (f : Fields) (id : ℕ) (p : Place) → Sound s f.attachments → (id ≡ 3 → Within s p)
    → Sound s (put f id p).attachments
unfolding put
put_sound s f id p h w =
    by_bool (eqb id 3)
    (λ t. rw t (sound-snoc s f.attachments p h (w (eqb-true id 3 t))))
    (λ t. rw t h)

walk_in_kept : (f : Fields) (s : List ℕ) (e : Result (ℕ × Place) Refusal) (rest : Fields → ℕ → Walked) → Sound s f.attachments
    → ((id : ℕ) (p : Place) → e ≡ Ok (id, p) → id ≡ 3 → Within s p)
    → ((g : Fields) (n : ℕ) → Sound s g.attachments → Kept s (rest g n)) → Kept s (walk_in f e rest)
unfolding walk_in
walk_in_kept f s (Err r) rest h w k = omega arith
walk_in_kept f s (Ok (id, p)) rest h w k =
    by_bool (eqb id 0)
    (λ t. rw t h)
    (λ t. rw t (k (put f id p) (end_of p) (put_sound s f id p h (w id p refl))))

walk_kept : (k : ℕ) (f : Fields) (s : List ℕ) (at : ℕ) → Sound s f.attachments → Kept s (walk k f s at)
unfolding walk
walk_kept zero f s at h = omega arith
walk_kept (suc k) f s at h =
    walk_in_kept f s (field_of f.algorithm f.key s at) (λ (g : Fields) (n : ℕ). walk k g s n) h
    (λ id p e. field_of_within f.algorithm f.key s at id p e)
    (λ g n. walk_kept k g s n)

judged_by_kept : (s : List ℕ) (o : Outcome) (f : Fields) (end : ℕ) → Sound s f.attachments
    → Kept s (judged_by o f end)
unfolding judged_by
judged_by_kept s (Ok tt) f end h = h
judged_by_kept s (Err r) f end h = omega arith

judged_kept : (s : List ℕ) (w : Walked) → Kept s w → Kept s (judged s w)
unfolding judged
judged_kept s (ended f end) h = judged_by_kept s (fault s f.algorithm f.key end) f end h
judged_kept s (refused r) h = omega arith

none_sound : (s : List ℕ) → Sound s []
none_sound s i b = absurd (omega arith)

opened_kept : (s : List ℕ) → Kept s (opened s)
unfolding opened
opened_kept s =
    by_bool (leb (length s) payload_limit)
    (λ t. rw t (judged_kept s (walk (length s) no_fields s 0) (walk_kept (length s) no_fields s 0 (none_sound s))))
    (λ t. rw t (omega arith))

pub opened-sound : (s : List ℕ) (f : Fields) (end : ℕ) → opened s ≡ ended f end → Sound s f.attachments
opened-sound s f end e = rw e at (opened_kept s)
