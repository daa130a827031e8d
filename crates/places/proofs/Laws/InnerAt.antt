-- What begins at the places of an inner header that is refused, and of an attachment.
--
-- In order:
--   Knowns, put_known       what is known of the fields at a place of the walk
--   repeated_again          a field that came before comes again
--   WalkSays, walk_says     the walk over the fields
--   opened_says             all checks
--   inner_points, attachment_points
-- Not here: that the places lie inside the payload (Inner).
-- Assumes nothing.
use mathlib.Core.Path.{◌≡◌, refl, sym, subst, ◌∙◌}
use mathlib.Core.Bool.{true, false, false≢true}
use mathlib.Core.List.{List}
use Prim.Native.Nat.{ℕ, zero, suc, ◌≤◌}
use native.Mathlib.Omega.{arith}
use lib.Dec.{eqb, leb, ltb}
use lib.ListN.{length, get_or}
use borrow.Author.Tests.{eqb-true, eqb-false, leb-false}
use Rattle.words.specs.Endian.{le}
use Rattle.words.proofs.Laws.Cases.{by_bool}
use Rattle.refusals.specs.Limits.{payload_limit}
use Rattle.fields.specs.Fields.{end_of, given, begin, fits}
use Rattle.fields.specs.declared.Place.{Place}
use Rattle.std.specs.Prelude.{Result, Ok, Err}
use Rattle.refusals.specs.declared.Refusal.{Refusal}
use Rattle.inner_header.specs.InnerHeader.{
  Fields,
  no_fields,
  listed,
  rule_of,
  repeated,
  field_of,
  put,
  Walked,
  ended,
  refused,
  walk_in,
  walk,
  algorithm_listed,
  end_field,
  fault,
  judged_by,
  judged,
  opened,
  inner_of,
  inner,
  shown,
  attachment_of,
  attachment,
}
use Rattle.inner_header.specs.declared.Inner.{Inner}
use Rattle.inner_header.proofs.Laws.Walk.{field_of_stands}
use Rattle.places.specs.Begins.{FieldAt, FieldOf, FieldAgain, PointsToInner}
use Rattle.places.proofs.Laws.FieldsAt.{
  Says,
  field_at_says,
  Met,
  met,
  met_behind,
  Known,
  known_nowhere,
  known_put,
  known_again,
  cond_again,
}

-- what is known of the fields that may not recur, at a place of the walk
record Knowns (s : List ℕ) (f : Fields) (at : ℕ) : Type 0 where
  algorithm : Known s 0 1 f.algorithm at
  key : Known s 0 2 f.key at

put_known : (s : List ℕ) (f : Fields) (id : ℕ) (p : Place) (at : ℕ) → Knowns s f at → Met s 0 id p → at ≤ end_of p
    → Knowns s (put f id p) (end_of p)
unfolding put
put_known s f id p at k m l =
    record {
      algorithm = known_put s 0 1 id p f.algorithm at m l k.algorithm;
      key = known_put s 0 2 id p f.key at m l k.key;
    }

repeated_again : (s : List ℕ) (f : Fields) (at : ℕ) → Knowns s f at → FieldAt s 0 at
    → repeated f.algorithm f.key (get_or s at 0) ≡ true
    → FieldAgain s 0 at
unfolding repeated
repeated_again s f at k h =
    let id = get_or s at 0 in
    cond_again (eqb id 1) _ _ (λ e g. known_again s 0 1 f.algorithm at k.algorithm g h e)
    (cond_again (eqb id 2) _ _ (λ e g. known_again s 0 2 f.key at k.key g h e)
    (λ e. absurd (false≢true e)))

-- what is said of a walk: of its refusal; where it ends, of the end field and the algorithm
record Ends (s : List ℕ) (f : Fields) (end : ℕ) : Type 0 where
  known : Knowns s f (end_field end)
  end_field_is : FieldOf s 0 0 (end_field end)

abbrev WalkSays : List ℕ → Walked → Type 0
WalkSays s (ended f end) = Ends s f end
WalkSays s (refused r) = PointsToInner s r

end_size : (id n : ℕ) → fits (rule_of id) n ≡ true → id ≡ 0 → n ≡ 0
unfolding fits rule_of
end_size id n h e = eqb-true n 0 (rw e at h)

walk_in_says : (f : Fields) (s : List ℕ) (at : ℕ) (e : Result (ℕ × Place) Refusal) (rest : Fields → ℕ → Walked)
    → field_of f.algorithm f.key s at ≡ e
    → Says (PointsToInner s) (rule_of (get_or s at 0)) s at e
    → FieldAt s 0 at
    → Knowns s f at
    → ((g : Fields) (n : ℕ) → FieldAt s 0 n → Knowns s g n → WalkSays s (rest g n))
    → WalkSays s (walk_in f e rest)
unfolding walk_in
walk_in_says f s at (Err r) rest q l a k h = l
walk_in_says f s at (Ok (id, p)) rest q l a k h =
    let x = field_of_stands f.algorithm f.key s at id p q in
    let m = met s 0 at id p a x l.size_is in
    by_bool (eqb id 0)
    (λ t.
    let z : id ≡ 0 = eqb-true id 0 t in
    let n : p.length ≡ 0 = end_size (get_or s at 0) p.length l.fits_rule (sym x.id_is ∙ z) in
    let b : begin p ≡ end_field (end_of p) = omega (arith, n) in
    let y : at ≡ end_field (end_of p) = omega (arith, n, x.start_is) in
    rw t (record {
      known = subst (Knowns s f) y k;
      end_field_is = subst (FieldOf s 0 0) b (subst (λ (i : ℕ). FieldOf s 0 i (begin p)) z m.field);
    }))
    (λ t. rw t (h (put f id p) (end_of p) (met_behind s 0 id p m (omega (arith, eqb-false id 0 t)))
    (put_known s f id p at k m (omega (arith, x.start_is)))))

walk_says : (k : ℕ) (f : Fields) (s : List ℕ) (at : ℕ) → FieldAt s 0 at → Knowns s f at → WalkSays s (walk k f s at)
unfolding walk field_of
walk_says zero f s at a d = PointsToInner.cut_short
walk_says (suc k) f s at a d =
    let id = get_or s at 0 in
    walk_in_says f s at (field_of f.algorithm f.key s at) (λ (g : Fields) (n : ℕ). walk k g s n) refl
    (field_at_says (PointsToInner s) (rule_of id) s at PointsToInner.cut_short (λ w. PointsToInner.size at a w)
    (listed id) (repeated f.algorithm f.key id)
    (λ e. PointsToInner.unknown_field at a (leb-false id 3 e))
    (λ e. PointsToInner.repeated_field at (repeated_again s f at d a e)))
    a d
    (λ g n b x. walk_says k g s n b x)

judged_by_says : (s : List ℕ) (f : Fields) (end : ℕ) → Ends s f end
    → WalkSays s (judged_by (fault s f.algorithm f.key end) f end)
unfolding judged_by fault
judged_by_says s f end e =
    by_bool (given f.algorithm)
    (λ t. by_bool (given f.key)
    (λ u. by_bool (algorithm_listed (le 4 s f.algorithm.start))
    (λ v. rw (t, u, v) e)
    (λ v.
    let m = (e.known.algorithm t).met in
    rw (t, u, v) (PointsToInner.algorithm (begin f.algorithm) m.field
    (subst (λ (i : ℕ). algorithm_listed (le 4 s i) ≡ false) m.start_is v))))
    (λ u. rw (t, u) (PointsToInner.absent (end_field end) e.end_field_is)))
    (λ t. rw t (PointsToInner.absent (end_field end) e.end_field_is))

judged_says : (s : List ℕ) (w : Walked) → WalkSays s w → WalkSays s (judged s w)
unfolding judged
judged_says s (ended f end) l = judged_by_says s f end l
judged_says s (refused r) l = l

opened_says : (s : List ℕ) → WalkSays s (opened s)
unfolding opened
opened_says s =
    let k : Knowns s no_fields 0 = record { algorithm = known_nowhere s 0 1 0; key = known_nowhere s 0 2 0 } in
    by_bool (leb (length s) payload_limit)
    (λ t. rw t (judged_says s (walk (length s) no_fields s 0) (walk_says (length s) no_fields s 0 FieldAt.front k)))
    (λ t. rw t PointsToInner.too_long)

-- nothing is said of what is accepted
abbrev ReadPoints : List ℕ → Result Inner Refusal → Type 0
ReadPoints s (Ok h) = Unit
ReadPoints s (Err r) = PointsToInner s r

abbrev AttachmentPoints : List ℕ → Result (ℕ × Place) Refusal → Type 0
AttachmentPoints s (Ok (flags, p)) = Unit
AttachmentPoints s (Err r) = PointsToInner s r

inner_of_points : (s : List ℕ) (w : Walked) → WalkSays s w → ReadPoints s (inner_of s w)
unfolding inner_of
inner_of_points s (ended f end) l = tt
inner_of_points s (refused r) l = l

attachment_of_points : (s : List ℕ) (i : ℕ) (w : Walked) → WalkSays s w → AttachmentPoints s (attachment_of s i w)
unfolding attachment_of shown
attachment_of_points s i (ended f end) l =
    by_bool (ltb i (length f.attachments))
    (λ t. rw t tt)
    (λ t. rw t (PointsToInner.absent (end_field end) l.end_field_is))
attachment_of_points s i (refused r) l = l

pub inner_points : (s : List ℕ) → ReadPoints s (inner s)
unfolding inner
inner_points s = inner_of_points s (opened s) (opened_says s)

pub attachment_points : (s : List ℕ) (i : ℕ) → AttachmentPoints s (attachment s i)
unfolding attachment
attachment_points s i = attachment_of_points s i (opened s) (opened_says s)
