-- The places of an inner header that is refused, and of an attachment.
--
-- In order: WalkLies, walk_lies (the walk over the fields), opened_lies (all checks), inner_lies, attachment_lies.
-- Assumes nothing.
use mathlib.Core.Path.{◌≡◌, refl}
use mathlib.Core.Bool.{Bool, true, false, cond}
use mathlib.Core.List.{List}
use Prim.Native.Nat.{ℕ, zero, suc, ◌≤◌}
use native.Mathlib.Omega.{arith}
use lib.Dec.{eqb, leb, ltb}
use lib.ListN.{length, get_or}
use Rattle.words.specs.Endian.{le}
use Rattle.words.proofs.Laws.Cases.{by_bool}
use Rattle.refusals.specs.Limits.{payload_limit}
use Rattle.fields.specs.Fields.{end_of, given}
use Rattle.fields.specs.declared.Place.{Place}
use Rattle.std.specs.Prelude.{Result, Ok, Err}
use Rattle.refusals.specs.declared.Refusal.{Refusal}
use Rattle.inner_header.specs.InnerHeader.{
  Fields,
  no_fields,
  listed,
  rule_of,
  repeated,
  field_of,
  put,
  Walked,
  ended,
  refused,
  walk_in,
  walk,
  algorithm_listed,
  fault,
  judged_by,
  judged,
  opened,
  inner_of,
  inner,
  shown,
  attachment_of,
  attachment,
}
use Rattle.inner_header.specs.declared.Inner.{Inner}
use Rattle.inner_header.proofs.Laws.Walk.{field_of_stands}
use Rattle.places.specs.Places.{LiesIn}
use Rattle.places.proofs.Laws.Fields as fields

-- what is said of a walk: of its refusal; where it ends, that the end field and the algorithm stand before
record Ends (s : List ℕ) (f : Fields) (end : ℕ) : Type 0 where
  far : 5 ≤ end
  within : end ≤ length s
  algorithm_le : f.algorithm.start ≤ end

abbrev WalkLies : List ℕ → Walked → Type 0
WalkLies s (ended f end) = Ends s f end
WalkLies s (refused r) = LiesIn (length s) r

either : (b : Bool) (p q : Place) (n : ℕ) → p.start ≤ n → q.start ≤ n → (cond b p q).start ≤ n
either true p q n h l = h
either false p q n h l = l

put_le : (f : Fields) (id : ℕ) (p : Place) (at n : ℕ) → f.algorithm.start ≤ at → at ≤ n → p.start ≤ n
    → (put f id p).algorithm.start ≤ n
unfolding put
put_le f id p at n d h l = either (eqb id 1) p f.algorithm n l (omega arith)

walk_in_lies : (f : Fields) (s : List ℕ) (at : ℕ) (e : Result (ℕ × Place) Refusal) (rest : Fields → ℕ → Walked)
    → field_of f.algorithm f.key s at ≡ e
    → fields.Lies (length s) e
    → f.algorithm.start ≤ at
    → ((g : Fields) (n : ℕ) → g.algorithm.start ≤ n → WalkLies s (rest g n))
    → WalkLies s (walk_in f e rest)
unfolding walk_in
walk_in_lies f s at (Err r) rest q l d h = l
walk_in_lies f s at (Ok (id, p)) rest q l d h =
    let x = field_of_stands f.algorithm f.key s at id p q in
    by_bool (eqb id 0)
    (λ t. rw t (record {
      far = omega (arith, x.start_is);
      within = x.within;
      algorithm_le = omega (arith, x.start_is);
    }))
    (λ t. rw t (h (put f id p) (end_of p)
    (put_le f id p at (end_of p) d (omega (arith, x.start_is)) (omega arith))))

walk_lies : (k : ℕ) (f : Fields) (s : List ℕ) (at : ℕ) → f.algorithm.start ≤ at → WalkLies s (walk k f s at)
unfolding walk field_of
walk_lies zero f s at d = refl
walk_lies (suc k) f s at d =
    walk_in_lies f s at (field_of f.algorithm f.key s at) (λ (g : Fields) (n : ℕ). walk k g s n) refl
    (fields.field_at_lies (listed (get_or s at 0)) (repeated f.algorithm f.key (get_or s at 0)) (rule_of (get_or s at 0)) s at)
    d
    (λ g n x. walk_lies k g s n x)

judged_by_lies : (s : List ℕ) (f : Fields) (end : ℕ) → Ends s f end
    → WalkLies s (judged_by (fault s f.algorithm f.key end) f end)
unfolding judged_by fault
judged_by_lies s f end e =
    by_bool (given f.algorithm)
    (λ t. by_bool (given f.key)
    (λ u. by_bool (algorithm_listed (le 4 s f.algorithm.start))
    (λ v. rw (t, u, v) e)
    (λ v. rw (t, u, v) (omega (arith, e.far, e.within, e.algorithm_le))))
    (λ u. rw (t, u) (omega (arith, e.far, e.within))))
    (λ t. rw t (omega (arith, e.far, e.within)))

judged_lies : (s : List ℕ) (w : Walked) → WalkLies s w → WalkLies s (judged s w)
unfolding judged
judged_lies s (ended f end) l = judged_by_lies s f end l
judged_lies s (refused r) l = l

opened_lies : (s : List ℕ) → WalkLies s (opened s)
unfolding opened
opened_lies s =
    by_bool (leb (length s) payload_limit)
    (λ t. rw t (judged_lies s (walk (length s) no_fields s 0) (walk_lies (length s) no_fields s 0 (omega arith))))
    (λ t. rw t refl)

-- nothing is said of what is accepted
abbrev ReadLies : ℕ → Result Inner Refusal → Type 0
ReadLies n (Ok h) = 0 ≤ 0
ReadLies n (Err r) = LiesIn n r

abbrev AttachmentLies : ℕ → Result (ℕ × Place) Refusal → Type 0
AttachmentLies n (Ok (flags, p)) = 0 ≤ 0
AttachmentLies n (Err r) = LiesIn n r

inner_of_lies : (s : List ℕ) (w : Walked) → WalkLies s w → ReadLies (length s) (inner_of s w)
unfolding inner_of
inner_of_lies s (ended f end) l = omega arith
inner_of_lies s (refused r) l = l

attachment_of_lies : (s : List ℕ) (i : ℕ) (w : Walked) → WalkLies s w → AttachmentLies (length s) (attachment_of s i w)
unfolding attachment_of shown
attachment_of_lies s i (ended f end) l =
    by_bool (ltb i (length f.attachments))
    (λ t. rw t (omega arith))
    (λ t. rw t (omega (arith, l.far, l.within)))
attachment_of_lies s i (refused r) l = l

pub inner_lies : (s : List ℕ) → ReadLies (length s) (inner s)
unfolding inner
inner_lies s = inner_of_lies s (opened s) (opened_lies s)

pub attachment_lies : (s : List ℕ) (i : ℕ) → AttachmentLies (length s) (attachment s i)
unfolding attachment
attachment_lies s i = attachment_of_lies s i (opened s) (opened_lies s)
