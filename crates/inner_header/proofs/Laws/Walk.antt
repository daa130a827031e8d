-- The walk over a payload's fields.
--
-- In order:
--   field_of_stands      where a field that is found stands
--   walk_more           one turn of the walk
--   walk_enough         the count of fields never ends a walk: any count that reaches the payload's end gives the same
--   walk_next, walk_end one field more, and the end field, by a count that is enough for every place
--   get_or-snoc           an entry of a list with one more
--   walk_turn           one turn, by what is kept of the fields
--   put_tally_is         what is kept of the fields, with one more
--   put_tally-le         .. which is one attachment more at most
-- Not here: a field at a place (crate fields, Laws.Fields).
-- Assumes nothing.
use mathlib.Core.Path.{◌≡◌, refl, sym, ap, ◌∙◌}
use mathlib.Core.Bool.{false, cond}
use mathlib.Core.List.{List, [], ◌∷◌, ◌++◌}
use Prim.Native.Nat.{ℕ, zero, suc, ◌+◌, ◌-◌, ◌≤◌, ◌<◌}
use native.Mathlib.Numerals.{sub-one}
use native.Mathlib.Omega.{arith}
use lib.Dec.{eqb, ltb}
use lib.ListN.{length, get_or, length-append, get_or-append, get_or-eq_default}
use lib.Seq.{get_or_at}
use borrow.Author.Tests.{eqb-true, eqb-false, lt-leb, ltb-true, ltb-false}
use Rattle.words.proofs.Laws.Cases.{by_bool}
use Rattle.refusals.specs.declared.Refusal.TheVariants.{CutShort}
use Rattle.fields.specs.declared.Place.{Place}
use Rattle.std.specs.Prelude.{Result, Ok, Err}
use Rattle.refusals.specs.declared.Refusal.{Refusal}
use Rattle.fields.specs.Fields.{end_of, field_at, nowhere}
use Rattle.fields.proofs.Laws.Fields.{Stands, field_at_stands}
use Rattle.inner_header.specs.declared.Tally.{Tally}
use Rattle.inner_header.specs.InnerHeader.{Fields, listed, rule_of, repeated, field_of, put, Walked, ended, walk_in, walk}
use Rattle.inner_header.specs.Tally.{tally_of, put_tally}

pub field_of_stands : (a k : Place) (s : List ℕ) (at id : ℕ) (p : Place) → field_of a k s at ≡ Ok (id, p)
    → Stands s at id p
unfolding field_of
field_of_stands a k s at id p e =
    field_at_stands (listed (get_or s at 0)) (repeated a k (get_or s at 0)) (rule_of (get_or s at 0)) s at id p e

pub walk_more : (k : ℕ) (f : Fields) (s : List ℕ) (at : ℕ) (e : Result (ℕ × Place) Refusal) → 0 < k
    → e ≡ field_of f.algorithm f.key s at
    → walk k f s at ≡ walk_in f e (λ (g : Fields) (n : ℕ). walk (k - 1) g s n)
unfolding walk
walk_more zero f s at e h p = absurd (omega arith)
walk_more (suc k) f s at e h p = rw (p, sub-one)

-- nothing stands behind the end
field_of_past : (a k : Place) (s : List ℕ) (at : ℕ) → length s ≤ at → field_of a k s at ≡ Err (CutShort (length s))
unfolding field_of field_at
field_of_past a k s at h =
    let l : length s < at + 5 = omega arith in
    rw (lt-leb (at + 5) (length s) l)

-- two ways on from a field agree: a walk goes on at a field's end alone
walk_in-agree : (f : Fields) (e : Result (ℕ × Place) Refusal) (g h : Fields → ℕ → Walked)
    → ((id : ℕ) (p : Place) → e ≡ Ok (id, p) → g (put f id p) (end_of p) ≡ h (put f id p) (end_of p))
    → walk_in f e g ≡ walk_in f e h
unfolding walk_in
walk_in-agree f (Err r) g h a = refl
walk_in-agree f (Ok (id, p)) g h a = ap (λ (w : Walked). cond (eqb id 0) (ended f (end_of p)) w) (a id p refl)

pub walk_enough : (k m : ℕ) (f : Fields) (s : List ℕ) (at : ℕ) → length s ≤ k + at → length s ≤ m + at
    → walk k f s at ≡ walk m f s at
unfolding walk walk_in
walk_enough zero zero f s at h l = refl
walk_enough zero (suc m) f s at h l =
    let p : length s ≤ at = omega arith in
    rw (field_of_past f.algorithm f.key s at p)
walk_enough (suc k) zero f s at h l =
    let p : length s ≤ at = omega arith in
    rw (field_of_past f.algorithm f.key s at p)
walk_enough (suc k) (suc m) f s at h l =
    walk_in-agree f (field_of f.algorithm f.key s at) (λ (g : Fields) (n : ℕ). walk k g s n)
    (λ (g : Fields) (n : ℕ). walk m g s n)
    (λ id p e. let w = field_of_stands f.algorithm f.key s at id p e in
    walk_enough k m (put f id p) s (end_of p) (omega arith) (omega arith))

-- the walk from a place on: the payload's length is count enough
abbrev pub from : Fields → List ℕ → ℕ → Walked
from f s at = walk (length s) f s at

pub walk_next : (f : Fields) (s : List ℕ) (at id : ℕ) (p : Place) → field_of f.algorithm f.key s at ≡ Ok (id, p)
    → eqb id 0 ≡ false → from f s at ≡ from (put f id p) s (end_of p)
unfolding walk_in
walk_next f s at id p e z =
    let w = field_of_stands f.algorithm f.key s at id p e in
    let m = walk_more (length s) f s at (Ok (id, p)) (omega arith) (sym e) in
    rw z at m ∙ walk_enough (length s - 1) (length s) (put f id p) s (end_of p) (omega arith) (omega arith)

pub walk_end : (f : Fields) (s : List ℕ) (at : ℕ) (p : Place) → field_of f.algorithm f.key s at ≡ Ok (0, p)
    → from f s at ≡ ended f (end_of p)
unfolding walk_in
walk_end f s at p e =
    let w = field_of_stands f.algorithm f.key s at 0 p e in
    walk_more (length s) f s at (Ok (0, p)) (omega arith) (sym e)

pub get_or-snoc : (l : List Place) (p : Place) (i : ℕ) (d : Place)
    → get_or (l ++ (p ∷ [])) i d ≡ cond (eqb (length l) i) p (get_or l i d)
get_or-snoc l p i d =
    by_bool (eqb (length l) i)
    (λ t. rw t (get_or_at l p [] d i (eqb-true (length l) i t)))
    (λ t. by_bool (ltb i (length l))
    (λ u. rw t (get_or-append l (p ∷ []) d i (ltb-true i (length l) u)))
    (λ u. let n : length l ≡ i → ⊥ = eqb-false (length l) i t in
    let m : length l ≤ i = ltb-false i (length l) u in
    let j : length (l ++ (p ∷ [])) ≤ i = simp length-append (omega (arith, n)) in
    rw t (get_or-eq_default (l ++ (p ∷ [])) d j ∙ sym (get_or-eq_default l d m))))

pub put_tally_is : (i : ℕ) (f : Fields) (id : ℕ) (p : Place)
    → put_tally (tally_of i f) i id p ≡ tally_of i (put f id p)
unfolding put_tally put
put_tally_is i f id p =
    by_bool (eqb id 3)
    (λ t. rw (t, get_or-snoc f.attachments p i nowhere, length-append f.attachments (p ∷ [])))
    (λ t. rw t)

pub walk_turn : (k i : ℕ) (f : Fields) (t : Tally) (s : List ℕ) (at : ℕ) (e : Result (ℕ × Place) Refusal) → 0 < k → t ≡ tally_of i f
    → e ≡ field_of t.algorithm t.key s at
    → walk k f s at ≡ walk_in f e (λ (g : Fields) (n : ℕ). walk (k - 1) g s n)
walk_turn k i f t s at e h q p =
    walk_more k f s at e h (p ∙ ap (λ (u : Tally). field_of u.algorithm u.key s at) q)

pub put_tally-le : (t : Tally) (i id : ℕ) (p : Place) → (put_tally t i id p).attachments ≤ t.attachments + 1
unfolding put_tally
put_tally-le t i id p = by_bool (eqb id 3) (λ e. rw e (omega arith)) (λ e. rw e (omega arith))
