-- Where the fields of a header begin.
--
-- In order:
--   Says, field_at_says    a field at a place: what is said of its refusals, and its size where it is found
--   Met, met              a field that is found at a place
--   met_behind            the next field begins behind it
--   Known                 what is known of a field of an ID: known_nowhere, known_put (with one more field)
--   known_again           a field of the same ID again
--   cond_again            .. of one of many IDs
--   value_of              what holds of the value of a field
--   in_value, in_front    a place in its value, and the value's front
-- Not here: that a place lies inside the input (Fields).
-- Assumes nothing.
use mathlib.Core.Path.{◌≡◌, refl, sym, ap, subst, ◌∙◌}
use mathlib.Core.Bool.{Bool, true, false, cond, false≢true}
use mathlib.Core.List.{List}
use Prim.Native.Nat.{ℕ, ◌+◌, ◌-◌, ◌≤◌, ◌<◌}
use native.Mathlib.Omega.{arith}
use lib.Dec.{eqb, leb}
use lib.ListN.{length, get_or, take, drop}
use borrow.Author.Tests.{eqb-true}
use Rattle.words.specs.Endian.{le}
use Rattle.words.specs.Size.{int32}
use Rattle.std.specs.Prelude.{Option, Some, None, Result, Ok, Err}
use Rattle.words.proofs.Laws.Cases.{by_bool}
use Rattle.refusals.specs.declared.Refusal.{Refusal}
use Rattle.refusals.specs.declared.Refusal.TheVariants.{CutShort, WrongSize, Repeated, UnknownField}
use Rattle.fields.specs.declared.Place.{Place}
use Rattle.fields.specs.declared.SizeRule.{SizeRule}
use Rattle.fields.specs.Fields.{bytes_at, end_of, nowhere, given, begin, fits, value_at, field_at}
use Rattle.fields.proofs.Laws.Fields.{Stands}
use Rattle.places.specs.Begins.{FieldAt, FieldOf, FieldAgain, WrongSized, ValueOf, InValue}
use Rattle.places.proofs.Laws.Sizes.{negative_never, of_same}

-- the value of a field that is found has the size that stands there, and the rule's
pub record Sized (rule : SizeRule) (s : List ℕ) (at : ℕ) (p : Place) : Type 0 where
  pub size_is : int32 (le 4 s (at + 1)) ≡ Some p.length
  pub fits_rule : fits rule p.length ≡ true

-- what is said of a field at a place: P of a refusal, and its size where it is found
abbrev pub Says : (Refusal → Type 0) → SizeRule → List ℕ → ℕ → Result (ℕ × Place) Refusal → Type 0
Says P rule s at (Ok (id, p)) = Sized rule s at p
Says P rule s at (Err r) = P r

module _ (P : Refusal → Type 0) (rule : SizeRule) (s : List ℕ) (at : ℕ) (cut : P (CutShort (length s)))
    (size : WrongSized rule s at → P (WrongSize at)) where
  value_at_says : (z : Option ℕ) → int32 (le 4 s (at + 1)) ≡ z → Says P rule s at (value_at rule s at z)
  unfolding value_at
  value_at_says None e = size (λ n q. absurd (negative_never n (sym e ∙ q)))
  value_at_says (Some n) e =
      by_bool (fits rule n)
      (λ t. by_bool (leb n (length s - (at + 5)))
      (λ u. rw (t, u) (record { size_is = e; fits_rule = t }))
      (λ u. rw (t, u) cut))
      (λ t. rw t (size (λ k q. subst (λ (j : ℕ). fits rule j ≡ false) (of_same n k (sym e ∙ q)) t)))

  pub field_at_says : (l r : Bool) → (l ≡ false → P (UnknownField at)) → (r ≡ true → P (Repeated at))
      → Says P rule s at (field_at l r rule s at)
  unfolding field_at
  field_at_says l r unknown repeated =
      by_bool (leb (at + 5) (length s))
      (λ t. by_bool l
      (λ u. by_bool r
      (λ v. rw (t, u, v) (repeated v))
      (λ v. rw (t, u, v) (value_at_says (int32 (le 4 s (at + 1))) refl)))
      (λ u. rw (t, u) (unknown u)))
      (λ t. rw t cut)

-- a field that was met, with its value at p
pub record Met (s : List ℕ) (from id : ℕ) (p : Place) : Type 0 where
  pub field : FieldOf s from id (begin p)
  pub start_is : p.start ≡ begin p + 5
  pub size_is : int32 (le 4 s (begin p + 1)) ≡ Some p.length

pub met : (s : List ℕ) (from at id : ℕ) (p : Place) → FieldAt s from at → Stands s at id p
    → int32 (le 4 s (at + 1)) ≡ Some p.length
    → Met s from id p
met s from at id p h x e =
    let b : at ≡ begin p = omega (arith, x.start_is) in
    record {
      field = record {
        begins = subst (FieldAt s from) b h;
        id_is = subst (λ (n : ℕ). get_or s n 0 ≡ id) b (sym x.id_is);
      };
      start_is = omega (arith, x.start_is);
      size_is = subst (λ (n : ℕ). int32 (le 4 s (n + 1)) ≡ Some p.length) b e;
    }

module _ (s : List ℕ) (from : ℕ) where
  pub met_behind : (id : ℕ) (p : Place) → Met s from id p → 0 < id → FieldAt s from (end_of p)
  met_behind id p m h =
      let e : begin p + 5 + p.length ≡ end_of p = omega (arith, m.start_is) in
      subst (FieldAt s from) e
      (FieldAt.behind (begin p) p.length m.field.begins (omega (arith, h, m.field.id_is)) m.size_is)

-- what is known, at a place of the walk, of the field of an ID: where it is given it was met before
pub record Passed (s : List ℕ) (from id : ℕ) (p : Place) (at : ℕ) : Type 0 where
  pub met : Met s from id p
  pub start_le : p.start ≤ at

abbrev pub Known : List ℕ → ℕ → ℕ → Place → ℕ → Type 0
Known s from id p at = given p ≡ true → Passed s from id p at

module _ (s : List ℕ) (from : ℕ) where
  pub known_nowhere : (id at : ℕ) → Known s from id nowhere at
  known_nowhere id at e = absurd (false≢true e)

  pub known_put : (k id : ℕ) (p q : Place) (at : ℕ) → Met s from id p → at ≤ end_of p → Known s from k q at
      → Known s from k (cond (eqb id k) p q) (end_of p)
  known_put k id p q at m l h =
      by_bool (eqb id k)
      (λ t. rw t (λ g. record {
        met = subst (λ (n : ℕ). Met s from n p) (eqb-true id k t) m;
        start_le = omega arith;
      }))
      (λ t. rw t (λ g.
      let x = h g in
      record { met = x.met; start_le = omega (arith, x.start_le) }))

  pub known_again : (k : ℕ) (p : Place) (at : ℕ) → Known s from k p at → given p ≡ true → FieldAt s from at
      → eqb (get_or s at 0) k ≡ true
      → FieldAgain s from at
  known_again k p at h g f e =
      let x = h g in
      record {
        id = k;
        begins = record { begins = f; id_is = eqb-true (get_or s at 0) k e };
        before = begin p;
        before_lt = omega (arith, x.start_le, x.met.start_is);
        former = x.met.field;
      }

-- a field of one ID came before, or of another one
pub cond_again : {A : Type 0} (b x y : Bool) → (b ≡ true → x ≡ true → A) → (y ≡ true → A) → cond b x y ≡ true → A
cond_again true x y f g e = f refl e
cond_again false x y f g e = g e

-- what holds of the value of a field that was met, and of a place in it
pub value_of : (s : List ℕ) (id : ℕ) (p : Place) (P : List ℕ → Type 0) → Met s 12 id p → P (bytes_at s p)
    → ValueOf P s id (begin p)
value_of s id p P m h =
    record {
      field = m.field;
      size = p.length;
      size_is = m.size_is;
      holds = subst (λ (n : ℕ). P (take p.length (drop n s))) m.start_is h;
    }

pub in_value : (s : List ℕ) (id : ℕ) (p : Place) (P : List ℕ → ℕ → Type 0) (inside : ℕ) → Met s 12 id p
    → P (bytes_at s p) inside
    → InValue P s id (p.start + inside)
in_value s id p P inside m h =
    record {
      at = begin p;
      inside = inside;
      value = value_of s id p (λ (d : List ℕ). P d inside) m h;
      place_is = ap (λ (n : ℕ). n + inside) m.start_is;
    }

-- .. and the front of its value
pub in_front : (s : List ℕ) (id : ℕ) (p : Place) (P : List ℕ → ℕ → Type 0) → Met s 12 id p → P (bytes_at s p) 0
    → InValue P s id p.start
in_front s id p P m h =
    let e : p.start + 0 ≡ p.start = omega arith in
    subst (InValue P s id) e (in_value s id p P 0 m h)
