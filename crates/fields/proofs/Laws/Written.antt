-- What is written as a field is read as that field, wherever it stands, and so is a field of a part.
--
-- In order:
--   length-field_bytes    five bytes and the value
--   id_written           the ID stands at the field's place
--   size_written         the size stands behind it, where it is an Int32
--   bytes_at_written      the value stands behind the five bytes
--   length_written       how long all of it is
--   field_at_written      the field is found, where its size is right
--   Passed, field_at_passed    a field that is found passed the tests
--   le_inside            a number of a part, in the whole
--   field_at_inside       a field of a part is that of the whole, further on
-- Not here: a field that is found in any bytes (Laws.Fields).
-- Assumes nothing.
use mathlib.Core.Path.{◌≡◌, refl, sym, ap, ◌∙◌}
use mathlib.Core.Bool.{Bool, true, false}
use mathlib.Core.List.{List, ◌++◌, append_assoc}
use Prim.Native.Nat.{ℕ, ◌+◌, ◌-◌, ◌%◌, ◌^◌, ◌≤◌, ◌<◌}
use native.Mathlib.Nat.{add_assoc}
use native.Mathlib.Omega.{arith}
use lib.Dec.{leb}
use lib.ListN.{length, get_or, drop, length-append, length-drop, get_or-append}
use lib.Seq.{get_or-append_seam, get_or-append-add, drop-append_seam, drop-append-add, drop-append-le, take-append_seam, take-append-le}
use borrow.Author.Tests.{le-leb, lt-ltb, leb-true}
use Rattle.words.specs.Endian.{le, le_bytes}
use Rattle.words.specs.Size.{int32}
use Rattle.std.specs.Prelude.{Option, Some, None, Result, Ok, Err}
use Rattle.words.proofs.Laws.Cases.{by_bool}
use Rattle.words.proofs.Laws.Endian.{le-drop, le-append, le-le_bytes, length-le_bytes}
use Rattle.refusals.specs.declared.Refusal.TheVariants.{CutShort, WrongSize}
use Rattle.fields.specs.declared.Place.{Place}
use Rattle.fields.specs.declared.SizeRule.{SizeRule}
use Rattle.refusals.specs.declared.Refusal.{Refusal}
use Rattle.fields.proofs.Laws.Fields.{field_at_stands}
use Rattle.fields.specs.Fields.{bytes_at, fits, value_at, field_at, field_bytes}

pub length-field_bytes : (id : ℕ) (value : List ℕ) → length (field_bytes id value) ≡ 5 + length value
unfolding field_bytes
length-field_bytes id value = simp (length-append, length-le_bytes) (omega arith)

module _ (before : List ℕ) (id : ℕ) (value rest : List ℕ) where
  -- the field and what follows, behind what stands before
  drop_written : (n : ℕ) → drop (length before + n) (before ++ field_bytes id value ++ rest)
      ≡ drop n (field_bytes id value ++ rest)
  drop_written n = rw append_assoc (drop-append-add before (field_bytes id value ++ rest) n)

  pub id_written : get_or (before ++ field_bytes id value ++ rest) (length before) 0 ≡ id
  unfolding field_bytes
  id_written = rw append_assoc (get_or-append_seam before id (le_bytes 4 (length value) ++ value ++ rest) 0)

  -- the four bytes behind the ID are those of the number
  le_front : le 4 (field_bytes id value ++ rest) 1 ≡ le 4 (le_bytes 4 (length value)) 0
  unfolding field_bytes le_bytes le
  le_front = refl

  pub size_written : length value < 2 ^ 31
      → int32 (le 4 (before ++ field_bytes id value ++ rest) (length before + 1)) ≡ Some (length value)
  unfolding int32
  size_written h =
      let m : length value % 256 ^ 4 ≡ length value = omega arith in
      let e : le 4 (before ++ field_bytes id value ++ rest) (length before + 1) ≡ length value =
      rw append_assoc
      (sym (le-drop (length before) 4 (before ++ (field_bytes id value ++ rest)) 1)
      ∙ ap (λ (s : List ℕ). le 4 s 1) (drop-append_seam before (field_bytes id value ++ rest))
      ∙ le_front ∙ le-le_bytes 4 (length value) ∙ m) in
      rw (e, lt-ltb (length value) (2 ^ 31) h)

  -- behind the five bytes stands the value
  drop_front : drop 5 (field_bytes id value ++ rest) ≡ value ++ rest
  unfolding field_bytes le_bytes
  drop_front = refl

  pub bytes_at_written : bytes_at (before ++ field_bytes id value ++ rest)
      (record { start = length before + 5; length = length value }) ≡ value
  bytes_at_written = rw (drop_written 5, drop_front) (take-append_seam value rest)

  pub length_written : length (before ++ field_bytes id value ++ rest) ≡ length before + 5 + length value + length rest
  length_written = simp (length-append, length-field_bytes) (omega arith)

  pub field_at_written : (rule : SizeRule) → length value < 2 ^ 31 → fits rule (length value) ≡ true
      → field_at true false rule (before ++ field_bytes id value ++ rest) (length before)
      ≡ Ok (id, record { start = length before + 5; length = length value })
  unfolding field_at value_at
  field_at_written rule h f =
      let l = length_written in
      let a : length before + 5 ≤ length (before ++ field_bytes id value ++ rest) = omega arith in
      let b : length value ≤ length (before ++ field_bytes id value ++ rest) - (length before + 5) = omega arith in
      rw (le-leb _ _ a, size_written h, f, le-leb _ _ b, id_written)

-- what a field that is found passed
pub record Passed (l r : Bool) (rule : SizeRule) (p : Place) : Type 0 where
  pub listed_is : l ≡ true
  pub new_is : r ≡ false
  pub fits_is : fits rule p.length ≡ true

abbrev HasPassed : Bool → Bool → SizeRule → Result (ℕ × Place) Refusal → Type 0
HasPassed l r rule (Ok (id, p)) = Passed l r rule p
HasPassed l r rule (Err x) = 0 ≤ 0

value_at-passes : (l r : Bool) (rule : SizeRule) (s : List ℕ) (at : ℕ) (z : Option ℕ) → l ≡ true → r ≡ false
    → HasPassed l r rule (value_at rule s at z)
unfolding value_at
value_at-passes l r rule s at None a b = omega arith
value_at-passes l r rule s at (Some n) a b =
    by_bool (fits rule n)
    (λ t. by_bool (leb n (length s - (at + 5)))
    (λ u. rw (t, u) (record { listed_is = a; new_is = b; fits_is = t }))
    (λ u. rw (t, u) (omega arith)))
    (λ t. rw t (omega arith))

field_at-passes : (l r : Bool) (rule : SizeRule) (s : List ℕ) (at : ℕ) → HasPassed l r rule (field_at l r rule s at)
unfolding field_at
field_at-passes l r rule s at =
    by_bool (leb (at + 5) (length s))
    (λ t. by_bool l
    (λ u. by_bool r
    (λ v. rw (t, u, v) (omega arith))
    (λ v. rw (t, u, v) (value_at-passes true false rule s at (int32 (le 4 s (at + 1))) refl refl)))
    (λ u. rw (t, u) (omega arith)))
    (λ t. rw t (omega arith))

pub field_at_passed : (l r : Bool) (rule : SizeRule) (s : List ℕ) (at id : ℕ) (p : Place)
    → field_at l r rule s at ≡ Ok (id, p) → Passed l r rule p
field_at_passed l r rule s at id p e = rw e at (field_at-passes l r rule s at)

-- a place of a part, in the whole
abbrev pub further : ℕ → Place → Place
further n p = record { start = n + p.start; length = p.length }

-- a field that is found, further on
abbrev shift : ℕ → Result (ℕ × Place) Refusal → Result (ℕ × Place) Refusal
shift n (Ok (id, p)) = Ok (id, further n p)
shift n (Err r) = Err r

module _ (before s rest : List ℕ) where
  pub le_inside : (n at : ℕ) → at + n ≤ length s → le n (before ++ s ++ rest) (length before + at) ≡ le n s at
  le_inside n at h =
      rw append_assoc
      (sym (le-drop (length before) n (before ++ (s ++ rest)) at)
      ∙ ap (λ (x : List ℕ). le n x at) (drop-append_seam before (s ++ rest)) ∙ le-append n s rest at h)

  pub get_or_inside : (at : ℕ) → at < length s → get_or (before ++ s ++ rest) (length before + at) 0 ≡ get_or s at 0
  get_or_inside at h = rw append_assoc (get_or-append-add before (s ++ rest) at 0 ∙ get_or-append s rest 0 at h)

  pub bytes_at_inside : (p : Place) → p.start + p.length ≤ length s
      → bytes_at (before ++ s ++ rest) (further (length before) p) ≡ bytes_at s p
  bytes_at_inside p h =
      let a : p.start ≤ length s = omega arith in
      let b : p.length ≤ length (drop p.start s) = simp length-drop (omega arith) in
      rw (append_assoc, drop-append-add before (s ++ rest) p.start, drop-append-le p.start s rest a)
      (take-append-le p.length (drop p.start s) rest b)

  longer : length (before ++ s ++ rest) ≡ length before + length s + length rest
  longer = simp length-append

  value_at_inside : (rule : SizeRule) (at id : ℕ) (p : Place) (z : Option ℕ) → at + 5 ≤ length s
      → value_at rule s at z ≡ Ok (id, p)
      → value_at rule (before ++ s ++ rest) (length before + at) z ≡ Ok (id, further (length before) p)
  unfolding value_at
  value_at_inside rule at id p None h e = let z : ◌≡◌ {A = ℕ} 0 1 = cc in absurd (omega arith)
  value_at_inside rule at id p (Some n) h e =
      by_bool (fits rule n)
      (λ t. by_bool (leb n (length s - (at + 5)))
      (λ u. let d : Ok (get_or s at 0, record { start = at + 5; length = n }) ≡ Ok (id, p) = rw (t, u) at e in
      let m = leb-true n (length s - (at + 5)) u in
      let l = longer in
      let k : n ≤ length (before ++ s ++ rest) - (length before + at + 5) = omega arith in
      rw (t, le-leb _ _ k, get_or_inside at (omega arith), add_assoc (length before) at 5)
      (ap (shift (length before)) d))
      (λ u. let d : Err (CutShort (length s)) ≡ Ok (id, p) = rw (t, u) at e in
      let z : ◌≡◌ {A = ℕ} 0 1 = cc in
      absurd (omega arith)))
      (λ t. let d : Err (WrongSize at) ≡ Ok (id, p) = rw t at e in
      let z : ◌≡◌ {A = ℕ} 0 1 = cc in
      absurd (omega arith))

  pub field_at_inside : (l r : Bool) (rule : SizeRule) (at id : ℕ) (p : Place) → field_at l r rule s at ≡ Ok (id, p)
      → field_at l r rule (before ++ s ++ rest) (length before + at) ≡ Ok (id, further (length before) p)
  unfolding field_at
  field_at_inside l r rule at id p e =
      let q = field_at_passed l r rule s at id p e in
      let w = field_at_stands l r rule s at id p e in
      let h : at + 5 ≤ length s = omega arith in
      let m = longer in
      let k : length before + at + 5 ≤ length (before ++ s ++ rest) = omega arith in
      let b : at + 1 + 4 ≤ length s = omega arith in
      let g : length before + at + 1 ≡ length before + (at + 1) = omega arith in
      let d = rw (le-leb _ _ h, q.listed_is, q.new_is) at e in
      rw (le-leb _ _ k, q.listed_is, q.new_is, g, le_inside 4 (at + 1) b)
      (value_at_inside rule at id p (int32 (le 4 s (at + 1))) h d)
