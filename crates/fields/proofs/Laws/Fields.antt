-- Fields of a header.
--
-- In order: Stands, field_at_stands (a field that is found has the ID at its place, and its value stands behind the five
-- bytes, within the file).
-- Not here: reading back what was written (Laws.Written).
-- Assumes nothing.
use mathlib.Core.Path.{◌≡◌, refl}
use mathlib.Core.Bool.{Bool}
use mathlib.Core.List.{List}
use Prim.Native.Nat.{ℕ, ◌+◌, ◌-◌, ◌≤◌}
use native.Mathlib.Omega.{arith}
use lib.Dec.{leb}
use lib.ListN.{length, get_or}
use borrow.Author.Tests.{leb-true}
use Rattle.words.specs.Endian.{le}
use Rattle.words.specs.Size.{int32}
use Rattle.std.specs.Prelude.{Option, Some, None, Result, Ok, Err}
use Rattle.words.proofs.Laws.Cases.{by_bool}
use Rattle.fields.specs.declared.Place.{Place}
use Rattle.fields.specs.declared.SizeRule.{SizeRule}
use Rattle.refusals.specs.declared.Refusal.{Refusal}
use Rattle.fields.specs.Fields.{fits, value_at, field_at}

-- what a field that is found keeps to
pub record Stands (s : List ℕ) (at id : ℕ) (p : Place) : Type 0 where
  pub id_is : id ≡ get_or s at 0
  pub start_is : p.start ≡ at + 5
  pub within : p.start + p.length ≤ length s

-- nothing is said of a refusal
abbrev Kept : List ℕ → ℕ → Result (ℕ × Place) Refusal → Type 0
Kept s at (Ok (id, p)) = Stands s at id p
Kept s at (Err r) = 0 ≤ 0

value_at_kept : (rule : SizeRule) (s : List ℕ) (at : ℕ) (z : Option ℕ) → at + 5 ≤ length s → Kept s at (value_at rule s at z)
unfolding value_at
value_at_kept rule s at None h = omega arith
value_at_kept rule s at (Some n) h =
    by_bool (fits rule n)
    (λ t. by_bool (leb n (length s - (at + 5)))
    (λ u. rw (t, u) (record {
      id_is = refl;
      start_is = refl;
      within = omega (arith, leb-true n (length s - (at + 5)) u);
    }))
    (λ u. rw (t, u) (omega arith)))
    (λ t. rw t (omega arith))

field_at_kept : (l r : Bool) (rule : SizeRule) (s : List ℕ) (at : ℕ) → Kept s at (field_at l r rule s at)
unfolding field_at
field_at_kept l r rule s at =
    by_bool (leb (at + 5) (length s))
    (λ t. by_bool l
    (λ u. by_bool r
    (λ v. rw (t, u, v) (omega arith))
    (λ v. rw (t, u, v) (value_at_kept rule s at (int32 (le 4 s (at + 1))) (leb-true (at + 5) (length s) t))))
    (λ u. rw (t, u) (omega arith)))
    (λ t. rw t (omega arith))

pub field_at_stands : (l r : Bool) (rule : SizeRule) (s : List ℕ) (at id : ℕ) (p : Place)
    → field_at l r rule s at ≡ Ok (id, p) → Stands s at id p
field_at_stands l r rule s at id p e = rw e at (field_at_kept l r rule s at)
