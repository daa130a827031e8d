-- The place of a field that is refused: the field's first byte, within the input, or the input's length.
--
-- In order: lies, value_at_lies, field_at_lies.
-- Assumes nothing.
use mathlib.Core.Path.{refl}
use mathlib.Core.Bool.{Bool}
use mathlib.Core.List.{List}
use Prim.Native.Nat.{ℕ, ◌+◌, ◌-◌, ◌≤◌, ◌<◌}
use native.Mathlib.Omega.{arith}
use lib.Dec.{leb}
use lib.ListN.{length}
use borrow.Author.Tests.{leb-true}
use Rattle.words.specs.Endian.{le}
use Rattle.words.specs.Size.{int32}
use Rattle.std.specs.Prelude.{Option, Some, None, Result, Ok, Err}
use Rattle.words.proofs.Laws.Cases.{by_bool}
use Rattle.fields.specs.declared.SizeRule.{SizeRule}
use Rattle.refusals.specs.declared.Refusal.{Refusal}
use Rattle.fields.specs.declared.Place.{Place}
use Rattle.fields.specs.Fields.{fits, value_at, field_at}
use Rattle.places.specs.Places.{LiesIn}

-- nothing is said of a field that is found
abbrev pub Lies : ℕ → Result (ℕ × Place) Refusal → Type 0
Lies n (Ok (id, p)) = 0 ≤ 0
Lies n (Err r) = LiesIn n r

value_at_lies : (rule : SizeRule) (s : List ℕ) (at : ℕ) (z : Option ℕ) → at < length s → Lies (length s) (value_at rule s at z)
unfolding value_at
value_at_lies rule s at None h = h
value_at_lies rule s at (Some n) h =
    by_bool (fits rule n)
    (λ t. by_bool (leb n (length s - (at + 5))) (λ u. rw (t, u) (omega arith)) (λ u. rw (t, u) refl))
    (λ t. rw t h)

pub field_at_lies : (l r : Bool) (rule : SizeRule) (s : List ℕ) (at : ℕ) → Lies (length s) (field_at l r rule s at)
unfolding field_at
field_at_lies l r rule s at =
    by_bool (leb (at + 5) (length s))
    (λ t.
    let h : at < length s = omega (arith, leb-true (at + 5) (length s) t) in
    by_bool l
    (λ u. by_bool r
    (λ v. rw (t, u, v) h)
    (λ v. rw (t, u, v) (value_at_lies rule s at (int32 (le 4 s (at + 1))) h)))
    (λ u. rw (t, u) h))
    (λ t. rw t refl)
