-- A field of a whole header, behind any other fields.
--
-- In order:
--   before_walk        the walk comes to the place behind the fields before it, with turns to spare
--   header_field       a field that is refused there is the header's refusal
-- Assumes nothing.
use mathlib.Core.Path.{◌≡◌, refl, sym, ◌∙◌}
use mathlib.Core.List.{List}
use Prim.Native.Nat.{ℕ, ◌+◌, ◌-◌, ◌≤◌, ◌<◌}
use native.Mathlib.Omega.{arith}
use lib.ListN.{length}
use borrow.Author.Tests.{ne_eqb}
use Rattle.refusals.specs.declared.Refusal.{Refusal}
use Rattle.std.specs.Prelude.{Ok, Err}
use Rattle.outer_header.specs.Kdbx4Header.{no_fields, field_here, walk_in, walk, judged_in, body, header}
use Rattle.outer_header.specs.declared.walk.Fields.{Fields}
use Rattle.outer_header.proofs.Laws.Accepted.{header-body}
use Rattle.outer_header.proofs.Laws.Walk.{field_here_stands, walk_more}
use Rattle.round_trip.specs.Worked.{Front, Before, none, more}

-- the walk, come to a place with k turns left
record Walks (s : List ℕ) (f : Fields) (at : ℕ) : Type 0 where
  left : ℕ
  walk_is : walk (length s) no_fields s 12 ≡ walk left f s at
  spare : length s + 12 ≤ left + at

before_walk : (s : List ℕ) {f : Fields} {at : ℕ} → Before s f at → Walks s f at
unfolding walk_in
before_walk s none = record { left = length s; walk_is = refl; spare = omega arith }
before_walk s (more {f = f} {at = at} b id p e n) =
    let w = before_walk s b in
    let h = field_here_stands f s at id p e in
    let some : 0 < w.left = omega (arith, w.spare, h.start_is, h.within) in
    record {
      left = w.left - 1;
      walk_is = w.walk_is ∙ walk_more w.left f s at (Ok (id, p)) some (sym e) ∙ rw (ne_eqb id 0 n);
      spare = omega (arith, w.spare, h.start_is, some);
    }

pub header_field : (s : List ℕ) (f : Fields) (at : ℕ) (r : Refusal) → Front s → Before s f at → at ≤ length s
    → field_here f s at ≡ Err r
    → header s ≡ Err r
unfolding body judged_in walk_in
header_field s f at r t b i e =
    let w = before_walk s b in
    let some : 0 < w.left = omega (arith, w.spare) in
    let g : walk (length s) no_fields s 12 ≡ Err r =
    w.walk_is ∙ walk_more w.left f s at (Err r) some (sym e) in
    header-body s t.minor t.fits t.long t.first_is t.second_is t.minor_le t.version_is ∙ rw g
