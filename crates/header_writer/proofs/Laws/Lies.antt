-- A written field that lies somewhere in a file, and the reader's walk over it.
--
-- In order:
--   Lies             a field lies at a place, and its value at p
--   bytes_at_lies     the bytes at p are its value
--   le_lies          a number of its value
--   field_here_lies   the reader finds it there
--   walk_lies        .. and walks on behind it
--   walk_end         .. and ends with the end field
-- Not here: fields in general (crate fields, Laws.Written).
-- Assumes nothing.
use mathlib.Core.Path.{◌≡◌, refl, sym, ap, ap₂, ◌∙◌}
use mathlib.Core.Bool.{true, false}
use mathlib.Core.List.{List, ◌++◌}
use Prim.Native.Nat.{ℕ, ◌+◌, ◌-◌, ◌^◌, ◌≤◌, ◌<◌}
use native.Mathlib.Omega.{arith}
use lib.ListN.{length}
use borrow.Author.Tests.{ne_eqb}
use Rattle.words.specs.Endian.{le}
use Rattle.slices.proofs.Laws.Same.{same_refl}
use Rattle.fields.specs.Fields.{bytes_at, end_of, fits, field_bytes}
use Rattle.fields.specs.declared.Place.{Place}
use Rattle.std.specs.Prelude.{Ok}
use Rattle.fields.proofs.Laws.Written.{id_written, bytes_at_written, field_at_written, le_inside, length-field_bytes}
use Rattle.outer_header.specs.declared.walk.Fields.{Fields}
use Rattle.outer_header.specs.Kdbx4Header.{listed, size_rule, seen, put, field_here, ends_right, walk_in, walk}
use Rattle.outer_header.proofs.Laws.Walk.{walk_more}
use Rattle.header_writer.specs.Written.{end_bytes}

-- the field lies at the place `at` of s, and its value at p
pub record Lies (s : List ℕ) (at id : ℕ) (value : List ℕ) (p : Place) : Type 0 where
  pub before : List ℕ
  pub after : List ℕ
  pub whole : s ≡ before ++ field_bytes id value ++ after
  pub at_is : length before ≡ at
  pub start_is : at + 5 ≡ p.start
  pub length_is : length value ≡ p.length

module _ (s : List ℕ) (at id : ℕ) (value : List ℕ) (p : Place) (w : Lies s at id value p) where
  -- its value's place, reckoned from the bytes before
  place_is : record { start = length w.before + 5; length = length value } ≡ p
  place_is =
      ap₂ (λ (a b : ℕ). record { start = a; length = b }) (ap (λ (n : ℕ). n + 5) w.at_is ∙ w.start_is)
      w.length_is

  pub bytes_at_lies : bytes_at s p ≡ value
  bytes_at_lies =
      ap₂ (λ (x : List ℕ) (q : Place). bytes_at x q) w.whole (sym place_is)
      ∙ bytes_at_written w.before id value w.after

  -- n bytes of its value, as a number
  pub le_lies : (n i : ℕ) → 5 + i + n ≤ 5 + length value → le n s (at + (5 + i)) ≡ le n (field_bytes id value) (5 + i)
  le_lies n i h =
      let l : 5 + i + n ≤ length (field_bytes id value) = rw length-field_bytes h in
      ap₂ (λ (x : List ℕ) (m : ℕ). le n x (m + (5 + i))) w.whole (sym w.at_is)
      ∙ le_inside w.before (field_bytes id value) w.after n (5 + i) l

  module _ (f : Fields) (l : listed id ≡ true) (n : seen f id ≡ false) (z : fits (size_rule id) p.length ≡ true)
      (small : p.length < 2 ^ 31) where
    here : field_here f (w.before ++ field_bytes id value ++ w.after) (length w.before)
        ≡ Ok (id, record { start = length w.before + 5; length = length value })
    unfolding field_here
    here =
        let m = w.length_is in
        let i = id_written w.before id value w.after in
        let b : length value < 2 ^ 31 = omega arith in
        rw (i, l, n) (field_at_written w.before id value w.after (size_rule id) b (rw m z))

    pub field_here_lies : field_here f s at ≡ Ok (id, p)
    field_here_lies =
        ap₂ (λ (x : List ℕ) (m : ℕ). field_here f x m) w.whole (sym w.at_is)
        ∙ here ∙ ap (λ (q : Place). Ok (id, q)) place_is

    pub walk_lies : (k next : ℕ) → 0 < k → (id ≡ 0 → ⊥) → end_of p ≡ next
        → walk k f s at ≡ walk (k - 1) (put f id p) s next
    unfolding walk_in
    walk_lies k next h o e =
        walk_more k f s at (Ok (id, p)) h (sym field_here_lies)
        ∙ rw (ne_eqb id 0 o, e)

pub walk_end : (s : List ℕ) (at : ℕ) (p : Place) (f : Fields) (k end : ℕ) → Lies s at 0 end_bytes p → 0 < k
    → end_of p ≡ end
    → walk k f s at ≡ Ok (f, end)
unfolding walk_in ends_right listed seen size_rule fits
walk_end s at p f k end w h e =
    let m : p.length ≡ 4 = sym w.length_is in
    let b : bytes_at s p ≡ end_bytes = bytes_at_lies s at 0 end_bytes p w in
    let z : fits (size_rule 0) p.length ≡ true = rw m in
    let i : field_here f s at ≡ Ok (0, p) = field_here_lies s at 0 end_bytes p w f refl refl z (omega arith) in
    walk_more k f s at (Ok (0, p)) h (sym i) ∙ rw (b, same_refl end_bytes, e)
