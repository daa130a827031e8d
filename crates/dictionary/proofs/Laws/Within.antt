-- A verdict's place lies within the dictionary, or is 0 where that is empty: it is at most the length less one.
--
-- In order: Placed, entry_at-placed, walk-placed, verdict-placed; part_end_lt, broken_lt, repeated_lt (in a file).
-- Assumes nothing.
use mathlib.Core.Path.{◌≡◌, refl, sym, ap, ◌∙◌}
use mathlib.Core.List.{List}
use Prim.Native.Nat.{ℕ, zero, suc, ◌+◌, ◌-◌, ◌≤◌, ◌<◌}
use native.Mathlib.Omega.{arith}
use lib.Dec.{eqb, leb, ltb}
use lib.ListN.{length, get_or, take, drop, length-take, length-drop}
use borrow.Author.Tests.{leb-false}
use Rattle.words.specs.Endian.{le}
use Rattle.words.specs.Size.{int32}
use Rattle.std.specs.Prelude.{Option, Some, None, Result, Ok, Err}
use Rattle.words.proofs.Laws.Cases.{by_bool}
use Rattle.dictionary.specs.declared.Item.{Item}
use Rattle.dictionary.specs.declared.Fault.TheVariants as fault
use Rattle.dictionary.specs.declared.Fault.{Fault}
use Rattle.dictionary.specs.Dictionary.{size_fits_type, value_at, name_at, entry_at, name_of, next, named, walk_in, walk, verdict}
use Rattle.dictionary.proofs.Laws.Entry.{entry_at_within}

-- the place of a fault is no further than n
abbrev pub Placed : ℕ → Result Unit Fault → Type 0
Placed n (Ok tt) = 0 ≤ 0
Placed n (Err (fault.Broken at)) = at ≤ n
Placed n (Err (fault.Repeated at)) = at ≤ n

abbrev BrokenAt : ℕ → Result (Option Item) ℕ → Type 0
BrokenAt n (Ok (Some i)) = 0 ≤ 0
BrokenAt n (Ok None) = 0 ≤ 0
BrokenAt n (Err b) = b ≤ n

value_at-placed : (s : List ℕ) (at n : ℕ) (v : Option ℕ) (m : ℕ) → at ≤ m → BrokenAt m (value_at s at n v)
unfolding value_at
value_at-placed s at n None m h = h
value_at-placed s at n (Some v) m h =
    by_bool (ltb (length s - (at + 5 + n + 4)) v)
    (λ t. rw t h)
    (λ t. by_bool (size_fits_type (get_or s at 0) v) (λ u. rw (t, u) (omega arith)) (λ u. rw (t, u) h))

name_at-placed : (s : List ℕ) (at : ℕ) (n : Option ℕ) (m : ℕ) → at ≤ m → BrokenAt m (name_at s at n)
unfolding name_at
name_at-placed s at None m h = h
name_at-placed s at (Some n) m h =
    by_bool (ltb (length s - (at + 5)) (n + 4))
    (λ t. rw t h)
    (λ t. rw t (value_at-placed s at n (int32 (le 4 s (at + 5 + n))) m h))

entry_at-placed : (s : List ℕ) (at : ℕ) → BrokenAt (length s - 1) (entry_at s at)
unfolding entry_at
entry_at-placed s at =
    by_bool (leb (length s) at)
    (λ t. rw t (omega arith))
    (λ t. by_bool (eqb (get_or s at 0) 0)
    (λ u. by_bool (eqb (length s - at) 1) (λ v. rw (t, u, v) (omega arith)) (λ v. rw (t, u, v) (omega arith)))
    (λ u. by_bool (ltb (length s - at) 5)
    (λ v. rw (t, u, v) (omega (arith, leb-false (length s) at t)))
    (λ v. rw (t, u, v) (name_at-placed s at (int32 (le 4 s (at + 1))) (length s - 1)
    (omega (arith, leb-false (length s) at t))))))

module _ (s : List ℕ) where
  walk_in_lem : (at : ℕ) (e : Result (Option Item) ℕ) (f : ℕ → Result Unit Fault) → BrokenAt (length s - 1) e
      → ((i : Item) → e ≡ Ok (Some i) → at ≤ length s - 1) → ((n : ℕ) → Placed (length s - 1) (f n))
      → Placed (length s - 1) (walk_in s at e f)
  unfolding walk_in
  walk_in_lem at (Ok (Some i)) f b h g =
      by_bool (named (length s) s 2 at (name_of s i)) (λ t. rw t (h i refl)) (λ t. rw t (g (next i)))
  walk_in_lem at (Ok None) f b h g = omega arith
  walk_in_lem at (Err b) f l h g = l

  walk-placed : (k at : ℕ) → Placed (length s - 1) (walk k s at)
  unfolding walk
  walk-placed zero at = omega arith
  walk-placed (suc k) at =
      walk_in_lem at (entry_at s at) (walk k s) (entry_at-placed s at)
      (λ i p. let w = entry_at_within s at i p in omega (arith, w.next_le)) (λ n. walk-placed k n)

  pub verdict-placed : Placed (length s - 1) (verdict s)
  unfolding verdict
  verdict-placed =
      by_bool (ltb (length s) 3)
      (λ t. rw t (omega arith))
      (λ t. by_bool (eqb (get_or s 1 0) 1) (λ u. rw (t, u) (walk-placed (length s) 2)) (λ u. rw (t, u) (omega arith)))

-- a part ends within the list, and one behind the list is empty
pub part_end_lt : (n at : ℕ) (s : List ℕ) (m : ℕ) → at < m → length s < m → at + length (take n (drop at s)) < m
part_end_lt n at s m h k = simp (length-take, length-drop) (omega arith)

-- a fault's place lies within the part
pub broken_lt : (n at : ℕ) (s d : List ℕ) (v : Result Unit Fault) (x m : ℕ) → d ≡ take n (drop at s) → v ≡ verdict d
    → v ≡ Err (fault.Broken x) → at < m → length s < m → at + x < m
broken_lt n at s d v x m e q r h k =
    let p = rw (sym q ∙ r) at (verdict-placed d) in
    let l = part_end_lt n at s m h k in
    omega (arith, ap length e)

pub repeated_lt : (n at : ℕ) (s d : List ℕ) (v : Result Unit Fault) (x m : ℕ) → d ≡ take n (drop at s) → v ≡ verdict d
    → v ≡ Err (fault.Repeated x) → at < m → length s < m → at + x < m
repeated_lt n at s d v x m e q r h k =
    let p = rw (sym q ∙ r) at (verdict-placed d) in
    let l = part_end_lt n at s m h k in
    omega (arith, ap length e)
