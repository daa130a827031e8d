-- Walks over the items of a dictionary.
--
-- In order: named_past (no place before `stop` is left), named_more, walk_more, search_from_more (one turn, by what
-- stands at the place).
-- Assumes nothing.
use mathlib.Core.Path.{◌≡◌, refl}
use mathlib.Core.Bool.{false}
use mathlib.Core.List.{List}
use Prim.Native.Nat.{ℕ, zero, suc, ◌-◌, ◌≤◌, ◌<◌}
use native.Mathlib.Omega.{arith}
use native.Mathlib.Numerals.{sub-one}
use borrow.Author.Tests.{le-leb, lt-leb}
use Rattle.std.specs.Prelude.{Option, Result}
use Rattle.dictionary.specs.declared.Item.{Item}
use Rattle.dictionary.specs.Dictionary.{entry_at, named_in, named, walk_in, walk, search_in, search_from}

pub named_past : (k : ℕ) (s : List ℕ) (at stop : ℕ) (name : List ℕ) → stop ≤ at → named k s at stop name ≡ false
unfolding named
named_past zero s at stop name h = refl
named_past (suc k) s at stop name h = rw (le-leb stop at h)

pub named_more : (k : ℕ) (s : List ℕ) (at stop : ℕ) (name : List ℕ) (e : Result (Option Item) ℕ) → 0 < k → at < stop → e ≡ entry_at s at
    → named k s at stop name ≡ named_in s name e (λ (n : ℕ). named (k - 1) s n stop name)
unfolding named
named_more zero s at stop name e h l p = absurd (omega arith)
named_more (suc k) s at stop name e h l p = rw (lt-leb stop at l, p, sub-one)

pub walk_more : (k : ℕ) (s : List ℕ) (at : ℕ) (e : Result (Option Item) ℕ) → 0 < k → e ≡ entry_at s at
    → walk k s at ≡ walk_in s at e (walk (k - 1) s)
unfolding walk
walk_more zero s at e h p = absurd (omega arith)
walk_more (suc k) s at e h p = rw (p, sub-one)

pub search_from_more : (k : ℕ) (s : List ℕ) (at : ℕ) (name : List ℕ) (e : Result (Option Item) ℕ) → 0 < k → e ≡ entry_at s at
    → search_from k s at name ≡ search_in s name e (λ (n : ℕ). search_from (k - 1) s n name)
unfolding search_from
search_from_more zero s at name e h p = absurd (omega arith)
search_from_more (suc k) s at name e h p = rw (p, sub-one)
