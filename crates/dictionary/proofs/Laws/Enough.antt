-- The count of items never ends a walk: an item has nine bytes or more, so any count that reaches the dictionary's end
-- gives the same answer.
--
-- In order: next_far (an item has nine bytes or more), named_enough, walk_enough, search_from_enough.
-- Assumes nothing.
use mathlib.Core.Path.{◌≡◌, refl, sym, ap}
use mathlib.Core.Bool.{Bool, true, false, cond}
use mathlib.Core.List.{List}
use Prim.Native.Nat.{ℕ, zero, suc, ◌+◌, ◌≤◌}
use native.Mathlib.Omega.{arith}
use lib.Dec.{leb}
use lib.ListN.{length}
use Rattle.slices.specs.Same.{same}
use Rattle.dictionary.specs.declared.Fault.TheVariants as fault
use Rattle.dictionary.specs.declared.Fault.{Fault}
use Rattle.dictionary.specs.declared.Item.{Item}
use Rattle.std.specs.Prelude.{Option, Some, None, Result, Ok, Err}
use Rattle.dictionary.specs.declared.Value.{Value}
use Rattle.refusals.specs.declared.Refusal.{Refusal}
use Rattle.dictionary.specs.Dictionary.{entry_at, name_of, next, named_in, named, walk_in, walk, search_in, search_from}
use Rattle.dictionary.proofs.Laws.Entry.{entry_at_past, entry_at_within}

pub next_far : (s : List ℕ) (at : ℕ) (i : Item) → entry_at s at ≡ Ok (Some i) → at + 9 ≤ next i
next_far s at i p = let w = entry_at_within s at i p in omega arith

-- two ways on from an entry agree: a walk goes on at an item's end alone
abbrev Agree : {A : Type 0} → Result (Option Item) ℕ → (ℕ → A) → (ℕ → A) → Type 0
Agree e f g = (i : Item) → e ≡ Ok (Some i) → f (next i) ≡ g (next i)

module _ (s : List ℕ) (at : ℕ) where
  named_in-agree : (name : List ℕ) (e : Result (Option Item) ℕ) (f g : ℕ → Bool) → Agree e f g → named_in s name e f ≡ named_in s name e g
  unfolding named_in
  named_in-agree name (Ok (Some i)) f g h = ap (λ (r : Bool). cond (same (name_of s i) name) true r) (h i refl)
  named_in-agree name (Ok None) f g h = refl
  named_in-agree name (Err b) f g h = refl

  walk_in-agree : (e : Result (Option Item) ℕ) (f g : ℕ → Result Unit Fault) → Agree e f g → walk_in s at e f ≡ walk_in s at e g
  unfolding walk_in
  walk_in-agree (Ok (Some i)) f g h =
      ap (λ (r : Result Unit Fault). cond (named (length s) s 2 at (name_of s i)) (Err (fault.Repeated at)) r) (h i refl)
  walk_in-agree (Ok None) f g h = refl
  walk_in-agree (Err b) f g h = refl

  search_in-agree : (name : List ℕ) (e : Result (Option Item) ℕ) (f g : ℕ → Result (Option Value) Refusal) → Agree e f g
      → search_in s name e f ≡ search_in s name e g
  unfolding search_in
  search_in-agree name (Ok (Some i)) f g h =
      ap (λ (r : Result (Option Value) Refusal). cond (same (name_of s i) name) (Ok (Some (record { kind = i.kind; start = i.value; length = i.value_len }))) r) (h i refl)
  search_in-agree name (Ok None) f g h = refl
  search_in-agree name (Err b) f g h = refl

none : (b : Bool) → cond b false false ≡ false
none true = refl
none false = refl

pub named_enough : (k m : ℕ) (s : List ℕ) (at stop : ℕ) (name : List ℕ) → length s ≤ k + at → length s ≤ m + at
    → named k s at stop name ≡ named m s at stop name
unfolding named named_in
named_enough zero zero s at stop name h l = refl
named_enough zero (suc m) s at stop name h l =
    let p : length s ≤ at = omega arith in
    rw (entry_at_past s at p) (sym (none (leb stop at)))
named_enough (suc k) zero s at stop name h l =
    let p : length s ≤ at = omega arith in
    rw (entry_at_past s at p) (none (leb stop at))
named_enough (suc k) (suc m) s at stop name h l =
    ap (λ (r : Bool). cond (leb stop at) false r)
    (named_in-agree s at name (entry_at s at) (λ (n : ℕ). named k s n stop name) (λ (n : ℕ). named m s n stop name)
    (λ i p. let f = next_far s at i p in
    named_enough k m s (next i) stop name (omega arith) (omega arith)))

pub walk_enough : (k m : ℕ) (s : List ℕ) (at : ℕ) → length s ≤ k + at → length s ≤ m + at → walk k s at ≡ walk m s at
unfolding walk walk_in
walk_enough zero zero s at h l = refl
walk_enough zero (suc m) s at h l =
    let p : length s ≤ at = omega arith in
    rw (entry_at_past s at p)
walk_enough (suc k) zero s at h l =
    let p : length s ≤ at = omega arith in
    rw (entry_at_past s at p)
walk_enough (suc k) (suc m) s at h l =
    walk_in-agree s at (entry_at s at) (walk k s) (walk m s)
    (λ i p. let f = next_far s at i p in
    walk_enough k m s (next i) (omega arith) (omega arith))

pub search_from_enough : (k m : ℕ) (s : List ℕ) (at : ℕ) (name : List ℕ) → length s ≤ k + at → length s ≤ m + at
    → search_from k s at name ≡ search_from m s at name
unfolding search_from search_in
search_from_enough zero zero s at name h l = refl
search_from_enough zero (suc m) s at name h l =
    let p : length s ≤ at = omega arith in
    rw (entry_at_past s at p)
search_from_enough (suc k) zero s at name h l =
    let p : length s ≤ at = omega arith in
    rw (entry_at_past s at p)
search_from_enough (suc k) (suc m) s at name h l =
    search_in-agree s at name (entry_at s at) (λ (n : ℕ). search_from k s n name) (λ (n : ℕ). search_from m s n name)
    (λ i p. let f = next_far s at i p in
    search_from_enough k m s (next i) name (omega arith) (omega arith))
