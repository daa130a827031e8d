-- Where the parts of an item lie.
--
-- In order: entry_at_past (no entry behind the end), IsWithin, entry_at_within (an item's parts lie one after the other,
-- within the dictionary, and its value's size fits its type), name_from_lem (its name is the one behind its name size).
-- Assumes nothing.
use mathlib.Core.Path.{◌≡◌, refl, ap₂}
use mathlib.Core.Bool.{true}
use mathlib.Core.List.{List}
use Prim.Native.Nat.{ℕ, ◌+◌, ◌-◌, ◌≤◌, ◌^◌}
use native.Mathlib.Omega.{arith}
use lib.Dec.{eqb, leb, ltb}
use lib.ListN.{length, get_or, take, drop}
use borrow.Author.Tests.{le-leb, leb-false, ltb-false}
use Rattle.words.specs.Endian.{le}
use Rattle.words.specs.Size.{int32}
use Rattle.std.specs.Prelude.{Option, Some, None, Result, Ok, Err}
use Rattle.words.proofs.Laws.Cases.{by_bool}
use Rattle.dictionary.specs.declared.Item.{Item}
use Rattle.dictionary.specs.Dictionary.{size_fits_type, item_at, value_at, name_at, entry_at, name_of, next}
use Rattle.dictionary.specs.Order.{name_from}

pub entry_at_past : (s : List ℕ) (at : ℕ) → length s ≤ at → entry_at s at ≡ Err 0
unfolding entry_at
entry_at_past s at h = rw (le-leb (length s) at h)

-- the item at a place: its name and its value lie one after the other, within the dictionary, and its size fits
pub record IsWithin (s : List ℕ) (at : ℕ) (i : Item) : Type 0 where
  pub name_start : i.name ≡ at + 5
  pub value_start : i.value ≡ at + 5 + i.name_len + 4
  pub next_le : next i ≤ length s
  pub fits : size_fits_type i.kind i.value_len ≡ true

end_never : (i : Item) → ◌≡◌ {A = Result (Option Item) ℕ} (Ok None) (Ok (Some i)) → ⊥
end_never i p = let z : ◌≡◌ {A = ℕ} 0 1 = cc in omega arith

broken_never : (b : ℕ) (i : Item) → ◌≡◌ {A = Result (Option Item) ℕ} (Err b) (Ok (Some i)) → ⊥
broken_never b i p = let z : ◌≡◌ {A = ℕ} 0 1 = cc in omega arith

value_at_within : (s : List ℕ) (at n : ℕ) (v : Option ℕ) (i : Item) → at + 5 + n + 4 ≤ length s
    → value_at s at n v ≡ Ok (Some i) → IsWithin s at i
unfolding value_at
value_at_within s at n None i h = λ p. absurd (broken_never _ i p)
value_at_within s at n (Some v) i h =
    by_bool (ltb (length s - (at + 5 + n + 4)) v)
    (λ t. rw t (λ p. absurd (broken_never _ i p)))
    (λ t. by_bool (size_fits_type (get_or s at 0) v)
    (λ u. rw (t, u) (λ p.
    let e : item_at s at n v ≡ i = cc in
    let k : at + 5 + n + 4 + v ≤ length s = omega (arith, ltb-false (length s - (at + 5 + n + 4)) v t) in
    rw (← e) (record { name_start = refl; value_start = refl; next_le = k; fits = u })))
    (λ u. rw (t, u) (λ p. absurd (broken_never _ i p))))

name_at_within : (s : List ℕ) (at : ℕ) (n : Option ℕ) (i : Item) → at + 5 ≤ length s → name_at s at n ≡ Ok (Some i)
    → IsWithin s at i
unfolding name_at
name_at_within s at None i h = λ p. absurd (broken_never _ i p)
name_at_within s at (Some n) i h =
    by_bool (ltb (length s - (at + 5)) (n + 4))
    (λ t. rw t (λ p. absurd (broken_never _ i p)))
    (λ t. rw t (value_at_within s at n (int32 (le 4 s (at + 5 + n))) i
    (omega (arith, ltb-false (length s - (at + 5)) (n + 4) t))))

pub entry_at_within : (s : List ℕ) (at : ℕ) (i : Item) → entry_at s at ≡ Ok (Some i) → IsWithin s at i
unfolding entry_at
entry_at_within s at i =
    by_bool (leb (length s) at)
    (λ t. rw t (λ p. absurd (broken_never _ i p)))
    (λ t. by_bool (eqb (get_or s at 0) 0)
    (λ u. by_bool (eqb (length s - at) 1)
    (λ v. rw (t, u, v) (λ p. absurd (end_never i p)))
    (λ v. rw (t, u, v) (λ p. absurd (broken_never _ i p))))
    (λ u. by_bool (ltb (length s - at) 5)
    (λ v. rw (t, u, v) (λ p. absurd (broken_never _ i p)))
    (λ v. rw (t, u, v) (name_at_within s at (int32 (le 4 s (at + 1))) i
    (omega (arith, leb-false (length s) at t, ltb-false (length s - at) 5 v))))))

value_at_len : (s : List ℕ) (at n : ℕ) (v : Option ℕ) (i : Item) → value_at s at n v ≡ Ok (Some i) → i.name_len ≡ n
unfolding value_at
value_at_len s at n None i = λ p. absurd (broken_never _ i p)
value_at_len s at n (Some v) i =
    by_bool (ltb (length s - (at + 5 + n + 4)) v)
    (λ t. rw t (λ p. absurd (broken_never _ i p)))
    (λ t. by_bool (size_fits_type (get_or s at 0) v)
    (λ u. rw (t, u) (λ p.
    let e : item_at s at n v ≡ i = cc in
    rw (← e)))
    (λ u. rw (t, u) (λ p. absurd (broken_never _ i p))))

name_at_len : (s : List ℕ) (at n : ℕ) (i : Item) → name_at s at (int32 n) ≡ Ok (Some i) → i.name_len ≡ n
unfolding name_at int32
name_at_len s at n i =
    by_bool (ltb n (2 ^ 31))
    (λ l. by_bool (ltb (length s - (at + 5)) (n + 4))
    (λ t. rw (l, t) (λ p. absurd (broken_never _ i p)))
    (λ t. rw (l, t) (value_at_len s at n (int32 (le 4 s (at + 5 + n))) i)))
    (λ l. rw l (λ p. absurd (broken_never _ i p)))

entry_at_len : (s : List ℕ) (at : ℕ) (i : Item) → entry_at s at ≡ Ok (Some i) → i.name_len ≡ le 4 s (at + 1)
unfolding entry_at
entry_at_len s at i =
    by_bool (leb (length s) at)
    (λ t. rw t (λ p. absurd (broken_never _ i p)))
    (λ t. by_bool (eqb (get_or s at 0) 0)
    (λ u. by_bool (eqb (length s - at) 1)
    (λ v. rw (t, u, v) (λ p. absurd (end_never i p)))
    (λ v. rw (t, u, v) (λ p. absurd (broken_never _ i p))))
    (λ u. by_bool (ltb (length s - at) 5)
    (λ v. rw (t, u, v) (λ p. absurd (broken_never _ i p)))
    (λ v. rw (t, u, v) (name_at_len s at (le 4 s (at + 1)) i))))

pub name_from_lem : (s : List ℕ) (at : ℕ) (i : Item) → entry_at s at ≡ Ok (Some i) → name_of s i ≡ name_from s at
name_from_lem s at i p =
    ap₂ (λ (n m : ℕ). take n (drop m s)) (entry_at_len s at i p) (entry_at_within s at i p).name_start
