-- Where the items of a dictionary begin, and what the places of its readers are.
--
-- In order:
--   Read, entry_at_says    an entry at a place that the items come to: an item with its sizes, or a fault
--   read_next             the items come to the place behind an item
--   read_named            an item begins with its name
--   verdict_points        a repeated name is refused at the second item, a fault at an item or at the front
--   searched_begins       the item that is found: FoundItem
-- Not here: what is not found (Missing); that the places lie inside the dictionary (crate dictionary, Laws.Within).
-- Assumes nothing.
use mathlib.Core.Path.{◌≡◌, refl, sym, ap, ap₂, subst, ◌∙◌}
use mathlib.Core.Bool.{Bool, true, false≢true}
use mathlib.Core.List.{List}
use Prim.Native.Nat.{ℕ, zero, suc, ◌+◌, ◌-◌, ◌≤◌, ◌<◌}
use native.Mathlib.Omega.{arith}
use lib.Dec.{eqb, leb, ltb}
use lib.ListN.{length, get_or, take, drop, length-take, length-drop, get_or-eq_default}
use borrow.Author.Tests.{eqb-true, eqb-false, leb-true, leb-false, ltb-true, ltb-false}
use Rattle.words.specs.Endian.{le}
use Rattle.words.specs.Size.{int32}
use Rattle.std.specs.Prelude.{Option, Some, None, Result, Ok, Err}
use Rattle.words.proofs.Laws.Cases.{by_bool}
use Rattle.slices.specs.Same.{same}
use Rattle.slices.proofs.Laws.Same.{same_true}
use Rattle.dictionary.specs.Dictionary.{
  size_fits_type,
  value_at,
  name_at,
  entry_at,
  name_of,
  next,
  named_in,
  named,
  walk_in,
  walk,
  verdict,
  search_in,
  search_from,
}
use Rattle.dictionary.specs.declared.Item.{Item}
use Rattle.dictionary.specs.declared.Fault.TheVariants as fault
use Rattle.dictionary.specs.declared.Fault.{Fault}
use Rattle.dictionary.specs.declared.Value.{Value}
use Rattle.refusals.specs.declared.Refusal.{Refusal}
use Rattle.dictionary.proofs.Laws.Entry.{entry_at_within}
use Rattle.places.specs.Items.{SoundItem, ComeTo, ItemAt, ItemOf, ItemAgain, FaultAt}
use Rattle.places.proofs.Laws.Sizes.{negative_never, of_same}

-- an item that is read at a place: it begins there, is sound, and the next place is behind it
pub record Read (s : List ℕ) (at : ℕ) (i : Item) : Type 0 where
  pub begins : ItemAt s at
  pub sound : SoundItem s at
  pub kind_is : get_or s at 0 ≡ i.kind
  pub name_len : sound.name_size ≡ i.name_len
  pub value_len : sound.value_size ≡ i.value_len
  pub next_is : next i ≡ at + 9 + sound.name_size + sound.value_size

-- what is said of an entry at a place
abbrev pub EntrySays : List ℕ → ℕ → Result (Option Item) ℕ → Type 0
EntrySays s at (Ok (Some i)) = Read s at i
EntrySays s at (Ok None) = get_or s at 0 ≡ 0
EntrySays s at (Err b) = FaultAt s b

-- the sizes of a sound item are those that stand there
pub sound-value : (s : List ℕ) (at n : ℕ) (v : Option ℕ) (i : SoundItem s at) → int32 (le 4 s (at + 1)) ≡ Some n
    → int32 (le 4 s (at + 5 + n)) ≡ v
    → v ≡ Some i.value_size
sound-value s at n v i e q =
    let m : i.name_size ≡ n = of_same i.name_size n (sym i.name_is ∙ e) in
    sym q ∙ subst (λ (k : ℕ). int32 (le 4 s (at + 5 + k)) ≡ Some i.value_size) m i.value_is

module _ (s : List ℕ) (at : ℕ) (h : ItemAt s at) where
  value_at_says : (n : ℕ) (v : Option ℕ) → at + 9 + n ≤ length s → int32 (le 4 s (at + 1)) ≡ Some n
      → int32 (le 4 s (at + 5 + n)) ≡ v
      → EntrySays s at (value_at s at n v)
  unfolding value_at
  value_at_says n None l e q =
      FaultAt.item at h (λ i. negative_never i.value_size (sound-value s at n None i e q))
  value_at_says n (Some v) l e q =
      let name : (i : SoundItem s at) → i.name_size ≡ n = λ i. of_same i.name_size n (sym i.name_is ∙ e) in
      let value : (i : SoundItem s at) → v ≡ i.value_size =
      λ i. of_same v i.value_size (sound-value s at n (Some v) i e q) in
      by_bool (ltb (length s - (at + 5 + n + 4)) v)
      (λ t. rw t (FaultAt.item at h (λ i.
      omega (arith, ltb-true (length s - (at + 5 + n + 4)) v t, i.within, name i, value i, l))))
      (λ t. by_bool (size_fits_type (get_or s at 0) v)
      (λ u. rw (t, u) (record {
        begins = h;
        sound = record {
          name_size = n;
          value_size = v;
          name_is = e;
          value_is = q;
          within = omega (arith, ltb-false (length s - (at + 5 + n + 4)) v t, l);
          fits_type = u;
        };
        kind_is = refl;
        name_len = refl;
        value_len = refl;
        next_is = omega arith;
      }))
      (λ u. rw (t, u) (FaultAt.item at h (λ i.
      false≢true (sym u ∙ subst (λ (k : ℕ). size_fits_type (get_or s at 0) k ≡ true) (sym (value i)) i.fits_type)))))

  name_at_says : (n : Option ℕ) → at + 5 ≤ length s → int32 (le 4 s (at + 1)) ≡ n → EntrySays s at (name_at s at n)
  unfolding name_at
  name_at_says None l e = FaultAt.item at h (λ i. negative_never i.name_size (sym e ∙ i.name_is))
  name_at_says (Some n) l e =
      by_bool (ltb (length s - (at + 5)) (n + 4))
      (λ t. rw t (FaultAt.item at h (λ i.
      let m : i.name_size ≡ n = of_same i.name_size n (sym i.name_is ∙ e) in
      omega (arith, ltb-true (length s - (at + 5)) (n + 4) t, i.within, m))))
      (λ t. rw t (value_at_says n (int32 (le 4 s (at + 5 + n)))
      (omega (arith, ltb-false (length s - (at + 5)) (n + 4) t, l)) e refl))

pub entry_at_says : (s : List ℕ) (at : ℕ) → ComeTo s at → EntrySays s at (entry_at s at)
unfolding entry_at
entry_at_says s at c =
    by_bool (leb (length s) at)
    (λ t.
    let l : length s ≤ at = leb-true (length s) at t in
    rw t (FaultAt.unclosed at c (get_or-eq_default s 0 l) (λ e. omega arith)))
    (λ t. by_bool (eqb (get_or s at 0) 0)
    (λ u.
    let z : get_or s at 0 ≡ 0 = eqb-true (get_or s at 0) 0 u in
    by_bool (eqb (length s - at) 1)
    (λ v. rw (t, u, v) z)
    (λ v. rw (t, u, v) (FaultAt.unclosed at c z (λ e. eqb-false (length s - at) 1 v (omega arith)))))
    (λ u.
    let h : ItemAt s at = record { comes = c; type_some = omega (arith, eqb-false (get_or s at 0) 0 u) } in
    by_bool (ltb (length s - at) 5)
    (λ v. rw (t, u, v) (FaultAt.item at h (λ i. omega (arith, ltb-true (length s - at) 5 v, i.within))))
    (λ v. rw (t, u, v) (name_at_says s at h (int32 (le 4 s (at + 1)))
    (omega (arith, leb-false (length s) at t, ltb-false (length s - at) 5 v)) refl))))

read_next : (s : List ℕ) (at : ℕ) (i : Item) → Read s at i → ComeTo s (next i)
read_next s at i r = rw r.next_is (ComeTo.behind at r.begins.comes r.sound)

-- the name of an item has its size, and stands behind five bytes
name_length : (s : List ℕ) (at : ℕ) (i : Item) → entry_at s at ≡ Ok (Some i) → length (name_of s i) ≡ i.name_len
name_length s at i p =
    let w = entry_at_within s at i p in
    simp (length-take, length-drop) (omega (arith, w.name_start, w.value_start, w.next_le))

read_named : (s : List ℕ) (at : ℕ) (i : Item) → entry_at s at ≡ Ok (Some i) → Read s at i
    → ItemOf (name_of s i) s at
read_named s at i p r =
    let l = name_length s at i p in
    record {
      begins = r.begins;
      size_is = r.sound.name_is ∙ ap (λ (n : ℕ). Some n) (r.name_len ∙ sym l);
      name_is = ap₂ (λ (n k : ℕ). take n (drop k s)) l (sym (entry_at_within s at i p).name_start);
    }

-- an item of a name before a place
record Former (s name : List ℕ) (stop : ℕ) : Type 0 where
  before : ℕ
  before_lt : before < stop
  former : ItemOf name s before

module _ (s name : List ℕ) (stop : ℕ) where
  named_in_former : (at : ℕ) (e : Result (Option Item) ℕ) (rest : ℕ → Bool) → entry_at s at ≡ e → EntrySays s at e → at < stop
      → ((n : ℕ) → ComeTo s n → rest n ≡ true → Former s name stop)
      → named_in s name e rest ≡ true
      → Former s name stop
  unfolding named_in
  named_in_former at (Ok (Some i)) rest p r l h =
      by_bool (same (name_of s i) name)
      (λ t. rw t (λ q. record {
        before = at;
        before_lt = l;
        former = subst (λ (n : List ℕ). ItemOf n s at) (same_true (name_of s i) name t) (read_named s at i p r);
      }))
      (λ t. rw t (h (next i) (read_next s at i r)))
  named_in_former at (Ok None) rest p r l h = λ e. absurd (false≢true e)
  named_in_former at (Err b) rest p r l h = λ e. absurd (false≢true e)

  named_former : (k at : ℕ) → ComeTo s at → named k s at stop name ≡ true → Former s name stop
  unfolding named
  named_former zero at c = λ e. absurd (false≢true e)
  named_former (suc k) at c =
      by_bool (leb stop at)
      (λ t. rw t (λ e. absurd (false≢true e)))
      (λ t. rw t (named_in_former at (entry_at s at) (λ (n : ℕ). named k s n stop name) refl (entry_at_says s at c)
      (omega (arith, leb-false stop at t)) (λ n d. named_former k n d)))

-- what is said of a verdict
abbrev pub VerdictSays : List ℕ → Result Unit Fault → Type 0
VerdictSays s (Ok tt) = Unit
VerdictSays s (Err (fault.Broken at)) = FaultAt s at
VerdictSays s (Err (fault.Repeated at)) = ItemAgain s at

module _ (s : List ℕ) where
  read_again : (at : ℕ) (i : Item) → entry_at s at ≡ Ok (Some i) → Read s at i
      → named (length s) s 2 at (name_of s i) ≡ true
      → ItemAgain s at
  read_again at i p r t =
      let f = named_former s (name_of s i) at (length s) 2 ComeTo.front t in
      record {
        name = name_of s i;
        begins = read_named s at i p r;
        before = f.before;
        before_lt = f.before_lt;
        former = f.former;
      }

  walk_in_says : (at : ℕ) (e : Result (Option Item) ℕ) (rest : ℕ → Result Unit Fault) → entry_at s at ≡ e → EntrySays s at e
      → ((n : ℕ) → at < n → ComeTo s n → VerdictSays s (rest n))
      → VerdictSays s (walk_in s at e rest)
  unfolding walk_in
  walk_in_says at (Ok (Some i)) rest p r h =
      by_bool (named (length s) s 2 at (name_of s i))
      (λ t. rw t (read_again at i p r t))
      (λ t. rw t (h (next i) (omega (arith, r.next_is)) (read_next s at i r)))
  walk_in_says at (Ok None) rest p r h = tt
  walk_in_says at (Err b) rest p r h = r

  -- a walk's count ends behind the dictionary alone
  walk_says : (k at : ℕ) → length s ≤ k + at → ComeTo s at → VerdictSays s (walk k s at)
  unfolding walk
  walk_says zero at l c =
      let m : length s ≤ at = omega arith in
      FaultAt.unclosed at c (get_or-eq_default s 0 m) (λ e. omega arith)
  walk_says (suc k) at l c =
      walk_in_says at (entry_at s at) (walk k s) refl (entry_at_says s at c) (λ n m d. walk_says k n (omega arith) d)

  short_says : length s < 3 → FaultAt s 0
  short_says l =
      by_bool (eqb (get_or s 1 0) 1)
      (λ t. FaultAt.unclosed 2 ComeTo.front (get_or-eq_default s 0 (omega arith)) (λ e. omega arith))
      (λ t. FaultAt.version (eqb-false (get_or s 1 0) 1 t))

  pub verdict_points : VerdictSays s (verdict s)
  unfolding verdict
  verdict_points =
      by_bool (ltb (length s) 3)
      (λ t. rw t (short_says (ltb-true (length s) 3 t)))
      (λ t. by_bool (eqb (get_or s 1 0) 1)
      (λ u. rw (t, u) (walk_says (length s) 2 (omega arith) ComeTo.front))
      (λ u. rw (t, u) (FaultAt.version (eqb-false (get_or s 1 0) 1 u))))

-- an item that is found: it begins nine bytes and its name before its value, and has the type and the size
pub record FoundItem (s name : List ℕ) (kind start n : ℕ) : Type 0 where
  pub at : ℕ
  pub item : ItemOf name s at
  pub start_is : start ≡ at + (9 + length name)
  pub sound : SoundItem s at
  pub kind_is : get_or s at 0 ≡ kind
  pub size_is : sound.value_size ≡ n

-- what is said of an answer: nothing where the name is absent, and a search refuses nothing
abbrev pub FoundSays : List ℕ → List ℕ → Result (Option Value) Refusal → Type 0
FoundSays s name (Ok (Some v)) = FoundItem s name v.kind v.start v.length
FoundSays s name (Ok None) = Unit
FoundSays s name (Err r) = ⊥

module _ (s name : List ℕ) where
  read_found : (at : ℕ) (i : Item) → entry_at s at ≡ Ok (Some i) → Read s at i → name_of s i ≡ name
      → FoundItem s name i.kind i.value i.value_len
  read_found at i p r e =
      record {
        at = at;
        item = subst (λ (n : List ℕ). ItemOf n s at) e (read_named s at i p r);
        start_is = omega (arith, (entry_at_within s at i p).value_start, name_length s at i p, ap length e);
        sound = r.sound;
        kind_is = r.kind_is;
        size_is = r.value_len;
      }

  search_in_says : (at : ℕ) (e : Result (Option Item) ℕ) (rest : ℕ → Result (Option Value) Refusal) → entry_at s at ≡ e → EntrySays s at e
      → ((n : ℕ) → ComeTo s n → FoundSays s name (rest n))
      → FoundSays s name (search_in s name e rest)
  unfolding search_in
  search_in_says at (Ok (Some i)) rest p r h =
      by_bool (same (name_of s i) name)
      (λ t. rw t (read_found at i p r (same_true (name_of s i) name t)))
      (λ t. rw t (h (next i) (read_next s at i r)))
  search_in_says at (Ok None) rest p r h = tt
  search_in_says at (Err b) rest p r h = tt

  search_from_says : (k at : ℕ) → ComeTo s at → FoundSays s name (search_from k s at name)
  unfolding search_from
  search_from_says zero at c = tt
  search_from_says (suc k) at c =
      search_in_says at (entry_at s at) (λ (n : ℕ). search_from k s n name) refl (entry_at_says s at c)
      (λ n d. search_from_says k n d)

  pub searched_begins : FoundSays s name (search_from (length s) s 2 name)
  searched_begins = search_from_says (length s) 2 ComeTo.front
