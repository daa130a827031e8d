-- A name that is not found in a sound dictionary is no item's name.
--
-- In order:
--   Missed, Turn          a search that has come to a place without an answer, and its turn there
--   turn                  .. which goes past a sound item of another name
--   searched_absent       so no item has the name
-- Not here: where items begin, and what is found (ItemsAt).
-- Assumes nothing.
use mathlib.Core.Path.{◌≡◌, refl, sym, ap₂, subst, ◌∙◌}
use mathlib.Core.Bool.{true, false, false≢true}
use mathlib.Core.List.{List}
use Prim.Native.Nat.{ℕ, zero, suc, ◌<◌}
use native.Mathlib.Omega.{arith}
use lib.Dec.{eqb, ltb}
use lib.ListN.{length, get_or, take, drop}
use Rattle.std.specs.Prelude.{Some, Option, None, Result, Ok, Err}
use Rattle.words.proofs.Laws.Cases.{by_bool}
use Rattle.slices.specs.Same.{same}
use Rattle.slices.proofs.Laws.Same.{same_refl}
use Rattle.dictionary.specs.declared.Value.{Value}
use Rattle.refusals.specs.declared.Refusal.{Refusal}
use Rattle.dictionary.specs.Dictionary.{
  size_fits_type,
  entry_at,
  name_of,
  next,
  named,
  walk_in,
  walk,
  verdict,
  search_in,
  search_from,
}
use Rattle.dictionary.specs.declared.Item.{Item}
use Rattle.dictionary.specs.declared.Fault.{Fault}
use Rattle.dictionary.specs.declared.Fault.TheVariants as fault
use Rattle.dictionary.proofs.Laws.Entry.{entry_at_within}
use Rattle.places.specs.Items.{ComeTo, ItemAt, ItemOf}
use Rattle.places.proofs.Laws.Sizes.{of_same}
use Rattle.places.proofs.Laws.ItemsAt.{Read, EntrySays, entry_at_says, sound-value}

-- a search in a sound dictionary that has come to a place without an answer
record Missed (s name : List ℕ) (at : ℕ) : Type 0 where
  count : ℕ
  sound : walk count s at ≡ Ok tt
  unfound : search_from count s at name ≡ Ok None

-- .. has an item of another name there, and comes to the next place
record Turn (s name : List ℕ) (at : ℕ) : Type 0 where
  item : Item
  stands : entry_at s at ≡ Ok (Some item)
  read : Read s at item
  differs : same (name_of s item) name ≡ false
  further : Missed s name (next item)

repeated_never : {A : Type 0} (at : ℕ) → ◌≡◌ {A = Result Unit Fault} (Err (fault.Repeated at)) (Ok tt) → A
repeated_never at e = let z : ◌≡◌ {A = ℕ} 0 1 = cc in absurd (omega arith)

broken_never : {A : Type 0} (at : ℕ) → ◌≡◌ {A = Result Unit Fault} (Err (fault.Broken at)) (Ok tt) → A
broken_never at e = let z : ◌≡◌ {A = ℕ} 0 1 = cc in absurd (omega arith)

at_never : {A : Type 0} (kind start n : ℕ) → ◌≡◌ {A = Result (Option Value) Refusal} (Ok (Some (record { kind = kind; start = start; length = n }))) (Ok None) → A
at_never kind start n e = let z : ◌≡◌ {A = ℕ} 0 1 = cc in absurd (omega arith)

sound-walk : (s : List ℕ) → verdict s ≡ Ok tt → walk (length s) s 2 ≡ Ok tt
unfolding verdict
sound-walk s =
    by_bool (ltb (length s) 3)
    (λ t. rw t (broken_never 0))
    (λ t. by_bool (eqb (get_or s 1 0) 1) (λ u. rw (t, u) (λ e. e)) (λ u. rw (t, u) (broken_never 0)))

-- the type of a sound item is not 0
type_some : (kind n : ℕ) → size_fits_type kind n ≡ true → 0 < kind
unfolding size_fits_type
type_some zero n e = absurd (false≢true e)
type_some (suc k) n e = omega arith

module _ (s name : List ℕ) where
  turn_in : (k at : ℕ) (e : Result (Option Item) ℕ) → entry_at s at ≡ e → EntrySays s at e → 0 < get_or s at 0
      → walk_in s at e (walk k s) ≡ Ok tt
      → search_in s name e (λ (n : ℕ). search_from k s n name) ≡ Ok None
      → Turn s name at
  unfolding walk_in search_in
  turn_in k at (Ok (Some i)) p r h =
      by_bool (named (length s) s 2 at (name_of s i))
      (λ t. rw t (λ w f. repeated_never at w))
      (λ t. by_bool (same (name_of s i) name)
      (λ u. rw (t, u) (λ w f. at_never i.kind i.value i.value_len f))
      (λ u. rw (t, u) (λ w f. record {
        item = i;
        stands = p;
        read = r;
        differs = u;
        further = record { count = k; sound = w; unfound = f };
      })))
  turn_in k at (Ok None) p r h = λ w f. absurd (omega arith)
  turn_in k at (Err b) p r h = λ w f. broken_never b w

  turn_of : (k at : ℕ) → walk k s at ≡ Ok tt → search_from k s at name ≡ Ok None → ItemAt s at
      → Turn s name at
  unfolding walk search_from
  turn_of zero at w f h = broken_never 0 w
  turn_of (suc k) at w f h = turn_in k at (entry_at s at) refl (entry_at_says s at h.comes) h.type_some w f

  turn : (at : ℕ) → Missed s name at → ItemAt s at → Turn s name at
  turn at m h = turn_of m.count at m.sound m.unfound h

  module _ (sound : verdict s ≡ Ok tt) (unfound : search_from (length s) s 2 name ≡ Ok None) where
    missed : (at : ℕ) → ComeTo s at → Missed s name at
    missed at ComeTo.front = record { count = length s; sound = sound-walk s sound; unfound = unfound }
    missed at (ComeTo.behind b c i) =
        let h : 0 < get_or s b 0 = type_some (get_or s b 0) i.value_size i.fits_type in
        let t = turn b (missed b c) (record { comes = c; type_some = h }) in
        let j = t.read.sound in
        let n : i.name_size ≡ j.name_size = of_same i.name_size j.name_size (sym i.name_is ∙ j.name_is) in
        let v : j.value_size ≡ i.value_size =
        of_same j.value_size i.value_size
        (sound-value s b j.name_size (Some j.value_size) i j.name_is j.value_is) in
        subst (Missed s name) (omega (arith, t.read.next_is, n, v)) t.further

    pub searched_absent : (at : ℕ) → ItemOf name s at → ⊥
    searched_absent at o =
        let t = turn at (missed at o.begins.comes) o.begins in
        let j = t.read.sound in
        let m : t.item.name_len ≡ length name =
        sym t.read.name_len ∙ of_same j.name_size (length name) (sym j.name_is ∙ o.size_is) in
        let e : name_of s t.item ≡ name =
        ap₂ (λ (n k : ℕ). take n (drop k s)) m (entry_at_within s at t.item t.stands).name_start ∙ o.name_is in
        let q : same (name_of s t.item) name ≡ true =
        subst (λ (n : List ℕ). same (name_of s t.item) n ≡ true) e (same_refl (name_of s t.item)) in
        false≢true (sym t.differs ∙ q)
