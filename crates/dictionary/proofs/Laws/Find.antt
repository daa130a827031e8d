-- What an answer of a search says.
--
-- In order:
--   find-accepted    a name is found, or absent, in a sound dictionary alone
--   IsFound          an item of the dictionary has the name, and the answer is its type and its value's place
--   find_found       what is found is such an item
--   find_absent      where a name is absent no item has it
--   find_within      a value that is found lies within the dictionary, and its size fits its type
--   search_from_within    the same, of a search from any place on
--   lookup_found     what is shown is the value of that item
-- Assumes nothing.
use mathlib.Core.Path.{◌≡◌, refl, sym, ap, ap₂}
use mathlib.Core.Bool.{Bool, true, false, cond}
use mathlib.Core.List.{List}
use Prim.Native.Nat.{ℕ, zero, suc, ◌+◌, ◌≤◌}
use native.Mathlib.Omega.{arith}
use lib.Dec.{leb}
use lib.ListN.{length, take, drop}
use Rattle.words.proofs.Laws.Cases.{by_bool}
use Rattle.slices.specs.Same.{same}
use Rattle.slices.proofs.Laws.Same.{same_true}
use Rattle.dictionary.specs.declared.Fault.TheVariants as fault
use Rattle.dictionary.specs.declared.Fault.{Fault}
use Rattle.dictionary.specs.declared.Item.{Item}
use Rattle.std.specs.Prelude.{Option, Some, None, Result, Ok, Err}
use Rattle.dictionary.specs.declared.Value.{Value}
use Rattle.refusals.specs.declared.Refusal.{Refusal}
use Rattle.dictionary.specs.Dictionary.{
  size_fits_type,
  entry_at,
  name_of,
  value_of,
  next,
  named_in,
  named,
  verdict,
  search_in,
  search_from,
  find_in,
  find,
  shown,
  lookup,
}
use Rattle.dictionary.proofs.Laws.Entry.{entry_at_within}

-- an item of the dictionary, at `place`, has the name, and the type and place of its value are these
pub record IsFound (s name : List ℕ) (kind start n : ℕ) : Type 0 where
  pub place : ℕ
  pub item : Item
  pub stands : entry_at s place ≡ Ok (Some item)
  pub name_is : name_of s item ≡ name
  pub kind_is : kind ≡ item.kind
  pub start_is : start ≡ item.value
  pub length_is : n ≡ item.value_len

-- two values that are found, and the same
pub same_value : (v w : Value) → ◌≡◌ {A = Result (Option Value) Refusal} (Ok (Some v)) (Ok (Some w)) → v ≡ w
same_value v w e = cc

absent_never : (kind start n : ℕ) → ◌≡◌ {A = Result (Option Value) Refusal} (Ok None) (Ok (Some (record { kind = kind; start = start; length = n }))) → ⊥
absent_never kind start n p = let z : ◌≡◌ {A = ℕ} 0 1 = cc in omega arith

module _ (s name : List ℕ) where
  search_in_found : (at kind start n : ℕ) (e : Result (Option Item) ℕ) (rest : ℕ → Result (Option Value) Refusal) → entry_at s at ≡ e
      → ((m : ℕ) → rest m ≡ Ok (Some (record { kind = kind; start = start; length = n })) → IsFound s name kind start n)
      → search_in s name e rest ≡ Ok (Some (record { kind = kind; start = start; length = n }))
      → IsFound s name kind start n
  unfolding search_in
  search_in_found at kind start n (Ok (Some i)) rest p h =
      by_bool (same (name_of s i) name)
      (λ t. rw t (λ q.
      let v = same_value _ _ q in
      record {
        place = at;
        item = i;
        stands = p;
        name_is = same_true (name_of s i) name t;
        kind_is = sym (ap (λ (x : Value). x.kind) v);
        start_is = sym (ap (λ (x : Value). x.start) v);
        length_is = sym (ap (λ (x : Value). x.length) v);
      }))
      (λ t. rw t (h (next i)))
  search_in_found at kind start n (Ok None) rest p h = λ q. absurd (absent_never kind start n q)
  search_in_found at kind start n (Err b) rest p h = λ q. absurd (absent_never kind start n q)

  search_from_found : (k at kind start n : ℕ) → search_from k s at name ≡ Ok (Some (record { kind = kind; start = start; length = n })) → IsFound s name kind start n
  unfolding search_from
  search_from_found zero at kind start n q = absurd (absent_never kind start n q)
  search_from_found (suc k) at kind start n q =
      search_in_found at kind start n (entry_at s at) (λ (m : ℕ). search_from k s m name) refl
      (λ m r. search_from_found k m kind start n r) q

  search_in_absent : (e : Result (Option Item) ℕ) (rest : ℕ → Result (Option Value) Refusal) (more : ℕ → Bool) → ((m : ℕ) → rest m ≡ Ok None → more m ≡ false)
      → search_in s name e rest ≡ Ok None
      → named_in s name e more ≡ false
  unfolding search_in named_in
  search_in_absent (Ok (Some i)) rest more h =
      by_bool (same (name_of s i) name)
      (λ t. rw t (λ q. absurd (absent_never i.kind i.value i.value_len (sym q))))
      (λ t. rw t (h (next i)))
  search_in_absent (Ok None) rest more h = λ q. refl
  search_in_absent (Err b) rest more h = λ q. refl

  none : (b c : Bool) → c ≡ false → cond b false c ≡ false
  none true c e = refl
  none false c e = e

  search_from_absent : (k at stop : ℕ) → search_from k s at name ≡ Ok None → named k s at stop name ≡ false
  unfolding search_from named
  search_from_absent zero at stop q = refl
  search_from_absent (suc k) at stop q =
      none (leb stop at) (named_in s name (entry_at s at) (λ (m : ℕ). named k s m stop name))
      (search_in_absent (entry_at s at) (λ (m : ℕ). search_from k s m name) (λ (m : ℕ). named k s m stop name)
      (λ m r. search_from_absent k m stop r) q)

  -- an answer other than a refusal is the search's
  find_in-accepted : (o : Result Unit Fault) (f : Result (Option Value) Refusal) → find_in o s name ≡ f → ((r : _) → f ≡ Err r → ⊥)
      → (o ≡ Ok tt) × (search_from (length s) s 2 name ≡ f)
  unfolding find_in
  find_in-accepted (Ok tt) f p h = (refl, p)
  find_in-accepted (Err (fault.Broken at)) f p h = absurd (h _ (sym p))
  find_in-accepted (Err (fault.Repeated at)) f p h = absurd (h _ (sym p))

  pub find-accepted : (f : Result (Option Value) Refusal) → find s name ≡ f → ((r : _) → f ≡ Err r → ⊥)
      → (verdict s ≡ Ok tt) × (search_from (length s) s 2 name ≡ f)
  unfolding find
  find-accepted f p h = find_in-accepted (verdict s) f p h

  pub find_found : (kind start n : ℕ) → find s name ≡ Ok (Some (record { kind = kind; start = start; length = n })) → IsFound s name kind start n
  find_found kind start n p =
      search_from_found (length s) 2 kind start n
      (find-accepted (Ok (Some (record { kind = kind; start = start; length = n }))) p (λ r q. let z : ◌≡◌ {A = ℕ} 0 1 = cc in omega arith)).1

  pub find_absent : find s name ≡ Ok None → (stop : ℕ) → named (length s) s 2 stop name ≡ false
  find_absent p stop =
      search_from_absent (length s) 2 stop
      (find-accepted (Ok None) p (λ r q. let z : ◌≡◌ {A = ℕ} 0 1 = cc in omega arith)).1

  pub find_within : (kind start n : ℕ) → find s name ≡ Ok (Some (record { kind = kind; start = start; length = n }))
      → (start + n ≤ length s) × (size_fits_type kind n ≡ true)
  find_within kind start n p =
      let f = find_found kind start n p in
      let w = entry_at_within s f.place f.item f.stands in
      (omega arith, cc)

  pub search_from_within : (k at kind start n : ℕ) → search_from k s at name ≡ Ok (Some (record { kind = kind; start = start; length = n }))
      → (start + n ≤ length s) × (size_fits_type kind n ≡ true)
  search_from_within k at kind start n p =
      let f = search_from_found k at kind start n p in
      let w = entry_at_within s f.place f.item f.stands in
      (omega arith, cc)

  pub lookup_found : (kind start n : ℕ) → find s name ≡ Ok (Some (record { kind = kind; start = start; length = n })) → (f : IsFound s name kind start n)
      → lookup s name ≡ value_of s f.item
  unfolding lookup shown
  lookup_found kind start n p f =
      rw p (ap₂ (λ (b m : ℕ). take m (drop b s)) f.start_is f.length_is)
