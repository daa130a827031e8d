-- The verdict is the judgement that knows no name: walking on, the numbers of the names before a place are known.
--
-- In order: Split (what a place's known numbers say of `named`), split_none, split_here, split_more, walk-judge,
-- verdict-judge.
-- Not here: the judgement with a table (Judge).
-- Assumes nothing.
use mathlib.Core.Path.{◌≡◌, refl, sym, ap, ap₂, ◌∙◌}
use mathlib.Core.Bool.{Bool, true, false, cond}
use mathlib.Core.List.{List, [], ◌∷◌}
use Prim.Native.Nat.{ℕ, zero, suc, ◌-◌, ◌≤◌, ◌<◌}
use native.Mathlib.Omega.{arith}
use lib.Dec.{eqb}
use lib.ListN.{length, get_or}
use borrow.Author.Tests.{le-ltb, lt-leb, eq-eqb}
use Rattle.words.specs.Endian.{Bytes}
use Rattle.dictionary.specs.declared.Fault.TheVariants as fault
use Rattle.dictionary.specs.declared.Fault.{Fault}
use Rattle.dictionary.specs.declared.Item.{Item}
use Rattle.std.specs.Prelude.{Option, Some, None, Result, Ok, Err}
use Rattle.dictionary.specs.Dictionary.{entry_at, name_of, next, named_in, named, walk_in, walk, verdict}
use Rattle.dictionary.specs.Order.{key_of, among}
use Rattle.dictionary.specs.Repeats.{judge_in, judge}
use Rattle.dictionary.proofs.Laws.Entry.{entry_at_within}
use Rattle.dictionary.proofs.Laws.Walk.{named_past, named_more}
use Rattle.dictionary.proofs.Laws.Enough.{next_far, named_enough}
use Rattle.dictionary.proofs.Laws.Key.{bytes_take, bytes_drop, same_key}

-- an item before `stop` has the name: one of the known numbers is its, or an item from `at` on has it
abbrev Split : List ℕ → List ℕ → ℕ → Type 0
Split s ks at =
    (stop : ℕ) (name : List ℕ) → at ≤ stop → Bytes name
    → named (length s) s 2 stop name ≡ cond (among (key_of name) ks) true (named (length s) s at stop name)

split_none : (s : List ℕ) → Split s [] 2
unfolding among
split_none s stop name h f = refl

module _ (s : List ℕ) (b : Bytes s) where
  name_bytes : (i : Item) → Bytes (name_of s i)
  name_bytes i = bytes_take i.name_len _ (bytes_drop i.name s b)

  split_here : (ks : List ℕ) (at : ℕ) (name : List ℕ) → Split s ks at → Bytes name
      → named (length s) s 2 at name ≡ among (key_of name) ks
  split_here ks at name h f =
      h at name (omega arith) f
      ∙ ap (λ (r : Bool). cond (among (key_of name) ks) true r) (named_past (length s) s at at name (omega arith))
      ∙ none (among (key_of name) ks)
    where
      none : (r : Bool) → cond r true false ≡ r
      none true = refl
      none false = refl

  one_more : (at : ℕ) (i : Item) (stop : ℕ) (name : List ℕ) → entry_at s at ≡ Ok (Some i) → next i ≤ stop → Bytes name
      → named (length s) s at stop name
      ≡ cond (eqb (key_of (name_of s i)) (key_of name)) true (named (length s) s (next i) stop name)
  unfolding named_in
  one_more at i stop name p h f =
      let w = entry_at_within s at i p in
      let far = next_far s at i p in
      let m =
      named_more (length s) s at stop name (Ok (Some i)) (omega (arith, w.next_le)) (omega arith) (sym p) in
      m
      ∙ ap₂ (λ (r q : Bool). cond r true q) (same_key (name_of s i) name (name_bytes i) f)
      (named_enough (length s - 1) (length s) s (next i) stop name (omega arith) (omega arith))

  split_more : (ks : List ℕ) (at : ℕ) (i : Item) → entry_at s at ≡ Ok (Some i) → Split s ks at
      → Split s (key_of (name_of s i) ∷ ks) (next i)
  unfolding among
  split_more ks at i p h stop name l f =
      let far = next_far s at i p in
      h stop name (omega arith) f
      ∙ ap (λ (r : Bool). cond (among (key_of name) ks) true r) (one_more at i stop name p l f)
      ∙ regroup (among (key_of name) ks) (eqb (key_of (name_of s i)) (key_of name)) (named (length s) s (next i) stop name)
    where
      regroup : (a c d : Bool) → cond a true (cond c true d) ≡ cond (cond c true a) true d
      regroup true true d = refl
      regroup true false d = refl
      regroup false true d = refl
      regroup false false d = refl

  walk_in_lem : (ks : List ℕ) (at : ℕ) (e : Result (Option Item) ℕ) (f : ℕ → Result Unit Fault) (g : List ℕ → ℕ → Result Unit Fault) → entry_at s at ≡ e
      → Split s ks at
      → ((ls : List ℕ) (n : ℕ) → Split s ls n → f n ≡ g ls n)
      → walk_in s at e f ≡ judge_in (length s) s ks at e g
  unfolding walk_in judge_in
  walk_in_lem ks at (Ok (Some i)) f g p h r =
      let w = entry_at_within s at i p in
      let far = next_far s at i p in
      let l : at < length s = omega (arith, w.next_le) in
      rw (lt-leb (length s) at l)
      (ap₂ (λ (c : Bool) (o : Result Unit Fault). cond c (Err (fault.Repeated at)) o)
      (split_here ks at (name_of s i) h (name_bytes i))
      (r (key_of (name_of s i) ∷ ks) (next i) (split_more ks at i p h)))
  walk_in_lem ks at (Ok None) f g p h r = refl
  walk_in_lem ks at (Err b) f g p h r = refl

  walk-judge : (k : ℕ) (ks : List ℕ) (at : ℕ) → Split s ks at → walk k s at ≡ judge (length s) k s ks at
  unfolding walk judge
  walk-judge zero ks at h = refl
  walk-judge (suc k) ks at h =
      walk_in_lem ks at (entry_at s at) (walk k s) (judge (length s) k s) refl h (λ ls n g. walk-judge k ls n g)

  walk_is : walk (length s) s 2 ≡ judge (length s) (length s) s [] 2
  walk_is = walk-judge (length s) [] 2 (split_none s)

  pub verdict-judge : 3 ≤ length s → get_or s 1 0 ≡ 1 → judge (length s) (length s) s [] 2 ≡ verdict s
  unfolding verdict
  verdict-judge h e = rw (le-ltb (length s) 3 h, eq-eqb (get_or s 1 0) 1 e) (sym walk_is)
