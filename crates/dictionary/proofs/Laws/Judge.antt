-- The verdict, when some names are known.
--
-- In order:
--   judge_more, met_more        one turn, by what stands at the place
--   judge-held, judge_free      .. at an item, by whether its name is known
--   judge_end, judge_broken     .. at the end
--   met_held, met_free, met_end, met_broken
--   judge_enough, judge_past    the count of items never ends a walk; behind the end
--   Alike, judge_same           only which numbers are known matters
--   judge_added                 a name that is not known, in a table that has it now
--   filled_done, filled_full    what a batch comes to
--   full_met                    a batch, up to the first later item that has a name of it
-- Not here: the verdict (Verdict).
-- Assumes nothing.
use mathlib.Core.Path.{◌≡◌, refl, sym, ap, ap₂, subst, ◌∙◌}
use mathlib.Core.Bool.{Bool, true, false, cond}
use mathlib.Core.List.{List, [], ◌∷◌, ◌++◌}
use Prim.Native.Nat.{ℕ, zero, suc, ◌+◌, ◌-◌, ◌≤◌, ◌<◌}
use native.Mathlib.Omega.{arith}
use native.Mathlib.Numerals.{sub-one}
use lib.Dec.{eqb, leb}
use lib.ListN.{length}
use borrow.Author.Tests.{le-leb, lt-leb, leb-false}
use Rattle.words.proofs.Laws.Cases.{by_bool}
use Rattle.dictionary.specs.declared.Fault.TheVariants as fault
use Rattle.dictionary.specs.declared.Fault.{Fault}
use Rattle.dictionary.specs.declared.Item.{Item}
use Rattle.std.specs.Prelude.{Option, Some, None, Result, Ok, Err}
use Rattle.dictionary.specs.declared.repeats.Batch.{Batch}
use Rattle.dictionary.specs.declared.repeats.Batch.TheVariants as batch
use Rattle.dictionary.specs.Dictionary.{entry_at, name_of, next}
use Rattle.dictionary.specs.Order.{key_of, key_at, held, among}
use Rattle.dictionary.specs.Repeats.{judge_in, judge, met_in, met, IsFull, Filled}
use Rattle.dictionary.proofs.Laws.Entry.{entry_at_past, name_from_lem}
use Rattle.dictionary.proofs.Laws.Enough.{next_far}
use Rattle.dictionary.proofs.Laws.Rising.{or_swap}

pub judge_more : (stop k : ℕ) (s ks : List ℕ) (at : ℕ) (e : Result (Option Item) ℕ) → 0 < k → e ≡ entry_at s at
    → judge stop k s ks at ≡ judge_in stop s ks at e (judge stop (k - 1) s)
unfolding judge
judge_more stop zero s ks at e h p = absurd (omega arith)
judge_more stop (suc k) s ks at e h p = rw (p, sub-one)

pub met_more : (stop k : ℕ) (s ks : List ℕ) (at : ℕ) (e : Result (Option Item) ℕ) → 0 < k → e ≡ entry_at s at
    → met stop k s ks at ≡ met_in stop s ks at e (met stop (k - 1) s ks)
unfolding met
met_more stop zero s ks at e h p = absurd (omega arith)
met_more stop (suc k) s ks at e h p = rw (p, sub-one)

-- one turn at an item, by whether its name is known, and at the end
module _ (stop k : ℕ) (s ks : List ℕ) (at : ℕ) (h : 0 < k) where
  pub judge_stopped : (i : Item) → entry_at s at ≡ Ok (Some i) → stop ≤ at
      → Err (fault.Repeated stop) ≡ judge stop k s ks at
  unfolding judge_in
  judge_stopped i p l = rw (judge_more stop k s ks at (Ok (Some i)) h (sym p), le-leb stop at l)

  pub judge-held : (i : Item) → entry_at s at ≡ Ok (Some i) → at < stop → among (key_at s at) ks ≡ true
      → Err (fault.Repeated at) ≡ judge stop k s ks at
  unfolding judge_in
  judge-held i p l a =
      rw (judge_more stop k s ks at (Ok (Some i)) h (sym p), lt-leb stop at l, name_from_lem s at i p, a)

  pub judge_free : (i : Item) → entry_at s at ≡ Ok (Some i) → at < stop → among (key_at s at) ks ≡ false
      → judge stop k s ks at ≡ judge stop (k - 1) s (key_at s at ∷ ks) (next i)
  unfolding judge_in
  judge_free i p l a =
      rw (judge_more stop k s ks at (Ok (Some i)) h (sym p), lt-leb stop at l, name_from_lem s at i p, a)

  pub judge_end : entry_at s at ≡ (Ok None) → (Ok tt) ≡ judge stop k s ks at
  unfolding judge_in
  judge_end p = rw (judge_more stop k s ks at (Ok None) h (sym p))

  pub judge_broken : (b : ℕ) → entry_at s at ≡ Err b → Err (fault.Broken b) ≡ judge stop k s ks at
  unfolding judge_in
  judge_broken b p = rw (judge_more stop k s ks at (Err b) h (sym p))

  pub met_stopped : (i : Item) → entry_at s at ≡ Ok (Some i) → stop ≤ at → stop ≡ met stop k s ks at
  unfolding met_in
  met_stopped i p l = rw (met_more stop k s ks at (Ok (Some i)) h (sym p), le-leb stop at l)

  pub met_held : (i : Item) → entry_at s at ≡ Ok (Some i) → at < stop → among (key_at s at) ks ≡ true
      → at ≡ met stop k s ks at
  unfolding met_in
  met_held i p l a = rw (met_more stop k s ks at (Ok (Some i)) h (sym p), lt-leb stop at l, name_from_lem s at i p, a)

  pub met_free : (i : Item) → entry_at s at ≡ Ok (Some i) → at < stop → among (key_at s at) ks ≡ false
      → met stop (k - 1) s ks (next i) ≡ met stop k s ks at
  unfolding met_in
  met_free i p l a = rw (met_more stop k s ks at (Ok (Some i)) h (sym p), lt-leb stop at l, name_from_lem s at i p, a)

  pub met_end : entry_at s at ≡ (Ok None) → stop ≡ met stop k s ks at
  unfolding met_in
  met_end p = rw (met_more stop k s ks at (Ok None) h (sym p))

  pub met_broken : (b : ℕ) → entry_at s at ≡ Err b → stop ≡ met stop k s ks at
  unfolding met_in
  met_broken b p = rw (met_more stop k s ks at (Err b) h (sym p))

judge_in-agree : (stop : ℕ) (s ks : List ℕ) (at : ℕ) (e : Result (Option Item) ℕ) (f g : List ℕ → ℕ → Result Unit Fault)
    → ((i : Item) (ls : List ℕ) → e ≡ Ok (Some i) → f ls (next i) ≡ g ls (next i))
    → judge_in stop s ks at e f ≡ judge_in stop s ks at e g
unfolding judge_in
judge_in-agree stop s ks at (Ok (Some i)) f g h =
    ap (λ (r : Result Unit Fault). cond (leb stop at) (Err (fault.Repeated stop))
    (cond (among (key_of (name_of s i)) ks) (Err (fault.Repeated at)) r)) (h i (key_of (name_of s i) ∷ ks) refl)
judge_in-agree stop s ks at (Ok None) f g h = refl
judge_in-agree stop s ks at (Err b) f g h = refl

pub judge_enough : (stop k m : ℕ) (s ks : List ℕ) (at : ℕ) → length s ≤ k + at → length s ≤ m + at
    → judge stop k s ks at ≡ judge stop m s ks at
unfolding judge judge_in
judge_enough stop zero zero s ks at h l = refl
judge_enough stop zero (suc m) s ks at h l =
    let p : length s ≤ at = omega arith in
    rw (entry_at_past s at p)
judge_enough stop (suc k) zero s ks at h l =
    let p : length s ≤ at = omega arith in
    rw (entry_at_past s at p)
judge_enough stop (suc k) (suc m) s ks at h l =
    judge_in-agree stop s ks at (entry_at s at) (judge stop k s) (judge stop m s)
    (λ i ls p. let f = next_far s at i p in
    judge_enough stop k m s ls (next i) (omega arith) (omega arith))

pub judge_past : (stop k : ℕ) (s ks : List ℕ) (at : ℕ) → length s ≤ at
    → judge stop k s ks at ≡ Err (fault.Broken 0)
unfolding judge judge_in
judge_past stop zero s ks at h = refl
judge_past stop (suc k) s ks at h = rw (entry_at_past s at h)

-- two lists with the same numbers among them
abbrev pub Alike : List ℕ → List ℕ → Type 0
Alike ks ls = (x : ℕ) → among x ks ≡ among x ls

alike_cons : (k : ℕ) (ks ls : List ℕ) → Alike ks ls → Alike (k ∷ ks) (k ∷ ls)
unfolding among
alike_cons k ks ls h x = ap (λ (b : Bool). cond (eqb k x) true b) (h x)

module _ (stop : ℕ) (s : List ℕ) where
  same_in : (ks ls : List ℕ) (at : ℕ) (e : Result (Option Item) ℕ) (f : List ℕ → ℕ → Result Unit Fault) → Alike ks ls
      → ((ps qs : List ℕ) (n : ℕ) → Alike ps qs → f ps n ≡ f qs n)
      → judge_in stop s ks at e f ≡ judge_in stop s ls at e f
  unfolding judge_in
  same_in ks ls at (Ok (Some i)) f h g =
      ap₂ (λ (b : Bool) (r : Result Unit Fault). cond (leb stop at) (Err (fault.Repeated stop)) (cond b (Err (fault.Repeated at)) r))
      (h (key_of (name_of s i)))
      (g (key_of (name_of s i) ∷ ks) (key_of (name_of s i) ∷ ls) (next i) (alike_cons (key_of (name_of s i)) ks ls h))
  same_in ks ls at (Ok None) f h g = refl
  same_in ks ls at (Err b) f h g = refl

  pub judge_same : (k : ℕ) (ks ls : List ℕ) (at : ℕ) → Alike ks ls → judge stop k s ks at ≡ judge stop k s ls at
  unfolding judge
  judge_same zero ks ls at h = refl
  judge_same (suc k) ks ls at h =
      same_in ks ls at (entry_at s at) (judge stop k s) h (λ ps qs n g. judge_same k ps qs n g)

-- a name that is not known, in a table that has it now
pub judge_added : (stop k : ℕ) (s ks ls : List ℕ) (at : ℕ) (i : Item) → 0 < k → entry_at s at ≡ Ok (Some i)
    → at < stop → among (key_at s at) ks ≡ false
    → Alike ls (key_at s at ∷ ks)
    → judge stop (k - 1) s ls (next i) ≡ judge stop k s ks at
judge_added stop k s ks ls at i h p u a l =
    judge_same stop s (k - 1) ls (key_at s at ∷ ks) (next i) l ∙ sym (judge_free stop k s ks at h i p u a)

either : (a : Bool) {b c : Bool} → b ≡ c → cond a true b ≡ cond a true c
either a e = ap (λ (b : Bool). cond a true b) e

among_append : (x : ℕ) (ks ls : List ℕ) → among x (ks ++ ls) ≡ cond (among x ls) true (among x ks)
unfolding among
among_append x [] ls = last (among x ls)
  where
    last : (b : Bool) → b ≡ cond b true false
    last true = refl
    last false = refl
among_append x (k ∷ ks) ls = either (eqb k x) (among_append x ks ls) ∙ or_swap (eqb k x) (among x ls) (among x ks)

-- what a batch comes to
pub filled_done : (s : List ℕ) (from stop : ℕ) (t : List ℕ) (r : Batch) (o : Result Unit Fault) → Filled s from stop t r
    → r ≡ batch.Done o
    → o ≡ judge stop (length s) s [] from
unfolding Filled
filled_done s from stop t r o f e = subst (λ (q : Batch). Filled s from stop t q) e f

pub filled_full : (s : List ℕ) (from stop : ℕ) (t : List ℕ) (r : Batch) (n next : ℕ) → Filled s from stop t r
    → r ≡ batch.Full n next
    → IsFull s from stop t n next
unfolding Filled
filled_full s from stop t r n next f e = subst (λ (q : Batch). Filled s from stop t q) e f

-- what is met stands no earlier than the walk's place, or than `stop`
module _ (stop : ℕ) (s ks : List ℕ) where
  met_in_far : (low at : ℕ) (e : Result (Option Item) ℕ) (g : ℕ → ℕ) → low ≤ stop → low ≤ at
      → ((i : Item) → e ≡ Ok (Some i) → low ≤ g (next i)) → low ≤ met_in stop s ks at e g
  unfolding met_in
  met_in_far low at (Ok (Some i)) g h l r =
      by_bool (leb stop at)
      (λ t. rw t h)
      (λ t. by_bool (among (key_of (name_of s i)) ks) (λ u. rw (t, u) l) (λ u. rw (t, u) (r i refl)))
  met_in_far low at (Ok None) g h l r = h
  met_in_far low at (Err b) g h l r = h

  pub met_far : (k low at : ℕ) → low ≤ stop → low ≤ at → low ≤ met stop k s ks at
  unfolding met
  met_far zero low at h l = h
  met_far (suc k) low at h l =
      met_in_far low at (entry_at s at) (met stop k s ks) h l
      (λ i p. let f = next_far s at i p in
      met_far k low (next i) h (omega arith))

  -- to judge with known names is to judge without them, up to the first item that has one of them
  unmet_in : (k : ℕ) (ls : List ℕ) (at : ℕ) (e : Result (Option Item) ℕ) (f : ℕ → List ℕ → ℕ → Result Unit Fault) → entry_at s at ≡ e
      → ((ps : List ℕ) (n : ℕ) → f stop (ps ++ ks) n ≡ f (met stop k s ks n) ps n)
      → judge_in stop s (ls ++ ks) at e (f stop)
      ≡ judge_in (met_in stop s ks at e (met stop k s ks)) s ls at e (f (met_in stop s ks at e (met stop k s ks)))
  unfolding judge_in met_in
  unmet_in k ls at (Ok (Some i)) f p h =
      by_bool (leb stop at)
      (λ t. rw (t, t))
      (λ t. by_bool (among (key_of (name_of s i)) ks)
      (λ u. rw (t, u, among_append (key_of (name_of s i)) ls ks, u, le-leb at at (omega arith)))
      (λ u.
      let far = next_far s at i p in
      let b = leb-false stop at t in
      let m = met_far k (at + 1) (next i) (omega arith) (omega arith) in
      let g : at < met stop k s ks (next i) = omega arith in
      rw (t, u, among_append (key_of (name_of s i)) ls ks, u, lt-leb (met stop k s ks (next i)) at g)
      (ap (λ (r : Result Unit Fault). cond (among (key_of (name_of s i)) ls) (Err (fault.Repeated at)) r)
      (h (key_of (name_of s i) ∷ ls) (next i)))))
  unmet_in k ls at (Ok None) f p h = refl
  unmet_in k ls at (Err b) f p h = refl

  unmet : (k : ℕ) (ls : List ℕ) (at : ℕ) → judge stop k s (ls ++ ks) at ≡ judge (met stop k s ks at) k s ls at
  unfolding judge met
  unmet zero ls at = refl
  unmet (suc k) ls at =
      unmet_in k ls at (entry_at s at) (λ (n : ℕ). judge n k s) refl (λ ps n. unmet k ps n)

-- a batch and its table: the judgement goes on behind it up to the first item that has a name of it
pub full_met : (s : List ℕ) (from stop : ℕ) (t : List ℕ) (n next : ℕ) → IsFull s from stop t n next
    → (r : ℕ) → r ≡ met stop (length s) s (held s from n t) next
    → judge r (length s) s [] next ≡ judge stop (length s) s [] from
full_met s from stop t n next f r m =
    ap (λ (q : ℕ). judge q (length s) s [] next) m
    ∙ sym (unmet stop s (held s from n t) (length s) [] next) ∙ f.rest
