-- The numbers of the first n places of a table: searching them, and one place more.
--
-- In order:
--   located_held, located_free, located_none, added_held, added_new    what an answer says
--   length-held, get_or-held                                             a number by its index
--   above_none, held_less, held_more, held_same                        the search's start, and a turn of it
--   held_added                                                         a place put in
-- Assumes nothing.
use mathlib.Core.Path.{◌≡◌, ap, ap₂, subst, ◌∙◌}
use mathlib.Core.Bool.{Bool, true, false}
use mathlib.Core.List.{List, ◌∷◌, ◌++◌}
use Prim.Native.Nat.{ℕ, ◌+◌, ◌≤◌, ◌<◌}
use native.Mathlib.Omega.{arith}
use native.Mathlib.Numerals.{add-one}
use lib.ListN.{length, get_or, take, drop, drop_of_length-le}
use lib.Seq.{length-take-le, get_or-take}
use Rattle.dictionary.specs.declared.table.Spot.{Spot}
use Rattle.dictionary.specs.declared.table.Spot.TheVariants as spot
use Rattle.dictionary.specs.Order.{
  key_at,
  keys_at,
  held,
  among,
  Below,
  Above,
  Rising,
  IsFree,
  Located,
  inserted,
  Added,
}
use Rattle.dictionary.proofs.Laws.Key.{keys_at-append, take-keys_at, drop-keys_at, length-keys_at, get_or-keys_at}
use Rattle.dictionary.proofs.Laws.Rising.{
  among_at,
  below_front,
  above_back,
  among_neither,
  rising_inserted,
  among_inserted,
}

pub located_held : (ks : List ℕ) (x : ℕ) (r : Spot) → Located ks x r → r ≡ spot.Held → among x ks ≡ true
unfolding Located
located_held ks x r l e = subst (λ (q : Spot). Located ks x q) e l

pub located_free : (ks : List ℕ) (x j : ℕ) (r : Spot) → Located ks x r → r ≡ spot.Free j → IsFree ks x j
unfolding Located
located_free ks x j r l e = subst (λ (q : Spot). Located ks x q) e l

pub located_none : (ks : List ℕ) (x j : ℕ) (r : Spot) → Located ks x r → r ≡ spot.Free j → among x ks ≡ false
located_none ks x j r l e =
    let f = located_free ks x j r l e in
    among_neither x j ks f.below f.above

pub added_held : (x : ℕ) (ks ls : List ℕ) (r : Bool) → Added x ks ls r → r ≡ true → among x ks ≡ true
unfolding Added
added_held x ks ls r a e = subst (λ (q : Bool). Added x ks ls q) e a

pub added_new : (x : ℕ) (ks ls : List ℕ) (r : Bool) → Added x ks ls r → r ≡ false
    → (among x ks ≡ false) × Rising ls × ((y : ℕ) → among y ls ≡ among y (x ∷ ks))
unfolding Added
added_new x ks ls r a e = subst (λ (q : Bool). Added x ks ls q) e a

module _ (s : List ℕ) (base n : ℕ) (t : List ℕ) (h : n ≤ length t) where
  pub length-held : length (held s base n t) ≡ n
  length-held = length-keys_at s base (take n t) ∙ length-take-le n t h

  pub get_or-held : (m : ℕ) → m < n → get_or (held s base n t) m 0 ≡ key_at s (base + get_or t m 0)
  get_or-held m l =
      get_or-keys_at s base (take n t) m (rw (length-take-le n t h) l)
      ∙ ap (λ (p : ℕ). key_at s (base + p)) (get_or-take n t m 0 l)

  -- none is behind the last
  pub above_none : (x : ℕ) → Above x (drop n (held s base n t))
  unfolding Above
  above_none x =
      let e : length (held s base n t) ≤ n = omega (arith, length-held) in
      rw (drop_of_length-le (held s base n t) e) tt

  pub held_less : (m x : ℕ) → m < n → Rising (held s base n t) → key_at s (base + get_or t m 0) < x
      → Below x (take (m + 1) (held s base n t))
  held_less m x l r k =
      let e = length-held in
      let g = get_or-held m l in
      rw add-one (below_front (held s base n t) m x r (omega arith) (rw g k))

  pub held_more : (m x : ℕ) → m < n → Rising (held s base n t) → x < key_at s (base + get_or t m 0)
      → Above x (drop m (held s base n t))
  held_more m x l r k =
      let e = length-held in
      let g = get_or-held m l in
      above_back (held s base n t) m x r (omega arith) (rw g k)

  pub held_same : (m x : ℕ) → m < n → key_at s (base + get_or t m 0) ≡ x → among x (held s base n t) ≡ true
  held_same m x l k =
      let e = length-held in
      among_at (held s base n t) m x (omega arith) (get_or-held m l ∙ k)

  -- a table whose places are those with one more among them
  held-inserted : (j p : ℕ) (u : List ℕ) → take (n + 1) u ≡ inserted j p (take n t)
      → held s base (n + 1) u ≡ inserted j (key_at s (base + p)) (held s base n t)
  unfolding keys_at
  held-inserted j p u e =
      ap (λ (q : List ℕ). keys_at s base q) e
      ∙ keys_at-append s base (take j (take n t)) (p ∷ drop j (take n t))
      ∙ ap₂ (λ (a b : List ℕ). a ++ key_at s (base + p) ∷ b) (take-keys_at s base j (take n t))
      (drop-keys_at s base j (take n t))

  pub held_added : (j p : ℕ) (u : List ℕ) → Rising (held s base n t) → IsFree (held s base n t) (key_at s (base + p)) j
      → take (n + 1) u ≡ inserted j p (take n t)
      → Added (key_at s (base + p)) (held s base n t) (held s base (n + 1) u) false
  unfolding Added
  held_added j p u r f e =
      rw (held-inserted j p u e) (
        among_neither (key_at s (base + p)) j (held s base n t) f.below f.above,
        rising_inserted (key_at s (base + p)) j (held s base n t) r f.below f.above,
        among_inserted (key_at s (base + p)) j (held s base n t),
      )
