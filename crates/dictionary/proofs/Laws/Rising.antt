-- Searching and inserting in a rising list of numbers.
--
-- In order:
--   or_swap                     two tests in the other order
--   among_at                    a number that stands at an index is among them
--   below_front, above_back     where the number at an index is below one all before it are, and above alike
--   above_mono                  what is above a number is above lesser ones
--   among_neither               a number that all others are below or above is not among them
--   rising_inserted             one more number at the index where it belongs
--   among_inserted              .. is one more among them
-- Assumes nothing.
use mathlib.Core.Path.{◌≡◌, refl, ap, ◌∙◌}
use mathlib.Core.Bool.{Bool, true, false, cond}
use mathlib.Core.List.{List, [], ◌∷◌}
use Prim.Native.Nat.{ℕ, zero, suc, ◌≤◌, ◌<◌}
use native.Mathlib.Omega.{arith}
use lib.Dec.{eqb}
use lib.ListN.{length, get_or, take, drop}
use borrow.Author.Tests.{eq-eqb, ne_eqb}
use Rattle.dictionary.specs.Order.{among, Below, Above, Rising, inserted}

either_true : (b : Bool) → cond b true true ≡ true
either_true true = refl
either_true false = refl

pub or_swap : (a b c : Bool) → cond a true (cond b true c) ≡ cond b true (cond a true c)
or_swap true true c = refl
or_swap true false c = refl
or_swap false true c = refl
or_swap false false c = refl

pub among_at : (ks : List ℕ) (m x : ℕ) → m < length ks → get_or ks m 0 ≡ x → among x ks ≡ true
unfolding among
among_at [] m x h e = absurd (omega arith)
among_at (k ∷ ks) zero x h e = rw (eq-eqb k x e)
among_at (k ∷ ks) (suc m) x h e = rw (among_at ks m x (omega arith) e) (either_true (eqb k x))

pub above_mono : (x y : ℕ) (ks : List ℕ) → x ≤ y → Above y ks → Above x ks
unfolding Above
above_mono x y [] h a = a
above_mono x y (k ∷ ks) h a = (omega (arith, a.0), above_mono x y ks h a.1)

above_at : (x : ℕ) (ks : List ℕ) (m : ℕ) → Above x ks → m < length ks → x < get_or ks m 0
unfolding Above
above_at x [] m a h = absurd (omega arith)
above_at x (k ∷ ks) zero a h = a.0
above_at x (k ∷ ks) (suc m) a h = above_at x ks m a.1 (omega arith)

pub below_front : (ks : List ℕ) (m x : ℕ) → Rising ks → m < length ks → get_or ks m 0 < x → Below x (take (suc m) ks)
unfolding Rising Below
below_front [] m x r h l = absurd (omega arith)
below_front (k ∷ ks) zero x r h l = (l, tt)
below_front (k ∷ ks) (suc m) x r h l =
    (omega (arith, above_at k ks m r.0 (omega arith)), below_front ks m x r.1 (omega arith) l)

pub above_back : (ks : List ℕ) (m x : ℕ) → Rising ks → m < length ks → x < get_or ks m 0 → Above x (drop m ks)
unfolding Rising Above
above_back [] m x r h l = absurd (omega arith)
above_back (k ∷ ks) zero x r h l = (l, above_mono x k ks (omega arith) r.0)
above_back (k ∷ ks) (suc m) x r h l = above_back ks m x r.1 (omega arith) l

among_above : (x : ℕ) (ks : List ℕ) → Above x ks → among x ks ≡ false
unfolding Above among
among_above x [] a = refl
among_above x (k ∷ ks) a = rw (ne_eqb k x (λ e. omega (arith, a.0, e))) (among_above x ks a.1)

pub among_neither : (x j : ℕ) (ks : List ℕ) → Below x (take j ks) → Above x (drop j ks) → among x ks ≡ false
unfolding Below among
among_neither x zero ks b a = among_above x ks a
among_neither x (suc j) [] b a = refl
among_neither x (suc j) (k ∷ ks) b a = rw (ne_eqb k x (λ e. omega (arith, b.0, e))) (among_neither x j ks b.1 a)

above_inserted : (k x j : ℕ) (ks : List ℕ) → Above k ks → k < x → Above k (inserted j x ks)
unfolding Above
above_inserted k x zero ks a h = (h, a)
above_inserted k x (suc j) [] a h = (h, tt)
above_inserted k x (suc j) (l ∷ ks) a h = (a.0, above_inserted k x j ks a.1 h)

pub rising_inserted : (x j : ℕ) (ks : List ℕ) → Rising ks → Below x (take j ks) → Above x (drop j ks)
    → Rising (inserted j x ks)
unfolding Rising Below
rising_inserted x zero ks r b a = (a, r)
rising_inserted x (suc j) [] r b a = (a, tt)
rising_inserted x (suc j) (k ∷ ks) r b a =
    (above_inserted k x j ks r.0 b.0, rising_inserted x j ks r.1 b.1 a)

pub among_inserted : (x j : ℕ) (ks : List ℕ) (y : ℕ) → among y (inserted j x ks) ≡ among y (x ∷ ks)
unfolding among
among_inserted x zero ks y = refl
among_inserted x (suc j) [] y = refl
among_inserted x (suc j) (k ∷ ks) y =
    ap (λ (b : Bool). cond (eqb k y) true b) (among_inserted x j ks y) ∙ or_swap (eqb k y) (eqb x y) (among y ks)
