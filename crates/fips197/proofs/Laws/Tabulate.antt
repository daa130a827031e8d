-- A list by a rule for its entries, and a loop that fills an array by it.
--
-- In order: length-tabulate, get_d_tabulate, tabulate_is (by its entries), tabulate_more (one turn), tabulate_all (the
-- loop's end).
-- Assumes nothing.
use mathlib.Core.Path.{◌≡◌, refl, sym, ap, ◌∙◌}
use mathlib.Core.List.{List, [], ◌∷◌}
use Prim.Native.Nat.{ℕ, zero, suc, ◌+◌, ◌≤◌, ◌<◌}
use native.Mathlib.Numerals.{add-one}
use native.Mathlib.Omega.{arith}
use lib.Dec.{eqb}
use lib.ListN.{length, get_or, take, set, length-append, get_or-append}
use lib.Seq.{get_or_at, ext_get_or, take-suc-set, take_all}
use borrow.Author.Tests.{eqb-true, eqb-false}
use Rattle.words.proofs.Laws.Cases.{by_bool}
use Rattle.fips197.specs.Tabulate.{tabulate}

pub length-tabulate : (n : ℕ) (f : ℕ → ℕ) → length (tabulate n f) ≡ n
unfolding tabulate
length-tabulate zero f = refl
length-tabulate (suc n) f =
    let e = length-tabulate n f in
    simp length-append (omega arith)

pub get_d_tabulate : (n : ℕ) (f : ℕ → ℕ) (k : ℕ) → k < n → get_or (tabulate n f) k 0 ≡ f k
unfolding tabulate
get_d_tabulate zero f k h = absurd (omega arith)
get_d_tabulate (suc n) f k h =
    let e = length-tabulate n f in
    by_bool (eqb k n)
    (λ t. let q : k ≡ n = eqb-true k n t in rw q (get_or_at (tabulate n f) (f n) [] 0 n e))
    (λ t. let other = eqb-false k n t in
    let l : k < n = omega arith in
    let m : k < length (tabulate n f) = omega arith in
    get_or-append (tabulate n f) (f n ∷ []) 0 k m ∙ get_d_tabulate n f k l)

pub tabulate_is : (n : ℕ) (f : ℕ → ℕ) (t : List ℕ) → length t ≡ n → ((k : ℕ) → k < n → get_or t k 0 ≡ f k) → t ≡ tabulate n f
tabulate_is n f t e h =
    ext_get_or 0 t (tabulate n f) (e ∙ sym (length-tabulate n f))
    (λ k l. let m : k < n = omega arith in h k m ∙ sym (get_d_tabulate n f k m))

pub tabulate_more : (f : ℕ → ℕ) (t : List ℕ) (i v : ℕ) → i < length t → take i t ≡ tabulate i f → v ≡ f i
    → take (i + 1) (set t i v) ≡ tabulate (i + 1) f
unfolding tabulate
tabulate_more f t i v h e p = rw (add-one, take-suc-set t i v h, e, p)

pub tabulate_all : (n : ℕ) (f : ℕ → ℕ) (t : List ℕ) (i : ℕ) → i ≡ n → length t ≡ n → take i t ≡ tabulate i f → t ≡ tabulate n f
tabulate_all n f t i e l p =
    let h : length t ≤ i = omega arith in
    sym (take_all i t h) ∙ p ∙ ap (λ (k : ℕ). tabulate k f) e
