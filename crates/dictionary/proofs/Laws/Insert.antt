-- A place put into a table: the places from its index on move one up, the last first.
--
-- In order: Shifted, shifted_none, shifted_more (one turn), shifted_all (the store behind the loop).
-- Assumes nothing.
use mathlib.Core.Path.{◌≡◌, refl, sym, ap, ap₂, ◌∙◌}
use mathlib.Core.List.{List, [], ◌∷◌, ◌++◌}
use Prim.Native.Nat.{ℕ, zero, suc, ◌+◌, ◌-◌, ◌≤◌, ◌<◌}
use native.Mathlib.Nat.{sub-zero}
use native.Mathlib.Numerals.{sub-one}
use native.Mathlib.Omega.{arith}
use lib.ListN.{length, get_or, take, drop, set}
use lib.Seq.{take-set-le, drop-cons, take-take, take-add, get_or-take, take-nil}
use Rattle.dictionary.specs.Order.{inserted}

-- the places before i are as they were, and the n - i from i on stand one further up
abbrev pub Shifted : List ℕ → List ℕ → ℕ → ℕ → Type 0
Shifted t₀ t n i = (take i t ≡ take i t₀) × (take (n - i) (drop (suc i) t) ≡ take (n - i) (drop i t₀))

pub shifted_none : (t : List ℕ) (n : ℕ) → Shifted t t n n
shifted_none t n = let e : n - n ≡ 0 = omega arith in rw e (refl, refl)

drop-set : (l : List ℕ) (i a : ℕ) → i < length l → drop i (set l i a) ≡ a ∷ drop (suc i) l
drop-set [] i a h = absurd (omega arith)
drop-set (x ∷ l) zero a h = refl
drop-set (x ∷ l) (suc i) a h = drop-set l i a (omega arith)

drop-take : (j n : ℕ) (l : List ℕ) → drop j (take n l) ≡ take (n - j) (drop j l)
drop-take zero n l = rw sub-zero
drop-take (suc j) zero l = let e : zero - suc j ≡ 0 = omega arith in rw e
drop-take (suc j) (suc n) [] = sym (take-nil (suc n - suc j))
drop-take (suc j) (suc n) (x ∷ l) = let e : suc n - suc j ≡ n - j = omega arith in rw e (drop-take j n l)

turn : (t₀ t : List ℕ) (n m : ℕ) → suc m ≤ n → n < length t → length t ≡ length t₀ → Shifted t₀ t n (suc m)
    → Shifted t₀ (set t (suc m) (get_or t m 0)) n m
turn t₀ t n m h l e s =
    let d : n - m ≡ suc (n - suc m) = omega arith in
    let a : suc m < length t = omega arith in
    let b : m < length t₀ = omega arith in
    let f : get_or t m 0 ≡ get_or t₀ m 0 =
    sym (get_or-take (suc m) t m 0 (omega arith)) ∙ ap (λ (u : List ℕ). get_or u m 0) s.0
    ∙ get_or-take (suc m) t₀ m 0 (omega arith) in
    let g : take m t ≡ take m t₀ =
    sym (take-take m (suc m) t (omega arith)) ∙ ap (λ (u : List ℕ). take m u) s.0
    ∙ take-take m (suc m) t₀ (omega arith) in
    let p : take m (set t (suc m) (get_or t m 0)) ≡ take m t₀ = take-set-le m t (suc m) (get_or t m 0) (omega arith) ∙ g in
    let q : take (suc (n - suc m)) (drop (suc m) (set t (suc m) (get_or t m 0))) ≡ take (suc (n - suc m)) (drop m t₀) =
    rw (drop-set t (suc m) (get_or t m 0) a, drop-cons t₀ m 0 b) (ap₂ ◌∷◌ f s.1) in
    (p, rw d q)

pub shifted_more : (t₀ t : List ℕ) (n i : ℕ) → 0 < i → i ≤ n → n < length t → length t ≡ length t₀ → Shifted t₀ t n i
    → Shifted t₀ (set t i (get_or t (i - 1) 0)) n (i - 1)
shifted_more t₀ t n zero z h l e s = absurd (omega arith)
shifted_more t₀ t n (suc m) z h l e s = rw sub-one (turn t₀ t n m h l e s)

pub shifted_all : (t₀ t : List ℕ) (n j x : ℕ) → j ≤ n → n < length t → Shifted t₀ t n j
    → take (n + 1) (set t j x) ≡ inserted j x (take n t₀)
shifted_all t₀ t n j x h l s =
    let a : j < length t = omega arith in
    let d : n + 1 ≡ j + suc (n - j) = omega arith in
    let p : take j (set t j x) ≡ take j (take n t₀) =
    take-set-le j t j x (omega arith) ∙ s.0 ∙ sym (take-take j n t₀ h) in
    let q : take (suc (n - j)) (drop j (set t j x)) ≡ x ∷ drop j (take n t₀) =
    rw (drop-set t j x a, drop-take j n t₀) (ap (λ (u : List ℕ). x ∷ u) s.1) in
    rw d (take-add j (suc (n - j)) (set t j x) ∙ ap₂ ◌++◌ p q)
