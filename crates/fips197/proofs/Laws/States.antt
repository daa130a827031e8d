-- States as lists of sixteen: a state by its rows and columns is itself, two states are equal by their bytes, and a
-- state made of bytes is a block.
--
-- In order: state_own, state_same, state-take, state-block.
-- Assumes nothing.
use mathlib.Core.Path.{◌≡◌, refl, sym, ◌∙◌, ap, ap₂}
use mathlib.Core.List.{List, [], ◌∷◌}
use Prim.Native.Nat.{ℕ, zero, suc, ◌+◌, ◌*◌, ◌<◌, ◌≤◌}
use native.Mathlib.Omega.{arith}
use lib.Dec.{lit<}
use lib.ListN.{length, get_or, take}
use lib.Seq.{get_or-take, length-take-le}
use Rattle.words.specs.Block.{IsBlock}
use Rattle.fips197.specs.Fips197.{at, state}

-- n entries of a list from the place i on
abbrev spelled : ℕ → ℕ → List ℕ → List ℕ
spelled zero i s = []
spelled (suc n) i s = get_or s i 0 ∷ spelled n (suc i) s

spelled-tail : (n i x : ℕ) (s : List ℕ) → spelled n (suc i) (x ∷ s) ≡ spelled n i s
spelled-tail zero i x s = refl
spelled-tail (suc n) i x s = ap (λ (t : List ℕ). get_or s i 0 ∷ t) (spelled-tail n (suc i) x s)

spelled_all : (s : List ℕ) → spelled (length s) 0 s ≡ s
spelled_all [] = refl
spelled_all (x ∷ s) = ap (λ (t : List ℕ). x ∷ t) (spelled-tail (length s) 0 x s ∙ spelled_all s)

pub state_own : (s : List ℕ) → length s ≡ 16 → state (at s) ≡ s
state_own s e = ap (λ (n : ℕ). spelled n 0 s) (sym e) ∙ spelled_all s

cons_same : {x y : ℕ} {s t : List ℕ} → x ≡ y → s ≡ t → x ∷ s ≡ y ∷ t
cons_same p q = ap₂ (λ (x : ℕ) (s : List ℕ). x ∷ s) p q

pub state_same : (f g : ℕ → ℕ → ℕ) → ((r c : ℕ) → r < 4 → c < 4 → f r c ≡ g r c) → state f ≡ state g
state_same f g h =
    (cons_same (h 0 0 (lit< tt) (lit< tt))
    (cons_same (h 1 0 (lit< tt) (lit< tt))
    (cons_same (h 2 0 (lit< tt) (lit< tt))
    (cons_same (h 3 0 (lit< tt) (lit< tt))
    (cons_same (h 0 1 (lit< tt) (lit< tt))
    (cons_same (h 1 1 (lit< tt) (lit< tt))
    (cons_same (h 2 1 (lit< tt) (lit< tt))
    (cons_same (h 3 1 (lit< tt) (lit< tt))
    (cons_same (h 0 2 (lit< tt) (lit< tt))
    (cons_same (h 1 2 (lit< tt) (lit< tt))
    (cons_same (h 2 2 (lit< tt) (lit< tt))
    (cons_same (h 3 2 (lit< tt) (lit< tt))
    (cons_same (h 0 3 (lit< tt) (lit< tt))
    (cons_same (h 1 3 (lit< tt) (lit< tt))
    (cons_same (h 2 3 (lit< tt) (lit< tt))
    (cons_same (h 3 3 (lit< tt) (lit< tt))
    refl))))))))))))))))

-- the state at the start of a list
pub state-take : (s : List ℕ) → 16 ≤ length s → state (at s) ≡ take 16 s
state-take s h =
    state_same (at s) (at (take 16 s)) (λ r c hr hc. sym (get_or-take 16 s (r + 4 * c) 0 (omega arith)))
    ∙ state_own (take 16 s) (length-take-le 16 s h)

-- what holds of each row and column, and of 0, holds at every place
at_state : (f : ℕ → ℕ → ℕ) → ((r c : ℕ) → r < 4 → c < 4 → f r c < 256) → (k : ℕ) → get_or (state f) k 0 < 256
at_state f h zero = h 0 0 (lit< tt) (lit< tt)
at_state f h (suc zero) = h 1 0 (lit< tt) (lit< tt)
at_state f h (suc (suc zero)) = h 2 0 (lit< tt) (lit< tt)
at_state f h (suc (suc (suc zero))) = h 3 0 (lit< tt) (lit< tt)
at_state f h (suc (suc (suc (suc zero)))) = h 0 1 (lit< tt) (lit< tt)
at_state f h (suc (suc (suc (suc (suc zero))))) = h 1 1 (lit< tt) (lit< tt)
at_state f h (suc (suc (suc (suc (suc (suc zero)))))) = h 2 1 (lit< tt) (lit< tt)
at_state f h (suc (suc (suc (suc (suc (suc (suc zero))))))) = h 3 1 (lit< tt) (lit< tt)
at_state f h (suc (suc (suc (suc (suc (suc (suc (suc zero)))))))) = h 0 2 (lit< tt) (lit< tt)
at_state f h (suc (suc (suc (suc (suc (suc (suc (suc (suc zero))))))))) = h 1 2 (lit< tt) (lit< tt)
at_state f h (suc (suc (suc (suc (suc (suc (suc (suc (suc (suc zero)))))))))) = h 2 2 (lit< tt) (lit< tt)
at_state f h (suc (suc (suc (suc (suc (suc (suc (suc (suc (suc (suc zero))))))))))) = h 3 2 (lit< tt) (lit< tt)
at_state f h (suc (suc (suc (suc (suc (suc (suc (suc (suc (suc (suc (suc zero)))))))))))) = h 0 3 (lit< tt) (lit< tt)
at_state f h (suc (suc (suc (suc (suc (suc (suc (suc (suc (suc (suc (suc (suc zero))))))))))))) = h 1 3 (lit< tt) (lit< tt)
at_state f h (suc (suc (suc (suc (suc (suc (suc (suc (suc (suc (suc (suc (suc (suc zero)))))))))))))) = h 2 3 (lit< tt) (lit< tt)
at_state f h (suc (suc (suc (suc (suc (suc (suc (suc (suc (suc (suc (suc (suc (suc (suc zero))))))))))))))) = h 3 3 (lit< tt) (lit< tt)
at_state f h (suc (suc (suc (suc (suc (suc (suc (suc (suc (suc (suc (suc (suc (suc (suc (suc k)))))))))))))))) = omega arith

pub state-block : (f : ℕ → ℕ → ℕ) → ((r c : ℕ) → r < 4 → c < 4 → f r c < 256) → IsBlock (state f)
state-block f h = record { size = refl; bytes = at_state f h }
