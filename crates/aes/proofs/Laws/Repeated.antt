-- A function applied n times.
--
-- In order: repeated_more (once more), repeated-add (in two parts).
-- Assumes nothing.
use mathlib.Core.Path.{◌≡◌, ap, ◌∙◌}
use mathlib.Core.List.{List}
use Prim.Native.Nat.{ℕ, zero, suc, ◌+◌}
use native.Mathlib.Nat.{zero-add, suc-add}
use native.Mathlib.Numerals.{add-one}
use Rattle.aes.specs.Repeated.{repeated}

pub repeated_more : (f : List ℕ → List ℕ) (s : List ℕ) (i : ℕ) (x y : List ℕ) → x ≡ repeated f i s → y ≡ f x
    → y ≡ repeated f (i + 1) s
unfolding repeated
repeated_more f s i x y p q = rw add-one (q ∙ ap f p)

pub repeated-add : (f : List ℕ → List ℕ) (m n : ℕ) (s : List ℕ) → repeated f (m + n) s ≡ repeated f m (repeated f n s)
unfolding repeated
repeated-add f zero n s = rw zero-add
repeated-add f (suc m) n s = rw suc-add (ap f (repeated-add f m n s))
