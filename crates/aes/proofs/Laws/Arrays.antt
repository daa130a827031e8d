-- What the type of an array by value says of its elements.
--
-- In order: array_bytes (of [u8; n]).
-- Not here: its length (the kit's borrow.Kind.Array, good-length).
-- Assumes nothing.
use mathlib.Core.List.{List, [], ◌∷◌}
use Prim.Native.Nat.{ℕ, zero, suc, ◌<◌}
use native.Mathlib.Omega.{arith}
use lib.ListN.{get_or}
use mir.Syntax.{w8}
use mir.Val.{Val}
use denote.Laws.{Is}
use denote.Plain.{UInt}
use denote.Array.{Array, each}
use denote.Shadow.{shadow}
use Rattle.words.specs.Endian.{Bytes}

each_byte : (xs : List ℕ) (us : List Val) → shadow (each ℕ (UInt w8).own_val xs us) → (k : ℕ) → get_or xs k 0 < 256
each_byte [] [] p k = omega arith
each_byte [] (u ∷ us) p k = absurd p
each_byte (x ∷ xs) [] p k = absurd p
each_byte (x ∷ xs) (u ∷ us) p zero = p.0.1
each_byte (x ∷ xs) (u ∷ us) p (suc k) = each_byte xs us p.1 k

-- on entry a function is told this of a parameter [u8; n], in the field good
pub array_bytes : (n : ℕ) (xs : List ℕ) (vs : List Val) → Is (Array (UInt w8) n) xs vs → Bytes xs
array_bytes n xs vs p = each_byte xs p.0 p.1.1
