-- `hexadecimal::encode` meets its contract. The invariant: the digits of the first i bytes stand over the front.
-- Assumes nothing.
use mathlib.Core.Path.{◌≡◌}
use mathlib.Core.List.{List}
use Prim.Native.Nat.{ℕ, ◌*◌, ◌/◌}
use lib.ListN.{length, take}
use Rattle.slices.specs.Over.{over}
use Rattle.hexadecimal.specs.Rfc4648.{encode}
use Rattle.hexadecimal.proofs.encode.Given as goal

-- the bytes for whose digits there is room
abbrev pub fitting : List ℕ → List ℕ → List ℕ
fitting d s = take (length d / 2) s

abbrev pub invariant-loop-i : goal.invariant-loop-i
invariant-loop-i l =
    l.out ≡ over (take (2 * l.i) (encode (fitting l.initial.out l.s))) l.initial.out
