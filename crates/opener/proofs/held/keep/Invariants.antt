-- `opener::held::keep` meets its contract. Assumes nothing.
use mathlib.Core.Path.{◌≡◌}
use mathlib.Core.List.{◌++◌}
use Prim.Native.Nat.{◌-◌}
use lib.ListN.{take, drop, replicate}
use Rattle.opener.proofs.held.keep.Given as goal

abbrev pub invariant-loop-i : goal.invariant-loop-i
invariant-loop-i l = l.a ≡ take l.i (drop l.at (take l.h l.held ++ l.d)) ++ replicate (16 - l.i) 0
