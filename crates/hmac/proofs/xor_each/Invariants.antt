-- `hmac::xor_each` meets its contract. The invariant: the first bytes are written, and the others are as they were.
-- Assumes nothing.
use Rattle.std.proofs.Common.{◌≡◌, ◌++◌, take, drop, map}
use Rattle.std.specs.Int.Bits.{bit_xor}
use Rattle.hmac.proofs.xor_each.Given as goal

abbrev pub invariant-loop-x : goal.invariant-loop-x
invariant-loop-x l =
    l.x-items ≡ map (λ x. bit_xor x l.c) (take l.x-index l.fn.b) ++ drop l.x-index l.fn.b
