-- `inner_stream::chacha20_key` meets its contract. Assumes nothing.
use mathlib.Core.Path.{◌≡◌, sym}
use mathlib.Core.List.{List}
use Prim.Native.Nat.{ℕ}
use native.Mathlib.Omega.{arith}
use lib.ListN.{length, take}
use lib.Seq.{length-take-le}
use borrow.Author.Rules.{rules}
use Rattle.inner_stream.proofs.chacha20_key.Goals as goal

front : (h : List ℕ) → length h ≡ 64 → 32 ≡ length (take 32 h)
front h e = sym (length-take-le 32 h (omega arith))

pub slice_bounds-copy_from_slice-end-2 : goal.slice_bounds-copy_from_slice-end-2
slice_bounds-copy_from_slice-end-2 c = front c.args.h (search rules)

pub copy_from_slice-requires : goal.copy_from_slice-requires
copy_from_slice-requires c = front c.args.h (search rules)
