-- `blake2b::Blake2b::absorb` meets its contract. Assumes nothing.
use mathlib.Core.Path.{◌≡◌, refl, ap}
use mathlib.Core.List.{List, ◌++◌}
use Prim.Native.Nat.{ℕ, ◌+◌, ◌-◌, ◌*◌}
use native.Mathlib.Omega.{arith}
use lib.ListN.{length, take, drop}
use borrow.Rule.Slice.PartMut.{put_mid}
use Rattle.slices.specs.Over.{over}
use Rattle.slices.proofs.Laws.Over.{over_behind}
use Rattle.blake2b.specs.Rfc7693.{padded}
use Rattle.blake2b.specs.State.{waiting, pending}
use Rattle.blake2b.specs.declared.Blake2b.{Blake2b}
use Rattle.blake2b.proofs.Laws.States.{filled, absorbed_short, absorbed_long}
use borrow.Author.Rules.{rules}
use Rattle.blake2b.proofs.Blake2b.absorb.Goals as goal

-- the buffer after a copy behind what is pending
laid : (h : Blake2b) (s b ys : List ℕ) (used : ℕ) → length h.buffer ≡ 128 → length b ≡ 128 → used ≡ waiting h.total
    → b ≡ padded (pending h)
    → ys ≡ over (take (length (take (128 - used) (drop used b))) s) (take (128 - used) (drop used b))
    → put_mid used (128 - used) b ys ≡ padded (pending h ++ take (128 - used) s)
laid h s b ys used long n u e g =
    filled h s long used (128 - used) u refl e (over_behind s b ys used (128 - used) (omega arith) (omega arith) g)

pub returns-then-n-room : goal.returns-then-n-room
returns-then-n-room c =
    let h = c.args.self in
    let s = c.args.s.now in
    let b = c.last_block-buffer.result in
    let used = c.waiting-used.result in
    let u = c.waiting-used.ensures in
    let long : length h.buffer ≡ 128 = search rules in
    let n : length b ≡ 128 = search rules in
    absorbed_short h s long used (128 - used) u refl (omega arith)
    (laid h s b c.copy.new.out used long n u c.last_block-buffer.ensures c.copy.ensures)

pub returns : goal.returns
returns c =
    let h = c.args.self in
    let s = c.args.s.now in
    let b = c.last_block-buffer.result in
    let used = c.waiting-used.result in
    let u = c.waiting-used.ensures in
    let room = 128 - used in
    let long : length h.buffer ≡ 128 = search rules in
    let n : length b ≡ 128 = search rules in
    absorbed_long h s long used room u refl (omega arith)
    (h.total + room) (room + 128 * c.blocks_before.result)
    (laid h s b c.copy.new.out used long n u c.last_block-buffer.ensures c.copy.ensures) refl
    c.compress-c.ensures c.blocks-d.ensures
    (ap (λ (n : ℕ). room + 128 * n) c.blocks_before.ensures) c.copy-2.ensures
