-- `writer::blocks::put_last` meets its contract. Assumes nothing.
use mathlib.Core.Path.{◌≡◌, refl, ap, ◌∙◌}
use mathlib.Core.List.{List}
use Prim.Native.Nat.{ℕ, ◌+◌, ◌-◌, ◌≤◌}
use native.Mathlib.Omega.{arith}
use lib.ListN.{length, take, drop, length-drop}
use lib.Seq.{length-take-le}
use Rattle.slices.specs.Over.{over}
use Rattle.refusals.specs.Limits.{file_limit}
use Rattle.refusals.proofs.Laws.Limits.{file_size, block_size}
use Rattle.block_stream.specs.Blocks.{block_bytes}
use Rattle.writer.specs.Stretches.{stretch_by, text_of}
use Rattle.writer.proofs.Laws.Stretches.{length_stretch_text}
use Rattle.writer.proofs.Laws.Laying.{laid_behind, block-laid, closed_behind}
use Rattle.writer.proofs.Laws.Last.{last_text, last_small, last_none, last_some, last_length, last_room}
use borrow.Author.Rules.{rules}
use Rattle.writer.proofs.blocks.put_last.Goals as goal

tail_long : (d : List ℕ) (n : ℕ) → 36 + n ≤ length d → n ≤ length (take (length d - 36) (drop 36 d))
tail_long d n h =
    let e : length (take (length d - 36) (drop 36 d)) ≡ length d - 36 =
    length-take-le (length d - 36) (drop 36 d) (simp length-drop (omega arith)) in
    omega arith

pub text_len-n-requires : goal.text_len-n-requires
text_len-n-requires c = omega (arith, block_size, c.requires.piece_len_bound)

pub returns-then-n-eq0 : goal.returns-then-n-eq0
returns-then-n-eq0 c =
    let long_prev : length c.args.prev ≡ 16 = search rules in
    let a = c.args in
    c.seal.ensures
    ∙ last_none a.keys a.prev a.number a.at a.piece.now a.out.now _ c.text_len-n.ensures long_prev
    c.requires.piece_len_bound c.requires.piece_in_bounds c.if-n-eq0.true

pub slice_bounds-lay_text-count : goal.slice_bounds-lay_text-count
slice_bounds-lay_text-count c =
    let long_prev : length c.args.prev ≡ 16 = search rules in
    let room : 36 + c.text_len-n.result + 36 ≤ length c.args.out.now = let a = c.args in last_room a.keys a.prev a.number a.at a.piece.now a.out.now _ c.text_len-n.ensures long_prev c.requires.piece_len_bound c.requires.piece_in_bounds c.if-n-eq0.false in
    omega (arith, room)

pub slice_bounds-lay_text-start : goal.slice_bounds-lay_text-start
slice_bounds-lay_text-start c =
    let long_prev : length c.args.prev ≡ 16 = search rules in
    let room : 36 + c.text_len-n.result + 36 ≤ length c.args.out.now = let a = c.args in last_room a.keys a.prev a.number a.at a.piece.now a.out.now _ c.text_len-n.ensures long_prev c.requires.piece_len_bound c.requires.piece_in_bounds c.if-n-eq0.false in
    omega (arith, room)

pub lay_text-requires : goal.lay_text-requires
lay_text-requires c =
    let long_prev : length c.args.prev ≡ 16 = search rules in
    let room : 36 + c.text_len-n.result + 36 ≤ length c.args.out.now = let a = c.args in last_room a.keys a.prev a.number a.at a.piece.now a.out.now _ c.text_len-n.ensures long_prev c.requires.piece_len_bound c.requires.piece_in_bounds c.if-n-eq0.false in
    let e = c.text_len-n.ensures in
    let d = c.args.out.now in
    let l : 36 + c.text_len-n.result ≤ length d = omega (arith, room) in
    rw (← e) (tail_long d _ l)

pub close_block-requires : goal.close_block-requires
close_block-requires c =
    let long_prev : length c.args.prev ≡ 16 = search rules in
    let room : 36 + c.text_len-n.result + 36 ≤ length c.args.out.now = let a = c.args in last_room a.keys a.prev a.number a.at a.piece.now a.out.now _ c.text_len-n.ensures long_prev c.requires.piece_len_bound c.requires.piece_in_bounds c.if-n-eq0.false in
    let small : c.text_len-n.result ≤ file_limit = let a = c.args in last_small a.keys a.prev a.number a.at a.piece.now a.out.now _ c.text_len-n.ensures long_prev c.requires.piece_len_bound c.requires.piece_in_bounds in
    let r = room in
    let s = small in
    search rules

pub overflow_add-n : goal.overflow_add-n
overflow_add-n c =
    let long_prev : length c.args.prev ≡ 16 = search rules in
    let small : c.text_len-n.result ≤ file_limit = let a = c.args in last_small a.keys a.prev a.number a.at a.piece.now a.out.now _ c.text_len-n.ensures long_prev c.requires.piece_len_bound c.requires.piece_in_bounds in
    omega (arith, small, file_size)

pub slice_bounds-seal-count : goal.slice_bounds-seal-count
slice_bounds-seal-count c =
    let long_prev : length c.args.prev ≡ 16 = search rules in
    let room : 36 + c.text_len-n.result + 36 ≤ length c.args.out.now = let a = c.args in last_room a.keys a.prev a.number a.at a.piece.now a.out.now _ c.text_len-n.ensures long_prev c.requires.piece_len_bound c.requires.piece_in_bounds c.if-n-eq0.false in
    let r = room in
    search rules

pub slice_bounds-seal-start : goal.slice_bounds-seal-start
slice_bounds-seal-start c =
    let long_prev : length c.args.prev ≡ 16 = search rules in
    let room : 36 + c.text_len-n.result + 36 ≤ length c.args.out.now = let a = c.args in last_room a.keys a.prev a.number a.at a.piece.now a.out.now _ c.text_len-n.ensures long_prev c.requires.piece_len_bound c.requires.piece_in_bounds c.if-n-eq0.false in
    let r = room in
    search rules

pub returns : goal.returns
returns c =
    let long_prev : length c.args.prev ≡ 16 = search rules in
    let room : 36 + c.text_len-n.result + 36 ≤ length c.args.out.now = let a = c.args in last_room a.keys a.prev a.number a.at a.piece.now a.out.now _ c.text_len-n.ensures long_prev c.requires.piece_len_bound c.requires.piece_in_bounds c.if-n-eq0.false in
    let a = c.args in
    let d = a.out.now in
    let n = c.text_len-n.result in
    let b = text_of a.keys.cipher a.piece.now in
    let lv = long_prev in
    let w = block_bytes a.keys.base a.number (stretch_by a.keys.cipher a.keys a.prev a.at b) in
    let r : 36 + n + 36 ≤ length d = room in
    let lb : length b ≡ n = last_text a.keys a.prev a.number a.at a.piece.now d n c.text_len-n.ensures lv
    c.requires.piece_len_bound c.requires.piece_in_bounds in
    let x = laid_behind b d _ (length d - 36) (omega arith) refl c.lay_text.ensures in
    let ls = length_stretch_text a.keys.cipher a.keys a.prev a.at a.piece.now lv in
    let y = block-laid b d _ n lb (omega arith) x a.keys.cipher a.keys a.prev a.at a.keys.base _ a.number ls
    c.close_block.ensures.out_after in
    let lw = last_length a.keys a.prev a.number a.at a.piece.now d n c.text_len-n.ensures lv
    c.requires.piece_len_bound c.requires.piece_in_bounds in
    closed_behind a.keys.base w d _ _ (a.number + 1) (36 + n) _ y lw (omega arith) refl
    c.seal-2.ensures
    ∙ ap (λ (z : List ℕ). over z d)
    (last_some a.keys a.prev a.number a.at a.piece.now d n c.text_len-n.ensures lv c.requires.piece_len_bound
    c.requires.piece_in_bounds c.if-n-eq0.false)
