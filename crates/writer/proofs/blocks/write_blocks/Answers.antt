-- `writer::blocks::write_blocks` meets its contract. The invariant: the blocks before `at` are written, and those
-- behind it are the blocks of the payload from `done` on, chained to `prev`; the pieces to come are those of the payload
-- from `done` on. Assumes nothing.
use mathlib.Core.Path.{◌≡◌, refl, sym, ap, ◌∙◌}
use mathlib.Core.List.{List, ◌++◌}
use Prim.Native.Nat.{ℕ, ◌+◌, ◌-◌, ◌≤◌}
use native.Mathlib.Omega.{arith}
use lib.ListN.{length, take, drop, length-append, length-drop, take-append-drop}
use lib.Seq.{take_at, drop_at, drop-drop, length-take-le}
use Rattle.std.specs.Slice.Iter.{chunks_exact_size}
use Rattle.slices.specs.Over.{over}
use Rattle.slices.proofs.Laws.Over.{length_over, over_nil, over_tail}
use Rattle.slices.proofs.Laws.Parts.{part-tail}
use Rattle.refusals.specs.Limits.{written_block}
use Rattle.refusals.proofs.Laws.Limits.{block_positive, block-file}
use Rattle.opening.specs.declared.Keys.{Keys}
use Rattle.writer.specs.Written.{blocks_of}
use Rattle.writer.specs.Stretches.{blocks_at, last_blocks}
use Rattle.writer.proofs.Laws.Stretches.{encryption_text, length-prev_by}
use Rattle.writer.proofs.Laws.Blocks.{Turned, blocks-turn}
use borrow.Author.Rules.{rules}
use Rattle.writer.proofs.blocks.write_blocks.Invariants.{whole}
use Rattle.writer.proofs.blocks.write_blocks.Goals as goal

pub chunks_exact-piece-items-requires : goal.chunks_exact-piece-items-requires
chunks_exact-piece-items-requires c = omega (arith, c.written_block-size.ensures, block_positive)

start_whole : (k : Keys) (b : List ℕ) → whole k b ≡ last_blocks k k.nonce 0 0 b
unfolding blocks_of
start_whole k b = ap (blocks_at k.base 0) (encryption_text k.cipher k b)

pub loop-piece-init : goal.loop-piece-init
loop-piece-init c =
    let a = c.args in
    record {
      size = c.written_block-size.ensures;
      step = search rules;
      to_come = search rules;
      prev_long = search rules;
      out_long = refl;
      rest_is = start_whole a.keys a.payload.now;
      out_is = sym (over_nil a.out.now);
      at_le = omega arith;
      room = c.requires;
      number_le = omega arith;
      done_le = omega arith;
    }

pub loop-piece-init-derived : goal.loop-piece-init-derived
loop-piece-init-derived c =
    let e : chunks_exact_size c.into_iter-piece-iterator.result ≡ c.written_block-size.result = search rules in
    (omega (arith, e, c.written_block-size.ensures, block_positive), tt)

-- a turn: the next piece x of the pieces s, and those behind it, r
turned : (k : Keys) (b v x s r : List ℕ) (i p at n m : ℕ) → n ≡ written_block → m ≡ n → s ≡ drop p b → length v ≡ 16
    → p ≤ length b → at ≤ length (whole k b) → drop at (whole k b) ≡ last_blocks k v i p (drop p b)
    → s ≡ x ++ r → length x ≡ m
    → Turned k (whole k b) b v x i p at n × (r ≡ drop (p + n) b) × (p + n ≤ length b)
turned k b v x s r i p at n m en em es lv lp la e ex lx =
    let f : drop p b ≡ x ++ r = sym es ∙ ex in
    let lr = length-append x r in
    let ld = length-drop p b in
    let lf = ap length f in
    let h : p + n ≤ length b = omega arith in
    let w : x ≡ take n (drop p b) = sym (ap (take n) f ∙ take_at x r n (lx ∙ em)) in (
      blocks-turn k (whole k b) b v x i p at n en lv h la w e,
      sym (drop_at x r n (lx ∙ em)) ∙ ap (drop n) (sym f) ∙ drop-drop n p b,
      h,
    )

tail_room : (d : List ℕ) (at m : ℕ) → at + m ≤ length d → m ≤ length (take (length d - at) (drop at d))
tail_room d at m h =
    let e : length (take (length d - at) (drop at d)) ≡ length d - at =
    length-take-le (length d - at) (drop at d) (simp length-drop (omega arith)) in
    omega arith

pub put_block-next-requires : goal.put_block-next-requires
put_block-next-requires c =
    let l = c.loop-piece in
    let i = l.invariant in
    let e = c.in-Some.ensures.steps.1 in
    let t = turned c.args.keys c.args.payload.now l.prev c.in-Some.piece.now _ _ l.number l.done l.at
    c.written_block-size.result _ i.size i.step i.to_come i.prev_long i.done_le i.at_le i.rest_is e.0 e.1 in
    let n = c.written_block-size.result in
    let f = t.0.fits in
    let p = t.0.piece in
    let r : 36 + n ≤ length (take (length l.out - l.at) (drop l.at l.out)) =
    tail_room l.out l.at (36 + n) (omega (arith, f, i.room, i.out_long)) in
    record {
      piece_in_bounds = omega (arith, r, p);
      piece_len_bound = omega (arith, p, i.size, block-file);
      piece_len = rw p t.0.pieces;
    }

pub overflow_add-at-in-loop-piece : goal.overflow_add-at-in-loop-piece
overflow_add-at-in-loop-piece c =
    let l = c.loop-piece in
    let i = l.invariant in
    let e = c.in-Some.ensures.steps.1 in
    let t = turned c.args.keys c.args.payload.now l.prev c.in-Some.piece.now _ _ l.number l.done l.at
    c.written_block-size.result _ i.size i.step i.to_come i.prev_long i.done_le i.at_le i.rest_is e.0 e.1 in
    let f = t.0.fits in
    search rules

pub loop-piece-preserved : goal.loop-piece-preserved
loop-piece-preserved c =
    let l = c.loop-piece in
    let i = l.invariant in
    let e = c.in-Some.ensures.steps.1 in
    let t = turned c.args.keys c.args.payload.now l.prev c.in-Some.piece.now _ _ l.number l.done l.at
    c.written_block-size.result _ i.size i.step i.to_come i.prev_long i.done_le i.at_le i.rest_is e.0 e.1 in
    let n = c.written_block-size.result in
    let a = c.args in
    let w = whole a.keys a.payload.now in
    let d = a.out.now in
    let h = c.put_block-next.ensures in
    let f = t.0.fits in
    let la : length (take l.at w) ≡ l.at = length-take-le l.at w i.at_le in
    let ad : l.at ≤ length d = omega (arith, i.at_le, i.room) in
    let k : length l.out - l.at ≡ length d - l.at = ap (λ (m : ℕ). m - l.at) i.out_long in
    let o = over_tail (take l.at w) _ d l.out _ l.at (length l.out - l.at) i.out_is la ad k h.out_after
    ∙ ap (λ (x : List ℕ). over x d) (sym t.0.written) in
    let lt : length (take (l.at + (36 + n)) w) ≡ l.at + (36 + n) = length-take-le (l.at + (36 + n)) w f in
    let lw : length (take (l.at + (36 + n)) w) ≤ length d = omega (arith, lt, f, i.room) in
    record {
      size = i.size;
      step = c.in-Some.ensures.steps.0 ∙ i.step;
      to_come = t.1;
      prev_long = ap length h.value ∙ length-prev_by a.keys.cipher a.keys l.prev _ i.prev_long;
      out_long = ap length o ∙ length_over (take (l.at + (36 + n)) w) d lw;
      rest_is = t.0.left
          ∙ ap (λ (v : List ℕ). last_blocks a.keys v (l.number + 1) (l.done + n) (drop (l.done + n) a.payload.now)) (sym h.value);
      out_is = o;
      at_le = f;
      room = i.room;
      number_le = omega (arith, i.number_le);
      done_le = t.2;
    }

-- the payload's last bytes as they are lent
pub put_last-requires : goal.put_last-requires
put_last-requires c =
    let l = c.loop-piece in
    let i = l.invariant in
    let a = c.args in
    let b = a.payload.now in
    let w = whole a.keys b in
    let e = part-tail l.done b in
    let f : length (last_blocks a.keys l.prev l.number l.done (take (length b - l.done) (drop l.done b)))
    ≡ length w - l.at =
    ap (λ (x : List ℕ). length (last_blocks a.keys l.prev l.number l.done x)) e
    ∙ ap length (sym i.rest_is) ∙ length-drop l.at w in
    let m : l.at + (length w - l.at) ≤ length l.out = omega (arith, i.out_long, i.at_le, i.room) in
    let r = tail_room l.out l.at (length w - l.at) m in
    let g : length (take (length b - l.done) (drop l.done b)) ≡ length b - l.done = ap length e ∙ length-drop l.done b in
    let q = ap length i.to_come ∙ length-drop l.done b in
    let t = c.in-None.ensures.steps.1.0 in
    let z = i.number_le in
    record {
      number_bound = search rules;
      piece_len_bound = omega (arith, g, q, t, i.size, i.step);
      piece_in_bounds = omega (arith, f, r);
    }

pub returns : goal.returns
returns c =
    let l = c.loop-piece in
    let i = l.invariant in
    let a = c.args in
    let b = a.payload.now in
    let w = whole a.keys b in
    let d = a.out.now in
    let la : length (take l.at w) ≡ l.at = length-take-le l.at w i.at_le in
    let ad : l.at ≤ length d = omega (arith, i.at_le, i.room) in
    let k : length l.out - l.at ≡ length d - l.at = ap (λ (m : ℕ). m - l.at) i.out_long in
    over_tail (take l.at w) _ d l.out _ l.at (length l.out - l.at) i.out_is la ad k c.put_last.ensures
    ∙ ap (λ (x : List ℕ). over (take l.at w ++ x) d)
    (ap (last_blocks a.keys l.prev l.number l.done) (part-tail l.done b) ∙ sym i.rest_is)
    ∙ ap (λ (x : List ℕ). over x d) (take-append-drop l.at w)
