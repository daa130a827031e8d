-- The steps by which code feeds a state: a list that fits beside what is pending, and one that does not.
--
-- In order: length-pending, length-padded, filled, length-filled (the front of a list behind what is pending), absorbed_short,
-- absorbed_long.
-- Not here: what the states mean (Feeding).
-- Assumes nothing.
use mathlib.Core.Path.{◌≡◌, sym, ap, ◌∙◌}
use mathlib.Core.Bool.{false}
use mathlib.Core.List.{List, ◌++◌, append_assoc}
use Prim.Native.Nat.{ℕ, ◌+◌, ◌-◌, ◌*◌, ◌≤◌, ◌<◌}
use native.Mathlib.Omega.{arith}
use lib.ListN.{length, take, drop, replicate, length-append, length-drop, length-take, length-replicate, take-append-drop}
use lib.Seq.{take_all, take_at, drop_at, length-take-le, drop-drop}
use Rattle.slices.specs.Over.{over}
use Rattle.slices.proofs.Laws.Over.{length_over, over_all, over_over, take_over}
use Rattle.slices.proofs.Laws.Parts.{part-tail}
use Rattle.blake2b.specs.Rfc7693.{compression_f, blocks_before, padded, chain, last_block}
use Rattle.blake2b.specs.State.{waiting, pending, absorbed}
use Rattle.blake2b.specs.declared.Blake2b.{Blake2b}
use Rattle.blake2b.proofs.Laws.Block.{compression_f-take}
use Rattle.blake2b.proofs.Laws.Chain.{chain_short, chain_more, last_short, last_more, length_last}

-- a state by its three parts
abbrev pub state : List ℕ → List ℕ → ℕ → Blake2b
state c b n = record { chain = c; buffer = b; total = n }

pub state_same : {c c' b b' : List ℕ} (n : ℕ) → c ≡ c' → b ≡ b' → state c b n ≡ state c' b' n
state_same n e f = cc

pub length-pending : (h : Blake2b) → length h.buffer ≡ 128 → length (pending h) ≡ waiting h.total
unfolding pending
length-pending h l = length-take-le (waiting h.total) h.buffer (omega arith)

pub length-padded : (m : List ℕ) → length m ≤ 128 → length (padded m) ≡ 128
length-padded m l =
    let n : length (replicate {A = ℕ} 128 0) ≡ 128 = length-replicate {A = ℕ} 128 0 in
    length_over m (replicate 128 0) (omega arith) ∙ n

module _ (h : Blake2b) (s : List ℕ) (long : length h.buffer ≡ 128) (used room : ℕ) (u : used ≡ waiting h.total)
    (r : room ≡ 128 - used) where
  -- the front of s behind what is pending, over zeros
  pub filled : {b d : List ℕ} → b ≡ padded (pending h) → d ≡ over (take used b ++ take room s) b
      → d ≡ padded (pending h ++ take room s)
  filled {b} {d} e g =
      let n : length (pending h) ≡ used = length-pending h long ∙ sym u in
      let t : take used b ≡ pending h = ap (take used) e ∙ take_over (pending h) (replicate 128 0) used n in
      g ∙ ap (λ (x : List ℕ). over (x ++ take room s) b) t ∙ ap (over (pending h ++ take room s)) e
      ∙ over_over (pending h) (take room s) (replicate 128 0)

  pub length-filled : length (padded (pending h ++ take room s)) ≡ 128
  length-filled =
      let n = length-pending h long in
      let l : length (pending h ++ take room s) ≤ 128 = simp (length-append, length-take) (omega arith) in
      length-padded (pending h ++ take room s) l

  module _ (few : length s ≤ room) where
    -- a list that fits goes into the buffer, behind what is pending
    pub absorbed_short : {b : List ℕ} → b ≡ padded (pending h ++ take room s)
        → state h.chain b (h.total + length s) ≡ absorbed h s
    unfolding absorbed
    absorbed_short e =
        let n = length-pending h long in
        let l : length (pending h ++ s) ≤ 128 = simp length-append (omega arith) in
        state_same (h.total + length s)
        (sym (chain_short h.chain (128 * blocks_before h.total) (pending h ++ s) l))
        (e ∙ ap (λ (x : List ℕ). padded (pending h ++ x)) (take_all room s few)
        ∙ ap padded (sym (last_short (pending h ++ s) l)))

  module _ (more : room < length s) where
    -- the first block, what is pending and the front of s, is a whole one
    length_first : length (pending h ++ take room s) ≡ 128
    length_first =
        let n = length-pending h long in
        let k : length (take room s) ≡ room = length-take-le room s (omega arith) in
        simp length-append (omega arith)

    split : pending h ++ s ≡ (pending h ++ take room s) ++ drop room s
    split = rw (append_assoc, take-append-drop)

    length-joined : 128 < length (pending h ++ s)
    length-joined =
        let n = length-pending h long in
        simp length-append (omega arith)

    take_first : take 128 (pending h ++ s) ≡ pending h ++ take room s
    take_first = ap (take 128) split ∙ take_at (pending h ++ take room s) (drop room s) 128 length_first

    drop_first : drop 128 (pending h ++ s) ≡ drop room s
    drop_first = ap (drop 128) split ∙ drop_at (pending h ++ take room s) (drop room s) 128 length_first

    counter : 128 * blocks_before h.total + 128 ≡ h.total + room
    counter = omega arith

    -- the rest is no longer than a block, so that a copy takes all of it
    rest_fits : take (length (replicate {A = ℕ} 128 0)) (last_block (drop room s)) ≡ last_block (drop room s)
    rest_fits = take_all 128 (last_block (drop room s)) (length_last (drop room s))

    -- a list that does not fit: the buffer's block, the blocks of the list itself but the last, and that one over zeros
    pub absorbed_long : {b c d l : List ℕ} (t at : ℕ) → b ≡ padded (pending h ++ take room s) → t ≡ h.total + room
        → c ≡ compression_f h.chain b t false
        → d ≡ chain (blocks_before (length (take (length s - room) (drop room s)))) c t (take (length s - room) (drop room s))
        → at ≡ room + 128 * blocks_before (length s - room)
        → l ≡ over (take (length (replicate {A = ℕ} 128 0)) (take (length s - at) (drop at s))) (replicate 128 0)
        → state d l (h.total + length s) ≡ absorbed h s
    unfolding absorbed
    absorbed_long {b} {c} {d} {l} t at eb et ec ed ea el =
        let k : 128 ≤ length (pending h ++ take room s) = omega (arith, length_first) in
        let fb : b ≡ pending h ++ take room s = eb ∙ over_all (pending h ++ take room s) (replicate 128 0) k in
        let fc : c ≡ compression_f h.chain (pending h ++ s) (128 * blocks_before h.total + 128) false =
        ec ∙ ap (λ (x : List ℕ). compression_f h.chain x t false) (fb ∙ sym take_first)
        ∙ compression_f-take h.chain (pending h ++ s) t false
        ∙ ap (λ (n : ℕ). compression_f h.chain (pending h ++ s) n false) (et ∙ sym counter) in
        let fd : d ≡ chain (blocks_before (length (drop room s))) c t (drop room s) =
        ed ∙ ap (λ (x : List ℕ). chain (blocks_before (length x)) c t x) (part-tail room s) in
        let n : ℕ = 128 * blocks_before h.total + 128 in
        let r : List ℕ = drop 128 (pending h ++ s) in
        let fe : d ≡ chain (blocks_before (length r)) (compression_f h.chain (pending h ++ s) n false) n r =
        cc (fd, fc, et, counter, drop_first) in
        let fr : drop at s ≡ last_block (drop room s) = ap (λ (n : ℕ). drop n s) ea
        ∙ sym (drop-drop (128 * blocks_before (length s - room)) room s)
        ∙ ap (λ (n : ℕ). drop (128 * blocks_before n) (drop room s)) (sym (length-drop room s)) in
        let fl : last_block (pending h ++ s) ≡ last_block (drop room s) = last_more (pending h ++ s) length-joined
        ∙ ap last_block drop_first in
        state_same (h.total + length s)
        (fe ∙ sym (chain_more h.chain (128 * blocks_before h.total) (pending h ++ s) length-joined))
        (cc (el, part-tail at s, fr, rest_fits, fl))
