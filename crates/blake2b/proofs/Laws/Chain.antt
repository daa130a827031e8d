-- Compressing block by block, the last one kept back (3.3).
--
-- In order:
--   chain_short, chain_more             no block before the last, and one
--   last_short, last_more, length_last  the last block
--   chain-append, last_append           two lists joined
--   chain-turn, chain_all               a loop over the blocks of a slice
--   length-chain                        eight words
-- Not here: one block (Block), states (Feeding).
-- Assumes nothing.
use mathlib.Core.Path.{◌≡◌, sym, ap, ◌∙◌}
use mathlib.Core.Bool.{false}
use mathlib.Core.List.{List, ◌++◌}
use Prim.Native.Nat.{ℕ, zero, suc, ◌+◌, ◌-◌, ◌*◌, ◌/◌, ◌≤◌, ◌<◌}
use native.Mathlib.Omega.{arith}
use lib.Dec.{leb}
use lib.ListN.{length, take, drop, length-append, length-drop}
use lib.Seq.{drop-drop, take-append-le, drop-append-le}
use borrow.Author.Tests.{leb-true, leb-false}
use Rattle.words.proofs.Laws.Cases.{by_bool}
use Rattle.slices.proofs.Laws.Parts.{part-tail}
use Rattle.blake2b.specs.Rfc7693.{compression_f, blocks_before, chain, last_block}
use Rattle.blake2b.proofs.Laws.Block.{compression_f-take, length-compression_f}

-- a list, by whether it has a block before the last
by_more : {P : Type 0} (m : List ℕ) → (length m ≤ 128 → P) → (128 < length m → P) → P
by_more m short more = by_bool (leb (length m) 128) (λ t. short (leb-true _ _ t)) (λ t. more (leb-false _ _ t))

pub chain_short : (h : List ℕ) (t : ℕ) (m : List ℕ) → length m ≤ 128 → chain (blocks_before (length m)) h t m ≡ h
unfolding chain
chain_short h t m l =
    let e : (length m - 1) / 128 ≡ 0 = omega arith in
    rw e

pub chain_more : (h : List ℕ) (t : ℕ) (m : List ℕ) → 128 < length m
    → chain (blocks_before (length m)) h t m
    ≡ chain (blocks_before (length (drop 128 m))) (compression_f h m (t + 128) false) (t + 128) (drop 128 m)
unfolding chain
chain_more h t m l =
    let e : (length m - 1) / 128 ≡ suc ((length m - 128 - 1) / 128) = omega arith in
    ap (λ (n : ℕ). chain n h t m) e
    ∙ ap (λ (x : List ℕ). chain ((length m - 128 - 1) / 128) x (t + 128) (drop 128 m)) (compression_f-take h m (t + 128) false)
    ∙ ap (λ (n : ℕ). chain ((n - 1) / 128) (compression_f h m (t + 128) false) (t + 128) (drop 128 m)) (sym (length-drop 128 m))

pub last_short : (m : List ℕ) → length m ≤ 128 → last_block m ≡ m
last_short m l =
    let e : 128 * ((length m - 1) / 128) ≡ 0 = omega arith in
    rw e

pub last_more : (m : List ℕ) → 128 < length m → last_block m ≡ last_block (drop 128 m)
last_more m l =
    let e : 128 * ((length m - 1) / 128) ≡ 128 + 128 * ((length m - 128 - 1) / 128) = omega arith in
    rw (e, ← drop-drop, length-drop)

pub length_last : (m : List ℕ) → length (last_block m) ≤ 128
length_last m = simp length-drop (omega arith)

-- no block before the last of a
chain_append_short : (h : List ℕ) (c : ℕ) (a t : List ℕ) → length a ≤ 128
    → chain (blocks_before (length (a ++ t))) h c (a ++ t)
    ≡ chain (blocks_before (length (last_block a ++ t))) (chain (blocks_before (length a)) h c a)
    (c + 128 * blocks_before (length a)) (last_block a ++ t)
chain_append_short h c a t l =
    let e : c + 128 * blocks_before (length a) ≡ c = omega arith in
    rw (e, last_short a l, chain_short h c a l)

chain_append_to : (n : ℕ) (h : List ℕ) (c : ℕ) (a t : List ℕ) → length a ≤ n
    → chain (blocks_before (length (a ++ t))) h c (a ++ t)
    ≡ chain (blocks_before (length (last_block a ++ t))) (chain (blocks_before (length a)) h c a)
    (c + 128 * blocks_before (length a)) (last_block a ++ t)
chain_append_to zero h c a t l = chain_append_short h c a t (omega arith)
chain_append_to (suc n) h c a t l =
    by_more a (chain_append_short h c a t)
    (λ k. let i : length (drop 128 a) ≤ n = simp length-drop (omega arith) in
    let j : 128 < length (a ++ t) = simp length-append (omega arith) in
    let b : 128 ≤ length a = omega arith in
    let e : c + 128 * blocks_before (length a) ≡ c + 128 + 128 * blocks_before (length (drop 128 a)) =
    simp length-drop (omega arith) in
    let f : compression_f h (a ++ t) (c + 128) false ≡ compression_f h a (c + 128) false = sym (compression_f-take h (a ++ t) (c + 128) false)
    ∙ ap (λ (x : List ℕ). compression_f h x (c + 128) false) (take-append-le 128 a t b) ∙ compression_f-take h a (c + 128) false in
    rw (chain_more h c (a ++ t) j, f, drop-append-le 128 a t b, e, chain_more h c a k, last_more a k)
    (chain_append_to n (compression_f h a (c + 128) false) (c + 128) (drop 128 a) t i))

-- compressing two lists joined is compressing the first, and then its last block with the second
pub chain-append : (h : List ℕ) (c : ℕ) (a t : List ℕ)
    → chain (blocks_before (length (a ++ t))) h c (a ++ t)
    ≡ chain (blocks_before (length (last_block a ++ t))) (chain (blocks_before (length a)) h c a)
    (c + 128 * blocks_before (length a)) (last_block a ++ t)
chain-append h c a t = chain_append_to (length a) h c a t (omega arith)

last_append_to : (n : ℕ) (a t : List ℕ) → length a ≤ n → last_block (a ++ t) ≡ last_block (last_block a ++ t)
last_append_to zero a t l =
    let h : length a ≤ 128 = omega arith in
    rw (last_short a h)
last_append_to (suc n) a t l =
    by_more a
    (λ h. rw (last_short a h))
    (λ k. let i : length (drop 128 a) ≤ n = simp length-drop (omega arith) in
    let j : 128 < length (a ++ t) = simp length-append (omega arith) in
    let b : 128 ≤ length a = omega arith in
    rw (last_more (a ++ t) j, drop-append-le 128 a t b, last_more a k) (last_append_to n (drop 128 a) t i))

pub last_append : (a t : List ℕ) → last_block (a ++ t) ≡ last_block (last_block a ++ t)
last_append a t = last_append_to (length a) a t (omega arith)

-- a loop over the blocks of s: one turn at a place, and the end
pub chain-turn : (c d s : List ℕ) (t at : ℕ) → 128 < length s - at
    → d ≡ compression_f c (take (length s - at) (drop at s)) (t + at + 128) false
    → chain (blocks_before (length (drop (at + 128) s))) d (t + (at + 128)) (drop (at + 128) s)
    ≡ chain (blocks_before (length (drop at s))) c (t + at) (drop at s)
chain-turn c d s t at l e =
    let h : 128 < length (drop at s) = simp length-drop (omega arith) in
    let a : t + (at + 128) ≡ t + at + 128 = omega arith in
    rw (e, part-tail, a, ← drop-drop) (sym (chain_more c (t + at) (drop at s) h))

pub chain_all : (c s : List ℕ) (t at : ℕ) → length s - at ≤ 128
    → chain (blocks_before (length (drop at s))) c t (drop at s) ≡ c
chain_all c s t at l = chain_short c t (drop at s) (simp length-drop (omega arith))

pub length-chain : (n : ℕ) (h : List ℕ) (t : ℕ) (m : List ℕ) → length h ≡ 8 → length (chain n h t m) ≡ 8
unfolding chain
length-chain zero h t m l = l
length-chain (suc n) h t m l =
    length-chain n (compression_f h (take 128 m) (t + 128) false) (t + 128) (drop 128 m) (length-compression_f h (take 128 m) (t + 128) false l)
