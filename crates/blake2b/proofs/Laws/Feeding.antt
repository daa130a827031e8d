-- Feeding a state is hashing the joined message: the laws of `started`, `absorbed` and `finished`.
--
-- In order: Holds (what a state has taken), started-holds, pending-absorbed, absorbed-holds, finished_holds,
-- feeds-holds, length_full (the bytes of eight words).
-- Not here: blocks (Chain), the theorem (Parts).
-- Assumes nothing.
use mathlib.Core.Path.{◌≡◌, refl, sym, ap, ◌∙◌}
use mathlib.Core.Bool.{true}
use mathlib.Core.List.{List, [], ◌∷◌, ◌++◌, append_assoc, append-nil}
use Prim.Native.Nat.{ℕ, ◌+◌, ◌*◌, ◌≤◌, ◌<◌}
use native.Mathlib.Nat.{zero-add}
use native.Mathlib.Omega.{arith}
use lib.Dec.{leb}
use lib.ListN.{length, replicate, length-append, length-drop, length-replicate}
use borrow.Author.Tests.{le-leb, lt-leb, leb-true, leb-false}
use Rattle.words.proofs.Laws.Cases.{by_bool}
use Rattle.slices.proofs.Laws.Over.{take_over}
use Rattle.refusals.specs.Limits.{message_limit}
use Rattle.fips180.specs.Fips180.Constants.{iv512}
use Rattle.fips180.specs.Feeds.{accepted}
use Rattle.blake2b.specs.Rfc7693.{compression_f, blocks_before, padded, initial, chain, last_block, full}
use Rattle.blake2b.specs.State.{waiting, pending, started, absorbed, fed, finished, feeds}
use Rattle.blake2b.specs.declared.Blake2b.{Blake2b}
use Rattle.blake2b.proofs.Laws.Block.{length-compression_f, length-serialize}
use Rattle.blake2b.proofs.Laws.Chain.{chain-append, last_append, length_last, length-chain}
use Rattle.blake2b.proofs.Laws.States.{length-pending, length-padded}

-- the state h, started with the digest length nn, has taken the message m
pub record Holds (nn : ℕ) (h : Blake2b) (m : List ℕ) : Type 0 where
  pub chained : h.chain ≡ chain (blocks_before (length m)) (initial nn) 0 m
  pub last : pending h ≡ last_block m
  pub counted : h.total ≡ length m
  pub long : length h.buffer ≡ 128

pub started-holds : (nn : ℕ) → Holds nn (started nn) []
unfolding started pending chain
started-holds nn = record { chained = refl; last = refl; counted = refl; long = length-replicate {A = ℕ} 128 0 }

-- what is kept back of pending bytes and k more is what is kept back of all
waiting-add : (n k : ℕ) → waiting (waiting n + k) ≡ waiting (n + k)
waiting-add n k = omega arith

pub pending-absorbed : (h : Blake2b) (s : List ℕ) → length h.buffer ≡ 128
    → pending (absorbed h s) ≡ last_block (pending h ++ s)
unfolding pending absorbed
pending-absorbed h s l =
    let n : length (pending h ++ s) ≡ waiting h.total + length s = length-append (pending h) s
    ∙ ap (λ (x : ℕ). x + length s) (length-pending h l) in
    let k : length (last_block (pending h ++ s)) ≡ waiting (h.total + length s) =
    length-drop (128 * blocks_before (length (pending h ++ s))) (pending h ++ s) ∙ ap waiting n
    ∙ waiting-add h.total (length s) in
    take_over (last_block (pending h ++ s)) (replicate 128 0) (waiting (h.total + length s)) k

pub absorbed-holds : (nn : ℕ) (h : Blake2b) (m s : List ℕ) → Holds nn h m → Holds nn (absorbed h s) (m ++ s)
unfolding absorbed
absorbed-holds nn h m s o =
    let z : 0 + 128 * blocks_before (length m) ≡ 128 * blocks_before (length m) = zero-add _ in
    record {
      chained = cc (chain-append (initial nn) 0 m s, z, o.chained, o.last, o.counted);
      last = pending-absorbed h s o.long ∙ ap (λ (l : List ℕ). last_block (l ++ s)) o.last ∙ sym (last_append m s);
      counted = simp length-append (omega (arith, o.counted));
      long = length-padded (last_block (pending h ++ s)) (length_last (pending h ++ s));
    }

pub finished_holds : (nn : ℕ) (h : Blake2b) (m : List ℕ) → Holds nn h m → finished h ≡ full nn m
unfolding finished full
finished_holds nn h m o = cc (o.chained, o.last, o.counted)

fed_taken : (h : Blake2b) (s : List ℕ) → h.total + length s ≤ message_limit → (fed h s).next ≡ absorbed h s
unfolding fed
fed_taken h s l = rw (le-leb _ _ l)

fed-refused : (h : Blake2b) (s : List ℕ) → message_limit < h.total + length s → (fed h s).next ≡ h
unfolding fed
fed-refused h s l = rw (lt-leb _ _ l)

pub feeds-holds : (nn : ℕ) (ss : List (List ℕ)) (h : Blake2b) (m : List ℕ) → Holds nn h m
    → Holds nn (feeds h ss) (m ++ accepted message_limit (length m) ss)
unfolding feeds accepted
feeds-holds nn [] h m o = rw append-nil o
feeds-holds nn (s ∷ ss) h m o =
    by_bool (leb (length m + length s) message_limit)
    (λ t. let k = leb-true (length m + length s) message_limit t in
    let l : h.total + length s ≤ message_limit = omega (arith, o.counted) in
    rw (fed_taken h s l, t, ← append_assoc)
    (rw length-append at (feeds-holds nn ss (absorbed h s) (m ++ s) (absorbed-holds nn h m s o))))
    (λ t. let k = leb-false (length m + length s) message_limit t in
    let l : message_limit < h.total + length s = omega (arith, o.counted) in
    rw (fed-refused h s l, t) (feeds-holds nn ss h m o))

length-initial : (nn : ℕ) → length (initial nn) ≡ 8
unfolding initial iv512
length-initial nn = refl

pub length_full : (nn : ℕ) (m : List ℕ) → length (full nn m) ≡ 64
unfolding full
length_full nn m =
    let c : List ℕ = chain (blocks_before (length m)) (initial nn) 0 m in
    let l = length-chain (blocks_before (length m)) (initial nn) 0 m (length-initial nn) in
    let e = length-compression_f c (padded (last_block m)) (length m) true l in
    length-serialize (compression_f c (padded (last_block m)) (length m) true) ∙ ap (λ (n : ℕ). 8 * n) e
