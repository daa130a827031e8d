-- The bytes behind a header's tag do not count for the start.
--
-- In order:
--   alike_less                     lists that are the same up to a place are so up to any before it
--   start_at_alike, keys_of_alike    the hash, the tag and the keys of a header that stands before it
--   start_behind                   a start is accepted the same whatever stands behind the tag
-- Not here: the header (crate outer_header, Laws.Behind).
-- Assumes nothing.
use mathlib.Core.Path.{◌≡◌, sym, ap, ap₂, ◌∙◌}
use mathlib.Core.List.{List, ◌++◌}
use Prim.Native.Nat.{ℕ, ◌+◌, ◌-◌, ◌≤◌}
use native.Mathlib.Omega.{arith}
use lib.ListN.{length, take}
use borrow.Author.Tests.{le-ltb}
use Rattle.refusals.specs.Limits.{file_limit}
use Rattle.outer_header.specs.Kdbx4Header.{header}
use Rattle.outer_header.specs.declared.Header.{Header}
use Rattle.std.specs.Prelude.{Result, Ok}
use Rattle.refusals.specs.declared.Refusal.{Refusal}
use Rattle.outer_header.proofs.Laws.Accepted.{header_stands}
use Rattle.outer_header.proofs.Laws.Behind.{Alike, append_alike, header_alike}
use Rattle.opening.specs.declared.Keys.{Keys}
use Rattle.opening.specs.Steps.{padded}
use Rattle.vault_keys.specs.VaultKeys.{keys_with}
use Rattle.vault.specs.Vault.{keys_of, hash_holds, tag_holds, start_at, start_in, start, begun}
use Rattle.vault.proofs.Laws.Start.{start-begun}

alike_less : (n m : ℕ) (s t : List ℕ) → n ≤ m → Alike m s t → Alike n s t
alike_less n m s t h a =
    record {
      long = omega (arith, a.long);
      byte = λ i b. a.byte i (omega arith);
      word = λ i b. a.word i (omega arith);
      part = λ i k b. a.part i k (omega arith);
    }

-- n is the header's length
module _ (n : ℕ) (f g : List ℕ) (a : Alike (n + 64) f g) where
  front_alike : take n g ≡ take n f
  front_alike = a.part 0 n (omega arith)

  hash_holds_alike : hash_holds g n ≡ hash_holds f n
  unfolding hash_holds
  hash_holds_alike = rw (a.part n 32 (omega arith), front_alike)

  tag_holds_alike : (base : List ℕ) → tag_holds base g n ≡ tag_holds base f n
  unfolding tag_holds
  tag_holds_alike base = rw (a.part (n + 32) 32 (omega arith), front_alike)

  start_at_alike : (k : Keys) → n + 64 ≤ length f → start_at g n k ≡ start_at f n k
  unfolding start_at
  start_at_alike k h =
      let l : 64 ≤ length f - n = omega arith in
      let m : 64 ≤ length g - n = omega (arith, a.long) in
      rw (le-ltb (length f - n) 64 l, le-ltb (length g - n) 64 m, hash_holds_alike, tag_holds_alike k.base)

keys_of_alike : (t f g : List ℕ) (h : Header) → header f ≡ Ok h → Alike h.length f g
    → keys_of t g h ≡ keys_of t f h
unfolding keys_of
keys_of_alike t f g h e a =
    let s = header_stands f h e in
    ap₂ (λ (x y : List ℕ). keys_with h.cipher x (padded y) t)
    (a.part h.seed.start h.seed.length s.seed_within)
    (a.part h.nonce.start h.nonce.length s.nonce_within)

start_read : (t f : List ℕ) (h : Header) → header f ≡ Ok h → start t f ≡ start_at f h.length (keys_of t f h)
unfolding start start_in
start_read t f h e = ap (λ (r : Result Header Refusal). start_in t f r) e

start_alike : (t f g : List ℕ) (k : Keys) (p : ℕ) → Alike p f g → length g ≤ file_limit → start t f ≡ begun k p
    → start t g ≡ begun k p
start_alike t f g k p a l e =
    let s = start-begun t f k p e in
    let h : Header = s.said in
    let n : ℕ = h.length in
    let i = s.inside in
    let q = s.place_is in
    let b : Alike (n + 64) f g = alike_less (n + 64) p f g (omega arith) a in
    let c : Alike n f g = alike_less n p f g (omega arith) a in
    start_read t g h (header_alike f g h c l s.reads)
    ∙ ap (λ (x : Keys). start_at g n x) (keys_of_alike t f g h s.reads c)
    ∙ start_at_alike n f g b (keys_of t f h) (omega arith)
    ∙ sym (start_read t f h s.reads)
    ∙ e

pub start_behind : (t f r : List ℕ) (k : Keys) (p : ℕ) → length (take p f ++ r) ≤ file_limit → start t f ≡ begun k p
    → start t (take p f ++ r) ≡ begun k p
start_behind t f r k p l e =
    start_alike t f (take p f ++ r) k p (append_alike p f r (start-begun t f k p e).inside) l e
