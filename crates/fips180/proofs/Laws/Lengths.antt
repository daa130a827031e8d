-- How long hash values and digests are.
--
-- In order: length-iv256, length-hash_blocks (eight words), length-digest, length-hash (the bytes of eight words).
-- Assumes nothing.
use mathlib.Core.Path.{◌≡◌, refl, sym, ap, ◌∙◌}
use mathlib.Core.List.{List, [], ◌∷◌}
use Prim.Native.Nat.{ℕ, zero, suc, ◌*◌}
use native.Mathlib.Nat.{suc-mul, zero-mul, add_comm}
use native.Mathlib.Omega.{arith}
use lib.ListN.{length, length-append}
use Rattle.fips180.specs.Fips180.{Sha2, round, round_on, rounds, sums, schedule, compress, hash_blocks, digest, hash, parse, pad}
use Rattle.fips180.specs.Fips180.Constants.{iv256}
use Rattle.words.proofs.Laws.Endian.{length-be_bytes}

pub length-iv256 : length iv256 ≡ 8
unfolding iv256
length-iv256 = refl

length-sums : (n : ℕ) (s t : List ℕ) → length s ≡ length t → length (sums n s t) ≡ length s
unfolding sums
length-sums n [] t e = refl
length-sums n (x ∷ s) [] e = absurd (omega arith)
length-sums n (x ∷ s) (y ∷ t) e =
    let f : length s ≡ length t = omega arith in
    ap suc (length-sums n s t f)

module _ (p : Sha2) where
  length-rounds : (ks ws s : List ℕ) (t : ℕ) → length s ≡ 8 → length (rounds p ks ws t s) ≡ 8
  unfolding rounds round round_on
  length-rounds ks ws s zero h = h
  length-rounds ks ws s (suc t) h = refl

  length-compress : (s b : List ℕ) → length s ≡ 8 → length (compress p s b) ≡ 8
  unfolding compress
  length-compress s b h =
      let r = length-rounds p.constants (schedule p b) s (length p.constants) h in
      length-sums p.bits s (rounds p p.constants (schedule p b) (length p.constants) s) (h ∙ sym r) ∙ h

  pub length-hash_blocks : (s : List ℕ) (bs : List (List ℕ)) → length s ≡ 8 → length (hash_blocks p s bs) ≡ 8
  unfolding hash_blocks
  length-hash_blocks s [] h = h
  length-hash_blocks s (b ∷ bs) h = length-hash_blocks (compress p s b) bs (length-compress s b h)

  pub length-digest : (ws : List ℕ) → length (digest p ws) ≡ length ws * p.bytes
  unfolding digest
  length-digest [] = sym (zero-mul p.bytes)
  length-digest (w ∷ ws) = rw (length-append, length-be_bytes, length-digest ws, suc-mul, add_comm)

  pub length-hash : (m : List ℕ) → length p.iv ≡ 8 → length (hash p m) ≡ 8 * p.bytes
  unfolding hash
  length-hash m h =
      length-digest (hash_blocks p p.iv (parse p (pad p m)))
      ∙ ap (λ (n : ℕ). n * p.bytes) (length-hash_blocks p.iv (parse p (pad p m)) h)
