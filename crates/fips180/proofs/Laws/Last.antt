-- The last blocks as code lays them, over the width of a word: zeros, with the pending bytes, the byte 80 and the
-- length written over them.
--
-- In order:
--   marked, laid                        the pending bytes and the byte 80, and all of it up to an end
--   used_is, end_is                     the places that the code computes are the padding's
--   length_front                        how many bytes are pending
--   room, end_most                      the last blocks have room
--   length_marked, at_fits, length-laid the array's length after each step
--   length_last                         and of its part
--   close_is                            so laid and hashed, they leave the state's last hash value
-- Not here: the padding itself (Padding), states (Feeding).
-- Assumes nothing.
use mathlib.Core.Path.{◌≡◌, sym, ap, ◌∙◌}
use mathlib.Core.List.{List, ◌∷◌, ◌++◌, append_assoc}
use Prim.Native.Nat.{ℕ, suc, ◌+◌, ◌-◌, ◌*◌, ◌/◌, ◌%◌, ◌^◌, ◌≤◌, ◌<◌}
use native.Mathlib.Nat.{mod-lt}
use native.Mathlib.Omega.{arith}
use lib.ListN.{length, take, drop, set, length-set, length-append, length-replicate}
use lib.Seq.{length-take-le, set-append_seam, take-append-add}
use borrow.Rule.Slice.PartMut.{put_mid}
use Rattle.words.specs.Endian.{be_bytes}
use Rattle.words.proofs.Laws.Endian.{length-be_bytes}
use Rattle.slices.specs.Over.{over}
use Rattle.slices.proofs.Laws.Over.{take_over, over_fits, over_behind_fits, length_over}
use Rattle.slices.proofs.Laws.Zeros.{zeros, take-zeros, drop-zeros}
use Rattle.fips180.specs.Fips180.{Sha2, block_bytes, padding, parse, hash_blocks}
use Rattle.fips180.specs.Hashing.{Hashing, pending}
use Rattle.fips180.proofs.Laws.Padding.{last_end, last_end_most, zero_bytes_end, padding_is}

-- w and the byte 80, over n zeros
marked : (w : List ℕ) (n k : ℕ) → n ≡ length w + suc k → set (over w (zeros n)) (length w) 0x80 ≡ w ++ (0x80 ∷ zeros k)
unfolding over
marked w n k e =
    let h : length w ≤ n = omega arith in
    let z : n - length w ≡ suc k = omega arith in
    rw (drop-zeros (length w) n h, z) (set-append_seam w 0 (zeros k) 0x80)

-- w, the byte 80, zeros and len, up to e bytes in all
laid : (w len d : List ℕ) (at e n : ℕ) → length w < at → at + length len ≡ e → at ≤ n
    → d ≡ set (over w (zeros n)) (length w) 0x80
    → take e (over (take at d ++ len) d) ≡ w ++ (0x80 ∷ (zeros (at - length w - 1) ++ len))
laid w len d at e n h f l g =
    let k : ℕ = n - length w - 1 in
    let j : ℕ = at - length w - 1 in
    let z : n ≡ length w + suc k = omega arith in
    let a : at ≡ length w + suc j = omega arith in
    let i : j ≤ k = omega arith in
    let m : d ≡ w ++ (0x80 ∷ zeros k) = g ∙ marked w n k z in
    let s : take at d ≡ w ++ (0x80 ∷ zeros j) = ap (take at) m ∙ ap (λ (x : ℕ). take x (w ++ (0x80 ∷ zeros k))) a
    ∙ take-append-add w (0x80 ∷ zeros k) (suc j) ∙ ap (λ (t : List ℕ). w ++ (0x80 ∷ t)) (take-zeros j k i) in
    let y : length (take at d ++ len) ≡ e = rw s (simp (length-append, length-replicate) (omega arith)) in
    take_over (take at d ++ len) d e y ∙ ap (λ (t : List ℕ). t ++ len) s ∙ append_assoc w (0x80 ∷ zeros j) len

-- a state h with a whole buffer of b bytes, of an algorithm whose words are at least four bytes
module _ (p : Sha2) (wide : 4 ≤ p.bytes) (h : Hashing) (b : ℕ) (is : b ≡ block_bytes p) (long : length h.buffer ≡ b) where
  abbrev used : ℕ
  used = h.total % b

  -- the pending bytes, where the last block ends, and where the length goes
  abbrev front : List ℕ
  front = take used h.buffer

  abbrev end : ℕ
  end = (used + b / 8) / b * b + b

  abbrev at : ℕ
  at = end - 8

  pos : 0 < block_bytes p
  pos = omega arith

  used_is : used ≡ h.total % block_bytes p
  used_is = ap (λ (n : ℕ). h.total % n) is

  end_is : end ≡ last_end p h.total
  end_is =
      let e : b / 8 ≡ 2 * p.bytes = omega arith in
      rw (e, is)

  used-lt : used < b
  used-lt = mod-lt h.total (omega (arith, pos))

  length_front : length front ≡ used
  length_front = length-take-le used h.buffer (omega (arith, used-lt))

  -- the length fits behind the byte 80, and the end in two blocks
  room : used + 1 + 8 ≤ end
  room = omega (arith, zero_bytes_end p pos h.total, end_is, used_is)

  end_most : end ≤ 2 * b
  end_most = omega (arith, last_end_most p pos h.total, end_is)

  -- x holds the pending bytes over d zeros, as a copy left them
  module _ (d : ℕ) (two : d ≡ 2 * b) {x : List ℕ} (copied : x ≡ over (take (length (zeros d)) front) (zeros d)) where
    length_marked : length (set x used 0x80) ≡ d
    length_marked =
        let k = used-lt in
        let n = length_front in
        let z : length (zeros d) ≡ d = length-replicate d 0 in
        let l : length front ≤ length (zeros d) = omega arith in
        simp length-set (ap length (copied ∙ over_fits front (zeros d) l) ∙ length_over front (zeros d) l ∙ z)

    pub at_fits : at ≤ length (set x used 0x80)
    at_fits = omega (arith, end_most, length_marked)

    -- bits is the length in bits, and m the rest of the array from `at` on with that written into it
    module _ {bits m : List ℕ} (counted : bits ≡ be_bytes 8 (h.total * 8))
        (behind : m ≡ over (take (length (take (length (set x used 0x80) - at) (drop at (set x used 0x80)))) bits)
        (take (length (set x used 0x80) - at) (drop at (set x used 0x80)))) where
      length_bits : length bits ≡ 8
      length_bits = ap length counted ∙ length-be_bytes 8 (h.total * 8)

      laid_over : put_mid at (length (set x used 0x80) - at) (set x used 0x80) m
          ≡ over (take at (set x used 0x80) ++ bits) (set x used 0x80)
      laid_over =
          let n = length_marked in
          let r = room in
          let i = length_bits in
          let e = end_most in
          over_behind_fits bits (set x used 0x80) m at (length (set x used 0x80) - at) (omega arith) (omega arith) behind

      length-laid : length (put_mid at (length (set x used 0x80) - at) (set x used 0x80) m) ≡ d
      length-laid =
          let n = length_marked in
          let r = room in
          let i = length_bits in
          let e = end_most in
          let f = length-take-le at (set x used 0x80) (omega arith) in
          let fits : length (take at (set x used 0x80) ++ bits) ≤ length (set x used 0x80) = simp length-append (omega arith) in
          ap length laid_over ∙ length_over (take at (set x used 0x80) ++ bits) (set x used 0x80) fits ∙ n

      pub length_last : end ≡ length (take end (put_mid at (length (set x used 0x80) - at) (set x used 0x80) m))
      length_last =
          let e = end_most in
          sym (length-take-le end _ (omega (arith, length-laid)))

      last_is : h.total < 2 ^ 32
          → take end (put_mid at (length (set x used 0x80) - at) (set x used 0x80) m) ≡ pending p h ++ padding p h.total
      unfolding pending
      last_is few =
          let k = used-lt in
          let u = length_front in
          let z : length (zeros d) ≡ d = length-replicate d 0 in
          let l : length front ≤ length (zeros d) = omega arith in
          let r = room in
          let i = length_bits in
          let e = end_most in
          let g : set x used 0x80 ≡ set (over front (zeros d)) (length front) 0x80 = ap (λ (y : List ℕ). set y used 0x80)
          (copied ∙ over_fits front (zeros d) l)
          ∙ ap (λ (y : ℕ). set (over front (zeros d)) y 0x80) (sym u) in
          let q : length front < at = omega arith in
          let j : at + length bits ≡ end = omega arith in
          let s : at ≤ d = omega arith in
          cc (
            counted,
            laid_over,
            padding_is p wide h.total few,
            u,
            used_is,
            end_is,
            laid front bits (set x used 0x80) at end d q j s g,
          )

      -- the hash value that the last blocks leave
      pub close_is : {r : List ℕ} → h.total < 2 ^ 32
          → r ≡ hash_blocks p h.chain (parse p (take end
          (put_mid at (length (set x used 0x80) - at) (set x used 0x80) m)))
          → r ≡ hash_blocks p h.chain (parse p (pending p h ++ padding p h.total))
      close_is few e = cc (e, last_is few)
