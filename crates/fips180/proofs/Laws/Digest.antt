-- The message digest, a word's bytes at a time.
--
-- In order:
--   digest-append, digest_one, digest-suc   two lists of words, one word, one word more
--   digest_more                             the bytes of a word, written behind those before
--   digest-turn, digest_all                 a turn of the loop that writes them, and its end
-- Assumes nothing.
use mathlib.Core.Path.{◌≡◌, refl, sym, ap, ◌∙◌}
use mathlib.Core.List.{List, [], ◌∷◌, ◌++◌, append_assoc, append-nil}
use Prim.Native.Nat.{ℕ, suc, ◌+◌, ◌-◌, ◌*◌, ◌≤◌, ◌<◌}
use native.Mathlib.Nat.{suc-mul, mul-le-mul_right}
use native.Mathlib.Numerals.{add-one}
use native.Mathlib.Omega.{arith}
use lib.ListN.{length, take, drop, get_or, length-append}
use lib.Seq.{take_all, take-suc, length-take-le}
use borrow.Rule.Slice.PartMut.{put_mid}
use Rattle.words.specs.Endian.{be_bytes}
use Rattle.words.proofs.Laws.Endian.{length-be_bytes}
use Rattle.slices.specs.Over.{over}
use Rattle.slices.proofs.Laws.Over.{take_over, over_behind_fits, length_over}
use Rattle.fips180.specs.Fips180.{Sha2, digest}

module _ (p : Sha2) where
  digest-append : (v w : List ℕ) → digest p (v ++ w) ≡ digest p v ++ digest p w
  unfolding digest
  digest-append [] w = refl
  digest-append (x ∷ v) w = rw (digest-append v w, append_assoc)

  digest_one : (x : ℕ) → digest p (x ∷ []) ≡ be_bytes p.bytes x
  unfolding digest
  digest_one x = append-nil (be_bytes p.bytes x)

  digest-suc : (c : List ℕ) (i : ℕ) → i < length c → digest p (take (suc i) c)
      ≡ digest p (take i c) ++ be_bytes p.bytes (get_or c i 0)
  digest-suc c i h = rw (take-suc c i 0, digest-append, digest_one)

  -- the bytes of word i, written behind those of the words before
  digest_more : (c out : List ℕ) (i : ℕ) {b d : List ℕ} → i < length c → i * p.bytes ≤ length out
      → take (i * p.bytes) out ≡ digest p (take i c) → b ≡ be_bytes p.bytes (get_or c i 0) → d
      ≡ over (take (i * p.bytes) out ++ b) out
      → take ((i + 1) * p.bytes) d ≡ digest p (take (i + 1) c)
  digest_more c out i {b} {d} h l e₁ e₂ e₃ =
      let v : length b ≡ p.bytes = ap length e₂ ∙ length-be_bytes p.bytes (get_or c i 0) in
      let n = length-take-le (i * p.bytes) out l in
      let k : length (take (i * p.bytes) out ++ b) ≡ i * p.bytes + p.bytes = simp length-append (omega arith) in
      rw (add-one, suc-mul, digest-suc c i h)
      (cc (e₁, e₂, e₃, take_over (take (i * p.bytes) out ++ b) out (i * p.bytes + p.bytes) k))

  -- m is the array from word i on, as a copy of the word's bytes into it left it; n is the number of bytes of a word
  pub digest-turn : (c out : List ℕ) (i n : ℕ) {b m : List ℕ} → n ≡ p.bytes → length c ≡ 8 → length out ≡ 8 * p.bytes
      → i < 8 → take (i * p.bytes) out ≡ digest p (take i c) → b ≡ be_bytes p.bytes (get_or c i 0)
      → m ≡ over (take (length (take (length out - i * n) (drop (i * n) out))) b) (take (length out - i * n) (drop (i * n) out))
      → (length (put_mid (i * n) (length out - i * n) out m) ≡ 8 * p.bytes)
      × (take ((i + 1) * p.bytes) (put_mid (i * n) (length out - i * n) out m) ≡ digest p (take (i + 1) c))
  digest-turn c out i n {b} {m} is long whole h e₁ e₂ e₃ =
      let v : length b ≡ p.bytes = ap length e₂ ∙ length-be_bytes p.bytes (get_or c i 0) in
      let j : i * p.bytes + p.bytes ≤ 8 * p.bytes = rw suc-mul at (mul-le-mul_right p.bytes h) in
      let k = length-take-le (i * p.bytes) out (omega arith) in
      let fits : length (take (i * p.bytes) out ++ b) ≤ length out = simp length-append (omega arith) in
      let e = over_behind_fits b out m (i * p.bytes) (length out - i * p.bytes) (omega arith) (omega arith) (rw is at e₃) in
      rw is (
        ap length e ∙ length_over (take (i * p.bytes) out ++ b) out fits ∙ whole,
        digest_more c out i (omega arith) (omega arith) e₁ e₂ e,
      )

  pub digest_all : (c out : List ℕ) (i n : ℕ) → length c ≤ i → length out ≤ n → i * p.bytes ≡ n
      → take (i * p.bytes) out ≡ digest p (take i c)
      → out ≡ digest p c
  digest_all c out i n h l z e = sym (take_all n out l) ∙ ap (λ (m : ℕ). take m out) (sym z) ∙ e
      ∙ ap (digest p) (take_all i c h)
