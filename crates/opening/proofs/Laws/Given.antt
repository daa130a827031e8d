-- What a ciphertext has handed over, what a block adds to it, and what the closing block adds.
--
-- In order:
--   handed-le                  no more than the ciphertext has
--   handed_largest             for AES the largest multiple of 16 below it; handed_none, none of none
--   given_due                  what was handed over and what is due are what is handed over then
--   length_given, length-due   as many bytes as said
--   given_nil                  nothing of nothing
--   length-due-le              a step over n bytes hands over at most n + 15
--   payload_remainder          the payload is what was handed over and at most fifteen bytes more
-- Not here: the code's bytes (Blocks).
-- Assumes nothing.
use mathlib.Core.Path.{◌≡◌, refl, sym, ap, ◌∙◌}
use mathlib.Core.List.{List, [], ◌++◌}
use Prim.Native.Nat.{ℕ, ◌+◌, ◌-◌, ◌%◌, ◌≤◌, ◌<◌}
use native.Mathlib.Omega.{arith}
use borrow.Author.Tests.{eqb-true, eqb-false}
use lib.Dec.{eqb}
use lib.ListN.{length, take, drop, length-append, length-take, length-drop, take-append-drop}
use lib.Seq.{take-take, take-append-le, length-take-le}
use Rattle.words.proofs.Laws.Cases.{by_bool}
use Rattle.pkcs7.specs.Pkcs7.{strip}
use Rattle.ciphers.specs.declared.Cipher.{Cipher}
use Rattle.ciphers.specs.declared.Cipher.TheVariants.{Aes256, ChaCha20}
use Rattle.opening.specs.declared.Keys.{Keys}
use Rattle.opening.specs.Decryption.{
  opened,
  aes_from,
  chacha_from,
  decryption_by,
  decryption,
  handed,
  LargestBelow,
  given,
  stripped,
  payload_by,
}
use Rattle.opening.specs.Plain.{due}
use Rattle.opening.proofs.Laws.Replies.{never}
use Rattle.opening.proofs.Laws.Pieces.{length-aes_from, take-aes_from, length-chacha_from, chacha_from-append}
use Rattle.opening.proofs.Laws.Strip.{Remainder, stripped-opened}

pub handed-le : (z : Cipher) (c : ℕ) → handed z c ≤ c
unfolding handed
handed-le Aes256 c = omega arith
handed-le ChaCha20 c = omega arith

pub handed_largest : (c : ℕ) → 0 < c → LargestBelow c (handed Aes256 c)
unfolding handed
handed_largest c h = record { multiple = omega arith; below = omega arith; largest = λ m e l. omega arith }

pub handed_none : (z : Cipher) → handed z 0 ≡ 0
unfolding handed
handed_none Aes256 = refl
handed_none ChaCha20 = refl

handed_whole : (c : ℕ) → handed Aes256 c % 16 ≡ 0
unfolding handed
handed_whole c = omega arith

handed-add-le : (z : Cipher) (c n : ℕ) → handed z c ≤ handed z (c + n)
unfolding handed
handed-add-le Aes256 c n = omega arith
handed-add-le ChaCha20 c n = omega arith

handed_add_short : (z : Cipher) (c n : ℕ) → handed z (c + n) ≤ handed z c + (n + 15)
unfolding handed
handed_add_short Aes256 c n = omega arith
handed_add_short ChaCha20 c n = omega arith

-- the first bytes of a decryption stay, whatever ciphertext follows
take-decryption_by : (z : Cipher) (k : Keys) → length k.nonce ≡ 16 → (t d : List ℕ)
    → take (handed z (length t)) (decryption_by z k (t ++ d)) ≡ take (handed z (length t)) (decryption_by z k t)
unfolding decryption_by handed
take-decryption_by Aes256 k w t d =
    let n : ℕ = handed Aes256 (length t) in
    let z : n % 16 ≡ 0 = handed_whole (length t) in
    let a : n ≤ length t = handed-le Aes256 (length t) in
    let b : n ≤ length (t ++ d) = simp length-append (omega (arith, a)) in
    take-aes_from k k.nonce w (t ++ d) n z b ∙ ap (aes_from k k.nonce) (take-append-le n t d a)
    ∙ sym (take-aes_from k k.nonce w t n z a)
take-decryption_by ChaCha20 k w t d =
    let e = length-chacha_from k 0 t in
    ap (take (length t)) (chacha_from-append k 0 t d)
    ∙ take-append-le (length t) (chacha_from k 0 t) (chacha_from k (0 + length t) d) (omega arith)

pub given_due : (k : Keys) → length k.nonce ≡ 16 → (t d : List ℕ) → given k t ++ due k t d ≡ given k (t ++ d)
unfolding given due
given_due k w t d =
    let z : Cipher = k.cipher in
    let x : List ℕ = take (handed z (length (t ++ d))) (decryption_by z k (t ++ d)) in
    let h : handed z (length t) ≤ handed z (length (t ++ d)) =
    rw length-append (handed-add-le z (length t) (length d)) in
    let e : take (handed z (length t)) x ≡ take (handed z (length t)) (decryption_by z k t) =
    take-take (handed z (length t)) (handed z (length (t ++ d))) (decryption_by z k (t ++ d)) h
    ∙ take-decryption_by z k w t d in
    ap (λ (l : List ℕ). l ++ drop (handed z (length t)) x) (sym e) ∙ take-append-drop (handed z (length t)) x

handed-le-decryption : (z : Cipher) (k : Keys) → length k.nonce ≡ 16 → (t : List ℕ)
    → handed z (length t) ≤ length (decryption_by z k t)
unfolding decryption_by handed
handed-le-decryption Aes256 k w t = omega (arith, length-aes_from k k.nonce w t)
handed-le-decryption ChaCha20 k w t = omega (arith, length-chacha_from k 0 t)

pub length_given : (k : Keys) → length k.nonce ≡ 16 → (t : List ℕ)
    → length (given k t) ≡ handed k.cipher (length t)
unfolding given
length_given k w t =
    length-take-le (handed k.cipher (length t)) (decryption k t) (handed-le-decryption k.cipher k w t)

pub length-due : (k : Keys) → length k.nonce ≡ 16 → (t d : List ℕ)
    → length (due k t d) ≡ handed k.cipher (length t + length d) - handed k.cipher (length t)
unfolding due
length-due k w t d = rw (length-drop, length_given k w (t ++ d), length-append)

handed-nil : (z : Cipher) (x : List ℕ) → [] ≡ take (handed z 0) x
unfolding handed
handed-nil Aes256 x = refl
handed-nil ChaCha20 x = refl

pub given_nil : (k : Keys) → [] ≡ given k []
unfolding given
given_nil k = handed-nil k.cipher (decryption k [])

pub length-due-le : (k : Keys) (t d : List ℕ) → length (due k t d) ≤ length d + 15
unfolding given due
length-due-le k t d =
    rw (length-drop, length-take, length-append) (omega (arith, handed_add_short k.cipher (length t) (length d)))

remainder_aes : (k : Keys) → length k.nonce ≡ 16 → (t b : List ℕ) → (length t ≡ 0 → ⊥) → length t % 16 ≡ 0
    → stripped (strip (decryption_by Aes256 k t)) ≡ opened b
    → Remainder (handed Aes256 (length t)) (decryption_by Aes256 k t) b
unfolding handed decryption_by
remainder_aes k w t b n m h =
    let e : handed Aes256 (length t) + 16 ≡ length (aes_from k k.nonce t) =
    omega (arith, length-aes_from k k.nonce w t) in
    stripped-opened (handed Aes256 (length t)) (aes_from k k.nonce t) b e h

remainder_chacha : (k : Keys) (t b : List ℕ) → decryption_by ChaCha20 k t ≡ b
    → Remainder (handed ChaCha20 (length t)) (decryption_by ChaCha20 k t) b
unfolding handed decryption_by
remainder_chacha k t b e =
    let l : length b ≡ length t = ap length (sym e) ∙ length-chacha_from k 0 t in
    record { joins = rw e (take-append-drop (length t) b); short = simp length-drop (omega arith) }

pub payload_remainder : (z : Cipher) (k : Keys) → length k.nonce ≡ 16 → (t b : List ℕ) → payload_by z k t ≡ opened b
    → Remainder (handed z (length t)) (decryption_by z k t) b
unfolding payload_by
payload_remainder Aes256 k w t b h =
    by_bool (eqb (length t) 0) (λ x. let e = rw x at h in never (cc e))
    (λ x.
    by_bool (eqb (length t % 16) 0)
    (λ y. remainder_aes k w t b (eqb-false (length t) 0 x) (eqb-true (length t % 16) 0 y) (rw (x, y) at h))
    (λ y. let e = rw (x, y) at h in never (cc e)))
payload_remainder ChaCha20 k w t b h = remainder_chacha k t b (cc)
