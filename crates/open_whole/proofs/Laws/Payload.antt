-- The payload of a ciphertext, its last piece decrypted apart from what stands before it.
--
-- In order:
--   length-aes_from, aes_from_over, aes_from-part     whole pieces, decrypted in place, and in a lent part of n bytes
--   decryption-split, length_front, length_last    AES: the decryption, cut before the last piece
--   payload_short, payload_ragged                  no ciphertext, and no whole pieces
--   payload_wrong, payload_right, length_right     by the padding of the last piece
--   previous_one, previous_two                     the piece that the last one is chained to
--   answer_wrong, answer_of                        what the check of a piece answers
--   payload_chacha, length_chacha                  ChaCha20: all of it
-- Assumes nothing.
use mathlib.Core.Path.{◌≡◌, refl, sym, ap, ap₂, ◌∙◌}
use mathlib.Core.List.{List, ◌++◌}
use Prim.Native.Nat.{ℕ, ◌+◌, ◌-◌, ◌%◌, ◌≤◌}
use native.Mathlib.Omega.{arith}
use lib.Dec.{eqb}
use lib.ListN.{length, take, drop, length-append, length-drop, take-append-drop}
use lib.Seq.{length-take-le, take-append-add, take-add, drop_at}
use borrow.Author.Tests.{eq-eqb, ne_eqb, eqb-true, eqb-false}
use Rattle.words.proofs.Laws.Cases.{by_bool}
use Rattle.refusals.specs.declared.Refusal.TheVariants.{WrongPadding}
use Rattle.ciphers.specs.declared.Cipher.TheVariants.{Aes256, ChaCha20}
use Rattle.slices.specs.Over.{over}
use Rattle.slices.proofs.Laws.Over.{over_all}
use Rattle.slices.specs.Cut.{cut}
use Rattle.cbc.specs.Sp80038a.{last_block, previous, whole_blocks}
use Rattle.cbc.proofs.Laws.Mode.{decrypt-append, previous_last, previous_size, length-decrypt}
use Rattle.fips197.specs.Fips197.{inv_cipher}
use Rattle.aes_cbc.proofs.RoundTrip.{inv_cipher-keeps}
use Rattle.stream.proofs.Laws.Apply.{length-apply}
use Rattle.chacha20.specs.Rfc8439 as rfc8439
use Rattle.pkcs7.specs.Pkcs7.{padding, strip}
use Rattle.pkcs7.specs.Answer.{answer}
use Rattle.std.specs.Prelude.{Some, None}
use Rattle.pkcs7.proofs.Laws.Padding.{padding-append, padding-le}
use Rattle.opening.specs.declared.Keys.{Keys}
use Rattle.opening.specs.Decryption.{refused, opened, aes_from, chacha_from, decryption_by, stripped, payload_by}

pub length-aes_from : (k : Keys) (v s : List ℕ) → length v ≡ 16 → length s % 16 ≡ 0 → length (aes_from k v s) ≡ length s
length-aes_from k v s l h =
    length-decrypt (λ x. inv_cipher x k.round_keys.words) (inv_cipher-keeps k.round_keys.words) v l s
    ∙ omega arith

pub aes_from_over : (k : Keys) (v s x : List ℕ) → length v ≡ 16 → length s % 16 ≡ 0
    → x ≡ over (aes_from k v s) s → x ≡ aes_from k v s
aes_from_over k v s x l h e = e ∙ over_all (aes_from k v s) s (omega (arith, length-aes_from k v s l h))

pub aes_from-part : (k : Keys) (v t d x : List ℕ) (n : ℕ) → n ≤ length d → x ≡ aes_from k v (take (length (take n d)) t)
    → x ≡ aes_from k v (take n t)
aes_from-part k v t d x n h e = e ∙ ap (λ (i : ℕ). aes_from k v (take i t)) (length-take-le n d h)

pub payload_short : (k : Keys) (t : List ℕ) → length t ≡ 0 → payload_by Aes256 k t ≡ refused WrongPadding
unfolding payload_by
payload_short k t e = rw (eq-eqb _ _ e)

pub payload_ragged : (k : Keys) (t : List ℕ) → (length t ≡ 0 → ⊥) → (length t % 16 ≡ 0 → ⊥)
    → payload_by Aes256 k t ≡ refused WrongPadding
unfolding payload_by
payload_ragged k t z e = rw (ne_eqb _ _ z, ne_eqb _ _ e)

-- c bytes in whole pieces, one at least
module _ (k : Keys) (t : List ℕ) (c : ℕ) (n : length k.nonce ≡ 16) (lt : c ≡ length t) (h : c % 16 ≡ 0)
    (l : 16 ≤ c) where
  abbrev pub front : List ℕ
  front = aes_from k k.nonce (take (c - 16) t)

  abbrev pub last : List ℕ
  last = aes_from k (previous k.nonce (take (c - 16) t)) (drop (c - 16) t)

  length-body : length (take (c - 16) t) ≡ c - 16
  length-body = length-take-le (c - 16) t (omega arith)

  decryption-split : aes_from k k.nonce t ≡ front ++ last
  decryption-split =
      let e = length-body in
      let m : length (take (c - 16) t) % 16 ≡ 0 = omega arith in
      ap (aes_from k k.nonce) (sym (take-append-drop (c - 16) t))
      ∙ decrypt-append (λ x. inv_cipher x k.round_keys.words) k.nonce (take (c - 16) t) (drop (c - 16) t) m

  pub length_front : length front ≡ c - 16
  length_front =
      let e = length-body in
      length-aes_from k k.nonce (take (c - 16) t) n (omega arith) ∙ e

  pub length_last : length last ≡ 16
  length_last =
      let v = previous k.nonce (take (c - 16) t) in
      let e : length (drop (c - 16) t) ≡ 16 = simp length-drop (omega arith) in
      length-aes_from k v (drop (c - 16) t) (previous_size k.nonce (take (c - 16) t) n) (omega arith) ∙ e

  padding_last : padding (aes_from k k.nonce t) ≡ padding last
  padding_last = ap padding decryption-split ∙ padding-append front last length_last

  pub payload_wrong : (x : List ℕ) → x ≡ last → padding x ≡ 0 → payload_by Aes256 k t ≡ refused WrongPadding
  unfolding payload_by decryption_by strip stripped
  payload_wrong x ex e =
      let z : c ≡ 0 → ⊥ = λ a. omega arith in
      let f : padding last ≡ 0 = ap padding (sym ex) ∙ e in
      rw (← lt, ne_eqb _ _ z, h, padding_last, f)

  -- the decryption without q bytes at its end
  take_split : (q : ℕ) → q ≤ 16
      → take (length (aes_from k k.nonce t) - q) (aes_from k k.nonce t) ≡ front ++ take (16 - q) last
  take_split q g =
      let a = length_last in
      let e : length front + length last - q ≡ length front + (16 - q) = omega arith in
      ap (λ (s : List ℕ). take (length s - q) s) decryption-split
      ∙ ap (λ (i : ℕ). take (i - q) (front ++ last)) (length-append front last)
      ∙ ap (λ (i : ℕ). take i (front ++ last)) e ∙ take-append-add front last (16 - q)

  -- x is the last piece decrypted
  pub payload_right : (x : List ℕ) (q : ℕ) → x ≡ last → padding x ≡ q → (q ≡ 0 → ⊥)
      → payload_by Aes256 k t ≡ opened (front ++ take (16 - q) x)
  unfolding payload_by decryption_by strip stripped
  payload_right x q ex e w =
      let z : c ≡ 0 → ⊥ = λ a. omega arith in
      let f : padding last ≡ q = ap padding (sym ex) ∙ e in
      let g : q ≤ 16 = omega (arith, padding-le last) in
      rw (← lt, ne_eqb _ _ z, h, padding_last, f, ne_eqb _ _ w, ex) (ap opened (take_split q g))

  pub length_right : (x : List ℕ) (q : ℕ) → x ≡ last → padding x ≡ q
      → length (front ++ take (16 - q) x) ≡ c - 16 + (16 - q)
  length_right x q ex e =
      let a : length x ≡ 16 = ap length ex ∙ length_last in
      let g : q ≤ 16 = omega (arith, padding-le x) in
      length-append front (take (16 - q) x) ∙ ap₂ ◌+◌ length_front (length-take-le (16 - q) x (omega arith))

pub previous_one : (v t : List ℕ) (c : ℕ) → c ≡ 16 → previous v (take (c - 16) t) ≡ v
unfolding previous whole_blocks last_block cut
previous_one v t c e = rw e

pub previous_two : (v t : List ℕ) (c : ℕ) → c ≡ length t → c % 16 ≡ 0 → 32 ≤ c
    → previous v (take (c - 16) t) ≡ take 16 (drop (c - 32) t)
previous_two v t c lt h l =
    let e : length (take (c - 16) t) ≡ c - 16 = length-take-le (c - 16) t (omega arith) in
    let m : length (take (c - 16) t) % 16 ≡ 0 = omega arith in
    let a : c - 16 - 16 ≡ c - 32 = omega arith in
    let b : c - 16 ≡ c - 32 + 16 = omega arith in
    previous_last v (take (c - 16) t) m (omega arith)
    ∙ ap (λ (i : ℕ). drop (i - 16) (take (c - 16) t)) e
    ∙ ap₂ (λ (i j : ℕ). drop i (take j t)) a b
    ∙ ap (drop (c - 32)) (take-add (c - 32) 16 t)
    ∙ drop_at (take (c - 32) t) (take 16 (drop (c - 32) t)) (c - 32)
    (length-take-le (c - 32) t (omega arith))

pub answer_wrong : (p : ℕ) → None ≡ answer p → p ≡ 0
unfolding answer
answer_wrong p e =
    by_bool (eqb p 0) (λ t. eqb-true p 0 t)
    (λ t. let a = rw t at e in let z : ◌≡◌ {A = ℕ} 0 1 = cc in absurd (omega arith))

pub answer_of : (p q : ℕ) → Some q ≡ answer p → (p ≡ q) × (q ≡ 0 → ⊥)
unfolding answer
answer_of p q e =
    by_bool (eqb p 0)
    (λ t. let a = rw t at e in let z : ◌≡◌ {A = ℕ} 0 1 = cc in absurd (omega arith))
    (λ t. let a = rw t at e in let s : p ≡ q = cc in (s, λ w. eqb-false p 0 t (s ∙ w)))

pub payload_chacha : (k : Keys) (t : List ℕ) → payload_by ChaCha20 k t ≡ opened (chacha_from k 0 t)
unfolding payload_by decryption_by
payload_chacha k t = refl

pub length_chacha : (k : Keys) (t : List ℕ) → length (chacha_from k 0 t) ≡ length t
length_chacha k t = length-apply (rfc8439.blocks k.key (take 12 k.nonce)) 0 t
