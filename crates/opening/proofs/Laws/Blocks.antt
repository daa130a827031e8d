-- One step of the code's ciphers, from a state that stands for a ciphertext t.
--
-- In order:
--   joined-held                               the held bytes and a block's data are the ciphertext not decrypted yet
--   bytes_by-standing                          the bytes of a step are those due
--   prev_by-standing, held_by-standing          the state behind a block stands for the ciphertext with it
--   last_by-standing                           the closing block adds the payload without what was handed over
--   first_prev-standing, first_held_standing    the first state stands for no ciphertext
-- Not here: the state as a whole (Standing).
-- Assumes nothing.
use mathlib.Core.Path.{◌≡◌, refl, sym, ap, ◌∙◌}
use mathlib.Core.List.{List, [], ◌++◌, append-nil}
use Prim.Native.Nat.{ℕ, ◌+◌, ◌-◌, ◌*◌, ◌/◌, ◌%◌, ◌≤◌}
use native.Mathlib.Nat.{zero-add}
use native.Mathlib.Omega.{arith}
use borrow.Author.Tests.{eqb-true, eqb-false}
use lib.Dec.{eqb}
use lib.ListN.{length, take, drop, replicate, length-append, length-drop, take-append-drop, drop_of_length-le}
use lib.Seq.{take_at, drop_at, take_all, take-add, take-append-le, drop-drop, drop-append-le, length-take-le}
use Rattle.words.proofs.Laws.Cases.{by_bool}
use Rattle.slices.specs.Cut.{cut}
use Rattle.cbc.specs.Sp80038a.{last_block, whole_blocks, previous}
use Rattle.cbc.proofs.Laws.Mode.{previous_append, previous_size}
use Rattle.pkcs7.specs.Pkcs7.{strip}
use Rattle.ciphers.specs.declared.Cipher.{Cipher}
use Rattle.ciphers.specs.declared.Cipher.TheVariants.{Aes256, ChaCha20}
use Rattle.opening.specs.declared.Keys.{Keys}
use Rattle.opening.specs.Decryption.{aes_from, chacha_from, decryption_by, handed, stripped, payload_by}
use Rattle.opening.specs.Steps.{zeros, padded, first_prev, joined, due_of, bytes_by, prev_by, held_by, last_by}
use Rattle.opening.specs.Standing.{prev_of, held_of}
use Rattle.opening.proofs.Laws.Pieces.{
  length-aes_from,
  take-aes_from,
  aes_from-append,
  length-chacha_from,
  chacha_from-append,
}
use Rattle.opening.proofs.Laws.Strip.{dropped, stripped-append}
use Rattle.opening.proofs.Laws.Given.{handed-le}

-- the whole pieces that are due for c bytes
abbrev pieces : ℕ → ℕ
pieces c = (c - 1) / 16

joined-held : (t d : List ℕ) → joined (length t) (held_of Aes256 t) d ≡ drop (handed Aes256 (length t)) (t ++ d)
unfolding joined held_of padded
joined-held t d =
    let n : ℕ = handed Aes256 (length t) in
    let e = length-drop n t in
    ap (λ (x : List ℕ). x ++ d) (take_at (drop n t) (replicate (16 - length (drop n t)) 0) (length t - n) e)
    ∙ sym (drop-append-le n t d (handed-le Aes256 (length t)))

-- the pieces that were due and those that become due
pieces-add : (t d : List ℕ)
    → 16 * pieces (length t) + 16 * pieces (length (drop (16 * pieces (length t)) (t ++ d)))
    ≡ 16 * pieces (length (t ++ d))
pieces-add t d = rw (length-drop, length-append) (omega arith)

-- a front of whole pieces
length_front : (t : List ℕ) → length (take (16 * pieces (length t)) t) ≡ 16 * pieces (length t)
length_front t = length-take-le (16 * pieces (length t)) t (omega arith)

front_whole : (t : List ℕ) → length (take (16 * pieces (length t)) t) % 16 ≡ 0
front_whole t = let e = length_front t in omega arith

-- the front grows by the pieces that become due
front_append : (t d : List ℕ)
    → take (16 * pieces (length (t ++ d))) (t ++ d)
    ≡ take (16 * pieces (length t)) t ++ due_of (drop (16 * pieces (length t)) (t ++ d))
front_append t d =
    let n : ℕ = 16 * pieces (length t) in
    let m : ℕ = 16 * pieces (length (drop n (t ++ d))) in
    let l : 16 * pieces (length t) ≤ length t = omega arith in
    ap (λ (x : ℕ). take x (t ++ d)) (sym (pieces-add t d)) ∙ take-add n m (t ++ d)
    ∙ ap (λ (x : List ℕ). x ++ take m (drop n (t ++ d))) (take-append-le n t d l)

-- of AES-256, the pieces that become due
bytes_aes : (k : Keys) → length k.nonce ≡ 16 → (t d : List ℕ)
    → aes_from k (previous k.nonce (take (16 * pieces (length t)) t)) (due_of (drop (16 * pieces (length t)) (t ++ d)))
    ≡ drop (16 * pieces (length t)) (take (16 * pieces (length (t ++ d))) (aes_from k k.nonce (t ++ d)))
bytes_aes k w t d =
    let v : List ℕ = k.nonce in
    let front : List ℕ = take (16 * pieces (length t)) t in
    let l : 16 * pieces (length (t ++ d)) ≤ length (t ++ d) = omega arith in
    let f = length_front t in
    let n : length (aes_from k v front) ≡ 16 * pieces (length t) = length-aes_from k v w front ∙ (omega arith) in
    sym (
    ap (drop (16 * pieces (length t)))
    (take-aes_from k v w (t ++ d) (16 * pieces (length (t ++ d))) (omega arith) l ∙ ap (aes_from k v) (front_append t d)
    ∙ aes_from-append k v front (due_of (drop (16 * pieces (length t)) (t ++ d))) (front_whole t))
    ∙ drop_at (aes_from k v front) _ (16 * pieces (length t)) n
    )

pub bytes_by-standing : (z : Cipher) (k : Keys) → length k.nonce ≡ 16 → (t d : List ℕ)
    → bytes_by z k (length t) (prev_of z k.nonce t) (held_of z t) d
    ≡ drop (handed z (length t)) (take (handed z (length (t ++ d))) (decryption_by z k (t ++ d)))
unfolding bytes_by prev_of decryption_by handed
bytes_by-standing Aes256 k w t d = rw (joined-held t d) (bytes_aes k w t d)
bytes_by-standing ChaCha20 k w t d =
    let e = length-chacha_from k 0 t in
    let g = length-chacha_from k (0 + length t) d in
    let l : length (chacha_from k 0 t ++ chacha_from k (0 + length t) d) ≤ length (t ++ d) =
    simp length-append (omega arith) in
    rw (
      chacha_from-append k 0 t d,
      take_all (length (t ++ d)) (chacha_from k 0 t ++ chacha_from k (0 + length t) d) l,
      drop_at (chacha_from k 0 t) (chacha_from k (0 + length t) d) (length t) e,
      zero-add,
    )

pub prev_by-standing : (z : Cipher) (v t d : List ℕ)
    → prev_by z (length t) (prev_of z v t) (held_of z t) d ≡ prev_of z v (t ++ d)
unfolding prev_by prev_of handed
prev_by-standing Aes256 v t d =
    rw (joined-held t d, front_append t d)
    (let due : List ℕ = due_of (drop (16 * pieces (length t)) (t ++ d)) in
    sym (previous_append v (take (16 * pieces (length t)) t) due (front_whole t)))
prev_by-standing ChaCha20 v t d = refl

pub held_by-standing : (z : Cipher) (t d : List ℕ) → held_by z (length t) (held_of z t) d ≡ held_of z (t ++ d)
unfolding held_by held_of handed
held_by-standing Aes256 t d = rw (joined-held t d, drop-drop, pieces-add t d)
held_by-standing ChaCha20 t d = refl

-- sixteen bytes fill their array
padded_full : (l : List ℕ) → length l ≡ 16 → padded l ≡ l
unfolding padded
padded_full l h = rw (h, append-nil)

-- of a ciphertext of whole pieces, the last one
last_aes : (k : Keys) → length k.nonce ≡ 16 → (t : List ℕ) → (length t ≡ 0 → ⊥) → length t % 16 ≡ 0
    → stripped (strip (aes_from k (prev_of Aes256 k.nonce t) (held_of Aes256 t)))
    ≡ dropped (handed Aes256 (length t)) (stripped (strip (decryption_by Aes256 k t)))
unfolding prev_of held_of decryption_by handed
last_aes k w t n m =
    let v : List ℕ = k.nonce in
    let front : List ℕ = take (16 * pieces (length t)) t in
    let last : List ℕ = drop (16 * pieces (length t)) t in
    let l : length (drop (16 * pieces (length t)) t) ≡ 16 = simp length-drop (omega arith) in
    let f = length_front t in
    let a : length (aes_from k v front) ≡ 16 * pieces (length t) = length-aes_from k v w front ∙ (omega arith) in
    let b : length (aes_from k (previous v front) last) ≡ 16 =
    length-aes_from k (previous v front) (previous_size v front w) last ∙ (omega arith) in
    let e : aes_from k v t ≡ aes_from k v front ++ aes_from k (previous v front) last =
    ap (aes_from k v) (sym (take-append-drop (16 * pieces (length t)) t))
    ∙ aes_from-append k v front last (front_whole t) in
    rw (padded_full last l, e)
    (sym (stripped-append (aes_from k v front) (aes_from k (previous v front) last) (16 * pieces (length t)) a b))

pub last_by-standing : (z : Cipher) (k : Keys) → length k.nonce ≡ 16 → (t : List ℕ)
    → last_by z k (length t) (prev_of z k.nonce t) (held_of z t) ≡ dropped (handed z (length t)) (payload_by z k t)
unfolding last_by payload_by dropped handed decryption_by
last_by-standing Aes256 k w t =
    by_bool (eqb (length t) 0) (λ a. rw a)
    (λ a.
    by_bool (eqb (length t % 16) 0)
    (λ b. rw (a, b) (last_aes k w t (eqb-false (length t) 0 a) (eqb-true (length t % 16) 0 b)))
    (λ b. rw (a, b)))
last_by-standing ChaCha20 k w t =
    let l : length (chacha_from k 0 t) ≤ length t = omega (arith, length-chacha_from k 0 t) in
    rw (drop_of_length-le (chacha_from k 0 t) l)

pub first_prev-standing : (z : Cipher) (v : List ℕ) → first_prev z v ≡ prev_of z v []
unfolding first_prev prev_of handed previous whole_blocks cut last_block
first_prev-standing Aes256 v = refl
first_prev-standing ChaCha20 v = refl

pub first_held_standing : (z : Cipher) → zeros ≡ held_of z []
unfolding held_of padded handed
first_held_standing Aes256 = refl
first_held_standing ChaCha20 = refl
