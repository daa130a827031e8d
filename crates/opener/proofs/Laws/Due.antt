-- How many bytes a block makes due, and which: the definitions of crate opening in the counts that the code computes.
--
-- In order:
--   due_count-le, due_count_rest      no more than there are, and at most sixteen stay
--   prev_is, held_is, bytes_are     AES: the first n bytes of the run are due, the rest is held
--   aes_over                        AES: the due bytes in the front of a lent slice
--   length-due                      as many bytes as the count says
--   chacha_over                     ChaCha20: the due bytes in the front of a lent slice
-- Not here: the run itself (Runs).
-- Assumes nothing.
use mathlib.Core.Path.{◌≡◌, refl, sym, ap, ap₂, ◌∙◌}
use mathlib.Core.List.{List, ◌++◌}
use Prim.Native.Nat.{ℕ, ◌+◌, ◌-◌, ◌*◌, ◌/◌, ◌≤◌}
use native.Mathlib.Omega.{arith}
use lib.ListN.{length, take, drop}
use lib.Seq.{length-take-le}
use Rattle.slices.specs.Over.{over}
use Rattle.slices.proofs.Laws.Over.{over_all}
use Rattle.fips197.specs.Fips197.{inv_cipher}
use Rattle.ciphers.specs.declared.Cipher.{Cipher}
use Rattle.ciphers.specs.declared.Cipher.TheVariants.{Aes256, ChaCha20}
use Rattle.cbc.specs.Sp80038a.{previous}
use Rattle.cbc.proofs.Laws.Mode.{length-decrypt}
use Rattle.aes_cbc.specs.Aes256Cbc.{decrypt}
use Rattle.aes_cbc.proofs.RoundTrip.{inv_cipher-keeps}
use Rattle.stream.proofs.Laws.Apply.{length-apply}
use Rattle.chacha20.specs.Rfc8439.{blocks}
use Rattle.opening.specs.declared.Keys.{Keys}
use Rattle.opening.specs.Decryption.{aes_from, chacha_from, handed}
use Rattle.opening.specs.Steps.{joined, padded, bytes_by, prev_by, held_by}
use Rattle.opener.specs.Counts.{held_count, due_count, due_by}
use Rattle.opener.proofs.Laws.Runs.{length_run}

pub held_count-le : (c : ℕ) → held_count c ≤ 16
unfolding held_count handed
held_count-le c = omega arith

pub due_count-le : (n : ℕ) → due_count n ≤ n
unfolding due_count
due_count-le n = omega arith

pub due_count_rest : (n : ℕ) → n ≤ due_count n + 16
unfolding due_count
due_count_rest n = omega arith

due_count_whole : (n : ℕ) → 16 * (due_count n / 16) ≡ due_count n
unfolding due_count
due_count_whole n = omega arith

-- h bytes of x are held, n are due
module _ (c h n : ℕ) (x d : List ℕ) (eh : h ≡ held_count c) (lx : length x ≡ 16) (en : n ≡ due_count (h + length d)) where
  held-le : h ≤ length x
  held-le = omega (arith, held_count-le c)

  run_is : joined c x d ≡ take h x ++ d
  unfolding joined held_count
  run_is = ap (λ (j : ℕ). take j x ++ d) (sym eh)

  due_is : 16 * ((length (joined c x d) - 1) / 16) ≡ n
  unfolding due_count
  due_is = ap (λ (j : ℕ). 16 * ((j - 1) / 16)) (ap length run_is ∙ length_run x d h held-le) ∙ sym en

  first_are : take (16 * ((length (joined c x d) - 1) / 16)) (joined c x d) ≡ take n (take h x ++ d)
  first_are = ap₂ take due_is run_is

  pub prev_is : (v : List ℕ) → prev_by Aes256 c v x d ≡ previous v (take n (take h x ++ d))
  unfolding prev_by
  prev_is v = ap (previous v) first_are

  pub held_is : held_by Aes256 c x d ≡ padded (drop n (take h x ++ d))
  unfolding held_by
  held_is = ap padded (ap₂ drop due_is run_is)

  pub bytes_are : (k : Keys) (v : List ℕ) → bytes_by Aes256 k c v x d ≡ aes_from k v (take n (take h x ++ d))
  unfolding bytes_by
  bytes_are k v = ap (aes_from k v) first_are

  length_first : length (take n (take h x ++ d)) ≡ n
  length_first =
      length-take-le n (take h x ++ d) (omega (arith, length_run x d h held-le, due_count-le (h + length d)))

  pub length_aes : (k : Keys) (v : List ℕ) → length v ≡ 16 → length (aes_from k v (take n (take h x ++ d))) ≡ n
  length_aes k v lv =
      length-decrypt (λ y. inv_cipher y k.round_keys.words) (inv_cipher-keeps k.round_keys.words) v lv
      (take n (take h x ++ d))
      ∙ ap (λ (j : ℕ). 16 * (j / 16)) (length_first ∙ en) ∙ due_count_whole (h + length d) ∙ sym en

  -- the front of `out`, m bytes, was filled and decrypted
  pub aes_over : (k : Keys) (v out ys : List ℕ) (m : ℕ) → length v ≡ 16 → m ≡ n
      → ys ≡ over (decrypt k.round_keys.words v (take m (take h x ++ d))) (take m (take h x ++ d))
      → ys ++ drop n out ≡ over (bytes_by Aes256 k c v x d) out
  unfolding over
  aes_over k v out ys m lv em ey =
      let t = take n (take h x ++ d) in
      let b = aes_from k v t in
      let lb : length b ≡ n = length_aes k v lv in
      let e : ys ≡ over b t = ey ∙ ap (λ (j : ℕ). let t = take j (take h x ++ d) in over (aes_from k v t) t) em in
      let f : ys ≡ b = e ∙ over_all b t (omega (arith, length_first)) in
      ap₂ (λ (z : List ℕ) (j : ℕ). z ++ drop j out) f (sym lb) ∙ ap (λ (z : List ℕ). over z out) (sym (bytes_are k v))

-- as many bytes as the count says
pub length-due : (y : Cipher) (k : Keys) (c : ℕ) (v x d : List ℕ) → length v ≡ 16 → length x ≡ 16
    → length (bytes_by y k c v x d) ≡ due_by y c (length d)
unfolding bytes_by due_by
length-due Aes256 k c v x d lv lx =
    let n = due_count (held_count c + length d) in
    ap length (bytes_are c (held_count c) n x d refl lx refl k v) ∙ length_aes c (held_count c) n x d refl lx refl k v lv
length-due ChaCha20 k c v x d lv lx = length-apply (blocks k.key (take 12 k.nonce)) c d

-- the front of `out`, as long as the data, was filled with it and the stream applied
pub chacha_over : (k : Keys) (c : ℕ) (d out ys : List ℕ) → ys ≡ chacha_from k c d
    → ys ++ drop (length d) out ≡ over (chacha_from k c d) out
unfolding over
chacha_over k c d out ys e =
    ap₂ (λ (z : List ℕ) (j : ℕ). z ++ drop j out) e (sym (length-apply (blocks k.key (take 12 k.nonce)) c d))
