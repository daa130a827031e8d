-- How long the parts of a header are, and how code lays them one behind the other.
--
-- In order:
--   length-version_bytes, length-front_of
--   front_laid, end_none, end_custom, dictionary-part, header-laid    how code lays them
--   length-header_bytes                               98 bytes, the nonce, the KDF dictionary, and the custom field
-- Assumes nothing.
use mathlib.Core.Path.{◌≡◌, refl, sym, ap, ◌∙◌}
use mathlib.Core.Bool.{cond}
use mathlib.Core.List.{List, ◌++◌, append_assoc}
use Prim.Native.Nat.{ℕ, ◌+◌, ◌≤◌}
use native.Mathlib.Omega.{arith}
use lib.Dec.{eqb, leb}
use lib.ListN.{length, take, drop, replicate, length-append}
use borrow.Author.Tests.{eq-eqb, ne_eqb, leb-true, leb-false}
use Rattle.words.proofs.Laws.Cases.{by_bool}
use Rattle.words.specs.Endian.{le_bytes}
use Rattle.slices.specs.Over.{laid, put_at}
use Rattle.slices.proofs.Laws.Over.{over_fits, take_over}
use Rattle.slices.proofs.Laws.Put.{laid_first, laid_more, put_at_past, put_at-put_at}
use Rattle.fields.specs.Fields.{field_bytes}
use Rattle.fields.proofs.Laws.Written.{length-field_bytes}
use Rattle.ciphers.specs.Ciphers.{identifier, nonce_length}
use Rattle.ciphers.specs.declared.Cipher.{Cipher}
use Rattle.ciphers.proofs.Laws.{length-identifier}
use Rattle.kdf_dictionary.specs.Kdf.{kdf_bytes, kdf_length}
use Rattle.kdf_dictionary.specs.declared.writer.Figures.{Figures}
use Rattle.kdf_dictionary.proofs.Laws.Layout.{length-kdf_bytes, kdf_length-le}
use Rattle.header_writer.specs.Written.{
  version_bytes,
  end_bytes,
  no_compression,
  custom_field,
  end_of,
  front_of,
  header_bytes,
  header_length,
}

pub length-version_bytes : (minor : ℕ) → length (version_bytes minor) ≡ 12
unfolding version_bytes le_bytes
length-version_bytes minor = refl

module _ (minor : ℕ) (c : Cipher) (seed : List ℕ) (seed_is : length seed ≡ 32) where
  length_two : length (version_bytes minor ++ field_bytes 2 (identifier c)) ≡ 33
  length_two =
      simp (length-append, length-field_bytes, length-version_bytes, length-identifier) (omega arith)

  length_three : length (version_bytes minor ++ field_bytes 2 (identifier c) ++ field_bytes 3 no_compression) ≡ 42
  length_three =
      simp (length-append, length-field_bytes, length-version_bytes, length-identifier) (omega arith)

  pub length-front_of : length (front_of minor c seed) ≡ 79
  length-front_of =
      simp (length-append, length-field_bytes, length-version_bytes, length-identifier, seed_is) (omega arith)

  -- the parts of the front, as code lays them
  pub front_laid : (d x₁ x₂ x₃ x₄ v i z : List ℕ) → v ≡ version_bytes minor → i ≡ identifier c → z ≡ no_compression
      → x₁ ≡ put_at 0 v d → x₂ ≡ put_at 12 (field_bytes 2 i) x₁ → x₃ ≡ put_at 33 (field_bytes 3 z) x₂
      → x₄ ≡ put_at 42 (field_bytes 4 seed) x₃
      → x₄ ≡ laid (front_of minor c seed) d
  front_laid d x₁ x₂ x₃ x₄ v i z ev ei ez e₁ e₂ e₃ e₄ =
      let l₁ : x₁ ≡ laid (version_bytes minor) d =
      laid_first v d x₁ e₁ ∙ ap (λ (w : List ℕ). laid w d) ev in
      let l₂ : x₂ ≡ laid (version_bytes minor ++ field_bytes 2 (identifier c)) d =
      laid_more (version_bytes minor) (field_bytes 2 (identifier c)) d x₁ x₂ 12 (length-version_bytes minor) l₁
      (rw (← ei) e₂) in
      let l₃ = laid_more (version_bytes minor ++ field_bytes 2 (identifier c)) (field_bytes 3 no_compression) d x₂ x₃ 33
      length_two l₂ (rw (← ez) e₃) in
      laid_more (version_bytes minor ++ field_bytes 2 (identifier c) ++ field_bytes 3 no_compression)
      (field_bytes 4 seed) d x₃ x₄ 42 length_three l₃ e₄

-- an end without a custom dictionary, and one with it
pub end_none : (custom end d y : List ℕ) (at : ℕ) → length custom ≡ 0 → end ≡ end_bytes
    → y ≡ put_at at (field_bytes 0 end) d
    → y ≡ put_at at (end_of custom) d
unfolding custom_field
end_none custom end d y at e f g = rw (eq-eqb (length custom) 0 e, ← f) g

end_room : (custom d x y : List ℕ) (at : ℕ) → at ≤ length d → x ≡ put_at at (field_bytes 12 custom) d
    → y ≡ put_at (at + 5 + length custom) (field_bytes 0 end_bytes) x
    → y ≡ put_at at (field_bytes 12 custom ++ field_bytes 0 end_bytes) d
end_room custom d x y at h f g =
    let n : at + 5 + length custom ≡ at + (5 + length custom) = omega arith in
    rw (n, f) at g
    ∙ put_at-put_at (field_bytes 12 custom) (field_bytes 0 end_bytes) d at (5 + length custom)
    (length-field_bytes 12 custom) h

end_past : (custom d x y : List ℕ) (at : ℕ) → length d ≤ at → x ≡ put_at at (field_bytes 12 custom) d
    → y ≡ put_at (at + 5 + length custom) (field_bytes 0 end_bytes) x
    → y ≡ put_at at (field_bytes 12 custom ++ field_bytes 0 end_bytes) d
end_past custom d x y at h f g =
    let e : x ≡ d = f ∙ put_at_past at (field_bytes 12 custom) d h in
    let l : length x ≤ at + 5 + length custom = rw e (omega arith) in
    g ∙ put_at_past (at + 5 + length custom) (field_bytes 0 end_bytes) x l ∙ e
    ∙ sym (put_at_past at (field_bytes 12 custom ++ field_bytes 0 end_bytes) d h)

pub end_custom : (custom end d x y : List ℕ) (at : ℕ) → (length custom ≡ 0 → ⊥) → end ≡ end_bytes
    → x ≡ put_at at (field_bytes 12 custom) d → y ≡ put_at (at + 5 + length custom) (field_bytes 0 end) x
    → y ≡ put_at at (end_of custom) d
unfolding custom_field
end_custom custom end d x y at e f g h =
    rw (ne_eqb (length custom) 0 e)
    (by_bool (leb at (length d))
    (λ t. end_room custom d x y at (leb-true at (length d) t) g (rw (← f) h))
    (λ t. let l = leb-false at (length d) t in end_past custom d x y at (omega arith) g (rw (← f) h)))

length_both : (a b : List ℕ) (m n k : ℕ) → length a ≡ m → length b ≡ n → m + n ≡ k → length (a ++ b) ≡ k
length_both a b m n k e f g = rw (length-append, e, f) g

-- the KDF dictionary, laid into room for the longest one
pub dictionary-part : (fig : Figures) (salt x y : List ℕ) (n : ℕ) → n ≡ kdf_length fig (length (take 64 salt))
    → x ≡ laid (kdf_bytes fig (take 64 salt)) (replicate 171 0) → y ≡ take n (drop 0 x)
    → y ≡ kdf_bytes fig (take 64 salt)
dictionary-part fig salt x y n e f g =
    let w = kdf_bytes fig (take 64 salt) in
    let l : length w ≡ n = length-kdf_bytes fig (take 64 salt) ∙ sym e in
    let m : length w ≤ 171 = rw (l, e) (kdf_length-le fig salt) in
    g ∙ ap (λ (z : List ℕ). take n z) (f ∙ over_fits w (replicate 171 0) m) ∙ take_over w (replicate 171 0) n l

-- the whole, as code lays it
pub header-laid : (minor : ℕ) (c : Cipher) (seed nonce : List ℕ) (fig : Figures)
    (salt custom d x₁ x₂ x₃ x₄ n k : List ℕ) (kl : ℕ)
    → length seed ≡ 32 → kl ≡ kdf_length fig (length salt) → n ≡ nonce → k ≡ kdf_bytes fig salt
    → x₁ ≡ laid (front_of minor c seed) d → x₂ ≡ put_at 79 (field_bytes 7 n) x₁
    → x₃ ≡ put_at (84 + length n) (field_bytes 11 k) x₂
    → x₄ ≡ put_at (84 + length n + 5 + kl) (end_of custom) x₃
    → x₄ ≡ laid (header_bytes minor c seed nonce fig salt custom) d
unfolding header_bytes
header-laid minor c seed nonce fig salt custom d x₁ x₂ x₃ x₄ n k kl hs hk en ek e₁ e₂ e₃ e₄ =
    let f = front_of minor c seed in
    let g = field_bytes 7 nonce in
    let h = field_bytes 11 (kdf_bytes fig salt) in
    let m : length n ≡ length nonce = ap length en in
    let lf : length f ≡ 79 = length-front_of minor c seed hs in
    let lg : length (f ++ g) ≡ 84 + length n = length_both f g 79 (5 + length nonce) (84 + length n) lf
    (length-field_bytes 7 nonce) (omega arith) in
    let lk : length (kdf_bytes fig salt) ≡ kl = length-kdf_bytes fig salt ∙ sym hk in
    let lh : length (f ++ g ++ h) ≡ 84 + length n + 5 + kl =
    length_both (f ++ g) h (84 + length n) (5 + kl) (84 + length n + 5 + kl) lg
    (length-field_bytes 11 (kdf_bytes fig salt) ∙ ap (λ (m : ℕ). 5 + m) lk) (omega arith) in
    let l₂ = laid_more f g d x₁ x₂ 79 lf e₁ (rw (← en) e₂) in
    let l₃ = laid_more (f ++ g) h d x₂ x₃ (84 + length n) lg l₂ (rw (← ek) e₃) in
    let l₄ = laid_more (f ++ g ++ h) (end_of custom) d x₃ x₄ (84 + length n + 5 + kl) lh l₃ e₄ in
    rw append_assoc l₄

length-custom_field : (custom : List ℕ)
    → length (custom_field custom) ≡ cond (eqb (length custom) 0) 0 (5 + length custom)
unfolding custom_field
length-custom_field custom =
    by_bool (eqb (length custom) 0) (λ t. rw t) (λ t. rw t (length-field_bytes 12 custom))

pub length-header_bytes : (minor : ℕ) (c : Cipher) (seed nonce : List ℕ) (fig : Figures) (salt custom : List ℕ)
    → length seed ≡ 32 → length nonce ≡ nonce_length c
    → length (header_bytes minor c seed nonce fig salt custom) ≡ header_length c fig (length salt) (length custom)
unfolding header_bytes header_length
length-header_bytes minor c seed nonce fig salt custom hs hn =
    let lf : length (front_of minor c seed) ≡ 79 = length-front_of minor c seed hs in
    let lk = length-kdf_bytes fig salt in
    rw (
      length-append,
      length-append,
      length-append,
      length-append,
      lf,
      length-field_bytes,
      length-field_bytes,
      length-field_bytes,
      length-custom_field,
      lk,
      hn,
    ) (omega arith)
