-- What figures that may be written keep to.
--
-- In order: IsChecked, checked_as, and the other way round as_checked.
-- Assumes nothing.
use mathlib.Core.Path.{◌≡◌, refl, ap, ◌∙◌}
use mathlib.Core.Bool.{Bool, true, false, cond}
use mathlib.Core.List.{List}
use Prim.Native.Nat.{ℕ, ◌≤◌}
use native.Mathlib.Omega.{arith}
use lib.ListN.{length}
use borrow.Author.Tests.{leb-true, eqb-true, le-leb, eq-eqb}
use Rattle.refusals.specs.declared.Refusal.{Refusal}
use Rattle.refusals.specs.Numbers.{Outcome}
use Rattle.refusals.specs.Limits.{rounds_least, rounds_limit}
use Rattle.ciphers.specs.Ciphers.{cipher_of, nonce_length}
use Rattle.ciphers.specs.declared.Cipher.{Cipher}
use Rattle.std.specs.Prelude.{Option, Some, None, Result, Ok, Err}
use Rattle.kdf_dictionary.specs.Kdf.{IsWritable}
use Rattle.kdf_dictionary.specs.declared.writer.Figures.{Figures}
use Rattle.kdf_dictionary.specs.declared.writer.Figures.TheVariants as figures
use Rattle.header_writer.specs.Written.{custom_verdict, checked_custom, salt_sized, checked_figures, checked_sizes, checked_cipher, checked}

refused_never : (r : Refusal) (c : Cipher) → Err r ≡ Ok c → ⊥
refused_never r c e = let z : ◌≡◌ {A = ℕ} 0 1 = cc in omega arith

-- the checks, passed
pub record IsChecked (minor : ℕ) (id seed nonce : List ℕ) (fig : Figures) (salt custom : List ℕ) (c : Cipher)
    : Type 0 where
  pub minor_le : minor ≤ 1
  pub cipher_is : cipher_of id ≡ Some c
  pub seed_long : length seed ≡ 32
  pub nonce_long : length nonce ≡ nonce_length c
  pub writable : IsWritable fig (length salt)
  pub custom_sound : custom_verdict custom ≡ Ok tt

-- a test before a check
cond_as : (b : Bool) (x : Result Cipher Refusal) (r : Refusal) (c : Cipher) → cond b x (Err r) ≡ Ok c → (b ≡ true) × (x ≡ Ok c)
cond_as true x r c e = (refl, e)
cond_as false x r c e = absurd (refused_never r c e)

checked_custom_as : (c d : Cipher) (o : Outcome) → checked_custom d o ≡ Ok c → (d ≡ c) × (o ≡ Ok tt)
unfolding checked_custom
checked_custom_as c d (Ok tt) e = (cc, refl)
checked_custom_as c d (Err r) e = absurd (refused_never r c e)

checked_figures_as : (c d : Cipher) (fig : Figures) (salt custom : List ℕ) → salt_sized fig (length salt) ≡ true
    → checked_figures d fig salt custom ≡ Ok c
    → IsWritable fig (length salt) × (checked_custom d (custom_verdict custom) ≡ Ok c)
unfolding salt_sized checked_figures IsWritable
checked_figures_as c d (figures.AesKdf rounds) salt custom h e =
    let w = cond_as _ _ _ c e in
    let v = cond_as _ _ _ c w.1 in
    ((eqb-true (length salt) 32 h, leb-true rounds rounds_limit w.0, leb-true rounds_least rounds v.0), v.1)
checked_figures_as c d (figures.Argon2d passes memory lanes) salt custom h e = cond_as _ _ _ c e
checked_figures_as c d (figures.Argon2id passes memory lanes) salt custom h e = cond_as _ _ _ c e

module _ (minor : ℕ) (id seed nonce : List ℕ) (fig : Figures) (salt custom : List ℕ) (c : Cipher) where
  checked_sizes_as : (d : Cipher) → minor ≤ 1 → cipher_of id ≡ Some d
      → checked_sizes d seed nonce fig salt custom ≡ Ok c
      → IsChecked minor id seed nonce fig salt custom c
  unfolding checked_sizes
  checked_sizes_as d m i e =
      let t = cond_as _ _ _ c e in
      let u = cond_as _ _ _ c t.1 in
      let v = cond_as _ _ _ c u.1 in
      let w = checked_figures_as c d fig salt custom v.0 v.1 in
      let x = checked_custom_as c d (custom_verdict custom) w.1 in
      record {
        minor_le = m;
        cipher_is = i ∙ ap (λ (y : Cipher). Some y) x.0;
        seed_long = eqb-true (length seed) 32 t.0;
        nonce_long = eqb-true (length nonce) (nonce_length d) u.0 ∙ ap nonce_length x.0;
        writable = w.0;
        custom_sound = x.1;
      }

  checked_cipher_as : (d : Option Cipher) → minor ≤ 1 → cipher_of id ≡ d
      → checked_cipher d seed nonce fig salt custom ≡ Ok c
      → IsChecked minor id seed nonce fig salt custom c
  unfolding checked_cipher
  checked_cipher_as None m i e = absurd (refused_never _ c e)
  checked_cipher_as (Some d) m i e = checked_sizes_as d m i e

  pub checked_as : checked minor id seed nonce fig salt custom ≡ Ok c
      → IsChecked minor id seed nonce fig salt custom c
  unfolding checked
  checked_as e =
      let t = cond_as _ _ _ c e in
      checked_cipher_as (cipher_of id) (leb-true minor 1 t.0) refl t.1

-- figures that may be written pass the checks
sized_writable : (fig : Figures) (n : ℕ) → IsWritable fig n → salt_sized fig n ≡ true
unfolding salt_sized IsWritable
sized_writable (figures.AesKdf rounds) n w = eq-eqb n 32 w.0
sized_writable (figures.Argon2d passes memory lanes) n w = refl
sized_writable (figures.Argon2id passes memory lanes) n w = refl

figures_writable : (c : Cipher) (fig : Figures) (salt custom : List ℕ) → IsWritable fig (length salt)
    → custom_verdict custom ≡ (Ok tt) → checked_figures c fig salt custom ≡ Ok c
unfolding checked_figures checked_custom IsWritable
figures_writable c (figures.AesKdf rounds) salt custom w v =
    rw (le-leb rounds rounds_limit w.1, le-leb rounds_least rounds w.2, v)
figures_writable c (figures.Argon2d passes memory lanes) salt custom w v = rw (w, v)
figures_writable c (figures.Argon2id passes memory lanes) salt custom w v = rw (w, v)

pub as_checked : (minor : ℕ) (id seed nonce : List ℕ) (fig : Figures) (salt custom : List ℕ) (c : Cipher)
    → IsChecked minor id seed nonce fig salt custom c → checked minor id seed nonce fig salt custom ≡ Ok c
unfolding checked checked_cipher checked_sizes
as_checked minor id seed nonce fig salt custom c k =
    rw (
      le-leb minor 1 k.minor_le,
      k.cipher_is,
      eq-eqb (length seed) 32 k.seed_long,
      eq-eqb (length nonce) (nonce_length c) k.nonce_long,
      sized_writable fig (length salt) k.writable,
      figures_writable c fig salt custom k.writable k.custom_sound,
    )
