-- What an accepted header keeps to.
--
-- In order:
--   IsJudged, judged-accepts    the checks after the end field that an accepted header passed, and what it says
--   accepts-judged, refuses_judged    who passes them is accepted; who passes them up to the KDF dictionary is refused as it is
--   IsHeader, header-accepts    all checks in order
--   header-body                 those of the first twelve bytes passed, the fields decide
--   header-judged               those up to the end field passed, those after it decide
--   accepts-header              who passes them all is accepted
--   HeaderStands, header_stands    limits, lengths, and places within the header; of the KDF's figures (Asks, IsAsked)
-- Not here: the bytes behind the header (Behind).
-- Assumes nothing.
use mathlib.Core.Path.{◌≡◌, refl, sym, ap, ap₂, ◌∙◌}
use mathlib.Core.Bool.{Bool, true, false, ◌&&◌}
use mathlib.Core.List.{List}
use Prim.Native.Nat.{ℕ, zero, suc, ◌+◌, ◌≤◌}
use native.Mathlib.Omega.{arith}
use lib.Dec.{eqb, leb, ltb}
use lib.ListN.{length}
use borrow.Author.Tests.{leb-true, ltb-false, eqb-true, eq-eqb, ne_eqb, le-leb, le-ltb}
use Rattle.words.specs.Endian.{le}
use Rattle.words.proofs.Laws.Cases.{by_bool}
use Rattle.refusals.specs.declared.Refusal.{Refusal}
use Rattle.refusals.specs.Numbers.{Outcome}
use Rattle.refusals.specs.Limits.{file_limit}
use Rattle.fields.specs.Fields.{bytes_at, end_of, given}
use Rattle.ciphers.specs.Ciphers.{cipher_of, nonce_length}
use Rattle.ciphers.specs.declared.Cipher.{Cipher}
use Rattle.std.specs.Prelude.{Option, Some, None, Ok, Err, Result}
use Rattle.kdf_dictionary.specs.KdfDictionary.{kdf_of}
use Rattle.kdf_dictionary.specs.declared.Kdf.{Kdf}
use Rattle.kdf_dictionary.proofs.Laws.Asks.{IsAsked, kdf_of_asks}
use Rattle.outer_header.specs.declared.walk.Fields.{Fields}
use Rattle.outer_header.specs.declared.Header.{Header}
use Rattle.outer_header.specs.Kdbx4Header.{
  no_fields,
  walk,
  complete,
  custom_of,
  figures_in,
  figures,
  identified,
  judged,
  judged_in,
  body,
  header,
}
use Rattle.outer_header.proofs.Laws.Walk.{no_fields-placed, walk_ends}

refused_never : (r : Refusal) (h : Header) → Err r ≡ Ok h → ⊥
refused_never r h e = let z : ◌≡◌ {A = ℕ} 0 1 = cc in omega arith

-- the header of these fields
abbrev pub header_of : Fields → ℕ → ℕ → Cipher → Kdf → Header
header_of f minor end c k =
    record {
      minor = minor;
      cipher = c;
      seed = f.seed;
      nonce = f.nonce;
      kdf = k;
      kdf_dictionary = f.kdf;
      custom = f.custom;
      length = end;
    }

-- the checks after the end field, passed
pub record IsJudged (s : List ℕ) (f : Fields) (minor end : ℕ) (h : Header) : Type 0 where
  pub complete_is : complete f ≡ true
  pub cipher_is : cipher_of (bytes_at s f.cipher) ≡ Some h.cipher
  pub compression_is : le 4 s f.compression.start ≡ 0
  pub nonce_is : f.nonce.length ≡ nonce_length h.cipher
  pub kdf_is : kdf_of s f.kdf ≡ Ok h.kdf
  pub custom_is : custom_of s f.custom ≡ Ok tt
  pub header_is : h ≡ header_of f minor end h.cipher h.kdf

module _ (s : List ℕ) (f : Fields) (minor end : ℕ) (h : Header) where
  figures_in-accepts : (c : Cipher) (k : Result Kdf Refusal) (o : Outcome) → complete f ≡ true
      → cipher_of (bytes_at s f.cipher) ≡ Some c
      → le 4 s f.compression.start ≡ 0
      → f.nonce.length ≡ nonce_length c
      → kdf_of s f.kdf ≡ k
      → custom_of s f.custom ≡ o
      → figures_in f minor end c k o ≡ Ok h
      → IsJudged s f minor end h
  unfolding figures_in
  figures_in-accepts c (Err r) o t u v w x y e = absurd (refused_never r h e)
  figures_in-accepts c (Ok k) (Err r) t u v w x y e = absurd (refused_never r h e)
  figures_in-accepts c (Ok k) (Ok tt) t u v w x y e =
      let q : header_of f minor end c k ≡ h = cc in
      rw (← q) (record {
        complete_is = t;
        cipher_is = u;
        compression_is = v;
        nonce_is = w;
        kdf_is = x;
        custom_is = y;
        header_is = refl;
      })

  identified-accepts : (i : Option Cipher) → complete f ≡ true → cipher_of (bytes_at s f.cipher) ≡ i
      → identified s f minor end i ≡ Ok h
      → IsJudged s f minor end h
  unfolding identified figures
  identified-accepts None t u = λ e. absurd (refused_never _ h e)
  identified-accepts (Some c) t u =
      by_bool (eqb (le 4 s f.compression.start) 0)
      (λ v. by_bool (eqb f.nonce.length (nonce_length c))
      (λ w. rw (v, w) (λ e. figures_in-accepts c (kdf_of s f.kdf) (custom_of s f.custom) t u (eqb-true _ 0 v)
      (eqb-true _ _ w) refl refl e))
      (λ w. rw (v, w) (λ e. absurd (refused_never _ h e))))
      (λ v. rw v (λ e. absurd (refused_never _ h e)))

  pub judged-accepts : judged s f minor end ≡ Ok h → IsJudged s f minor end h
  unfolding judged
  judged-accepts =
      by_bool (complete f)
      (λ t. rw t (λ e. identified-accepts (cipher_of (bytes_at s f.cipher)) t refl e))
      (λ t. rw t (λ e. absurd (refused_never _ h e)))

pub accepts-judged : (s : List ℕ) (f : Fields) (minor end : ℕ) (c : Cipher) (k : Kdf) → complete f ≡ true
    → cipher_of (bytes_at s f.cipher) ≡ Some c
    → le 4 s f.compression.start ≡ 0
    → f.nonce.length ≡ nonce_length c
    → kdf_of s f.kdf ≡ Ok k
    → custom_of s f.custom ≡ Ok tt
    → judged s f minor end ≡ Ok (header_of f minor end c k)
unfolding judged identified figures figures_in
accepts-judged s f minor end c k t u v w x y =
    rw (t, u, eq-eqb (le 4 s f.compression.start) 0 v, eq-eqb f.nonce.length (nonce_length c) w, x, y)

pub refuses_judged : (s : List ℕ) (f : Fields) (minor end : ℕ) (c : Cipher) (r : Refusal) → complete f ≡ true
    → cipher_of (bytes_at s f.cipher) ≡ Some c
    → le 4 s f.compression.start ≡ 0
    → f.nonce.length ≡ nonce_length c
    → kdf_of s f.kdf ≡ Err r
    → judged s f minor end ≡ Err r
unfolding judged identified figures figures_in
refuses_judged s f minor end c r t u v w x =
    rw (t, u, eq-eqb (le 4 s f.compression.start) 0 v, eq-eqb f.nonce.length (nonce_length c) w, x)

-- all checks in order, passed
pub record IsHeader (s : List ℕ) (h : Header) : Type 0 where
  pub fits : length s ≤ file_limit
  pub long : 12 ≤ length s
  pub first_is : le 4 s 0 ≡ 0x9AA2D903
  pub second_is : le 4 s 4 ≡ 0xB54BFB67
  pub minor_le : h.minor ≤ 1
  pub version_is : le 4 s 8 ≡ 0x40000 + h.minor
  pub fields : Fields
  pub walk_is : walk (length s) no_fields s 12 ≡ Ok (fields, h.length)
  pub judged_is : judged s fields h.minor h.length ≡ Ok h

record IsBody (s : List ℕ) (minor : ℕ) (h : Header) : Type 0 where
  fields : Fields
  minor_is : h.minor ≡ minor
  walk_is : walk (length s) no_fields s 12 ≡ Ok (fields, h.length)
  judged_is : judged s fields h.minor h.length ≡ Ok h

judged_in-accepts : (s : List ℕ) (minor : ℕ) (h : Header) (w : Result (Fields × ℕ) Refusal) → walk (length s) no_fields s 12 ≡ w
    → judged_in s minor w ≡ Ok h
    → IsBody s minor h
unfolding judged_in
judged_in-accepts s minor h (Err r) q e = absurd (refused_never r h e)
judged_in-accepts s minor h (Ok (f, end)) q e =
    let i = (judged-accepts s f minor end h e).header_is in
    let m : h.minor ≡ minor = ap (λ (x : Header). x.minor) i in
    let l : h.length ≡ end = ap (λ (x : Header). x.length) i in
    record {
      fields = f;
      minor_is = m;
      walk_is = q ∙ ap (λ (n : ℕ). Ok (f, n)) (sym l);
      judged_is = ap₂ (λ (a b : ℕ). judged s f a b) m l ∙ e;
    }

body-accepts : (s : List ℕ) (minor : ℕ) (h : Header) → body s minor ≡ Ok h → IsBody s minor h
unfolding body
body-accepts s minor h e = judged_in-accepts s minor h (walk (length s) no_fields s 12) refl e

is_header : (s : List ℕ) (minor : ℕ) (h : Header) → length s ≤ file_limit → 12 ≤ length s → le 4 s 0 ≡ 0x9AA2D903
    → le 4 s 4 ≡ 0xB54BFB67
    → minor ≤ 1
    → le 4 s 8 ≡ 0x40000 + minor
    → body s minor ≡ Ok h
    → IsHeader s h
is_header s minor h t u v w m x e =
    let b = body-accepts s minor h e in
    let i : h.minor ≡ minor = b.minor_is in
    record {
      fits = t;
      long = u;
      first_is = v;
      second_is = w;
      minor_le = omega arith;
      version_is = omega arith;
      fields = b.fields;
      walk_is = b.walk_is;
      judged_is = b.judged_is;
    }

pub header-accepts : (s : List ℕ) (h : Header) → header s ≡ Ok h → IsHeader s h
unfolding header
header-accepts s h =
    by_bool (leb (length s) file_limit)
    (λ t. by_bool (ltb (length s) 12)
    (λ u. rw (t, u) (λ e. absurd (refused_never _ h e)))
    (λ u. by_bool (eqb (le 4 s 0) 0x9AA2D903)
    (λ v. by_bool (eqb (le 4 s 4) 0xB54BFB67)
    (λ w. by_bool (eqb (le 4 s 8) 0x40000)
    (λ x. rw (t, u, v, w, x) (is_header s 0 h (leb-true _ _ t) (ltb-false _ 12 u) (eqb-true _ 0x9AA2D903 v)
    (eqb-true _ 0xB54BFB67 w) (omega arith) (eqb-true _ 0x40000 x)))
    (λ x. by_bool (eqb (le 4 s 8) 0x40001)
    (λ y. rw (t, u, v, w, x, y) (is_header s 1 h (leb-true _ _ t) (ltb-false _ 12 u) (eqb-true _ 0x9AA2D903 v)
    (eqb-true _ 0xB54BFB67 w) (omega arith) (eqb-true _ 0x40001 y)))
    (λ y. rw (t, u, v, w, x, y) (λ e. absurd (refused_never _ h e)))))
    (λ w. rw (t, u, v, w) (λ e. absurd (refused_never _ h e))))
    (λ v. rw (t, u, v) (λ e. absurd (refused_never _ h e)))))
    (λ t. rw t (λ e. absurd (refused_never _ h e)))

pub header-body : (s : List ℕ) (minor : ℕ) → length s ≤ file_limit → 12 ≤ length s → le 4 s 0 ≡ 0x9AA2D903
    → le 4 s 4 ≡ 0xB54BFB67
    → minor ≤ 1
    → le 4 s 8 ≡ 0x40000 + minor
    → header s ≡ body s minor
unfolding header
header-body s zero t u v w m x =
    rw (
      le-leb _ _ t,
      le-ltb _ 12 u,
      eq-eqb _ 0x9AA2D903 v,
      eq-eqb _ 0xB54BFB67 w,
      eq-eqb (le 4 s 8) 0x40000 x,
    )
header-body s (suc zero) t u v w m x =
    let n : le 4 s 8 ≡ 0x40000 → ⊥ = λ e. omega arith in
    rw (
      le-leb _ _ t,
      le-ltb _ 12 u,
      eq-eqb _ 0x9AA2D903 v,
      eq-eqb _ 0xB54BFB67 w,
      ne_eqb (le 4 s 8) 0x40000 n,
      eq-eqb (le 4 s 8) 0x40001 x,
    )
header-body s (suc (suc n)) t u v w m x = absurd (omega arith)

pub header-judged : (s : List ℕ) (minor end : ℕ) (f : Fields) → length s ≤ file_limit → 12 ≤ length s
    → le 4 s 0 ≡ 0x9AA2D903
    → le 4 s 4 ≡ 0xB54BFB67
    → minor ≤ 1
    → le 4 s 8 ≡ 0x40000 + minor
    → walk (length s) no_fields s 12 ≡ Ok (f, end)
    → header s ≡ judged s f minor end
unfolding body judged_in
header-judged s minor end f t u v w m x e = header-body s minor t u v w m x ∙ rw e

pub accepts-header : (s : List ℕ) (h : Header) → IsHeader s h → header s ≡ Ok h
accepts-header s h i =
    header-judged s h.minor h.length i.fields i.fits i.long i.first_is i.second_is i.minor_le
    i.version_is i.walk_is
    ∙ i.judged_is

-- limits, lengths, and places within the header
pub record HeaderStands (s : List ℕ) (h : Header) : Type 0 where
  pub file_le : length s ≤ file_limit
  pub length_le : h.length ≤ length s
  pub length_ge : 12 ≤ h.length
  pub seed_within : end_of h.seed ≤ h.length
  pub nonce_within : end_of h.nonce ≤ h.length
  pub dictionary_within : end_of h.kdf_dictionary ≤ h.length
  pub custom_within : end_of h.custom ≤ h.length
  pub seed_length : h.seed.length ≡ 32
  pub nonce_length_is : h.nonce.length ≡ nonce_length h.cipher
  pub kdf_stands : IsAsked h.kdf_dictionary h.kdf

-- a complete header has a seed
complete-seed : (a b c d e : Bool) → (a && (b && (c && (d && e)))) ≡ true → c ≡ true
complete-seed true true true d e t = refl
complete-seed true true false d e t = t
complete-seed true false c d e t = let z : ◌≡◌ {A = ℕ} 0 1 = cc in absurd (omega arith)
complete-seed false b c d e t = let z : ◌≡◌ {A = ℕ} 0 1 = cc in absurd (omega arith)

complete_given : (f : Fields) → complete f ≡ true → given f.seed ≡ true
unfolding complete
complete_given f t =
    complete-seed (given f.cipher) (given f.compression) (given f.seed) (given f.nonce) (given f.kdf) t

pub header_stands : (s : List ℕ) (h : Header) → header s ≡ Ok h → HeaderStands s h
header_stands s h e =
    let i = header-accepts s h e in
    let f = i.fields in
    let w = walk_ends (length s) no_fields s 12 f h.length (no_fields-placed 12 (omega arith)) i.walk_is in
    let j = judged-accepts s f h.minor h.length h i.judged_is in
    let k = kdf_of_asks s f.kdf h.kdf j.kdf_is in
    let a : h.seed ≡ f.seed = ap (λ (x : Header). x.seed) j.header_is in
    let b : h.nonce ≡ f.nonce = ap (λ (x : Header). x.nonce) j.header_is in
    let c : h.kdf_dictionary ≡ f.kdf = ap (λ (x : Header). x.kdf_dictionary) j.header_is in
    let d : h.custom ≡ f.custom = ap (λ (x : Header). x.custom) j.header_is in
    record {
      file_le = i.fits;
      length_le = w.within;
      length_ge = omega arith;
      seed_within = rw a w.placed.seed_le;
      nonce_within = rw b w.placed.nonce_le;
      dictionary_within = rw c w.placed.kdf_le;
      custom_within = rw d w.placed.custom_le;
      seed_length = rw a (w.placed.seed_size (complete_given f j.complete_is));
      nonce_length_is = rw b j.nonce_is;
      kdf_stands = rw c k;
    }
