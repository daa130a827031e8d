-- The places of an outer header that is refused.
--
-- In order:
--   Before, put_before, before_further    the dictionaries end before the end field
--   WalkLies, walk_lies                   the walk over the fields
--   begin_lt                              the first byte of a field that was met
--   judged_lies, header_lies              the checks after the end field; all checks
-- Assumes nothing.
use mathlib.Core.Path.{◌≡◌, refl}
use mathlib.Core.Bool.{Bool, true, false, cond}
use mathlib.Core.List.{List}
use Prim.Native.Nat.{ℕ, zero, suc, ◌+◌, ◌-◌, ◌≤◌, ◌<◌}
use native.Mathlib.Omega.{arith}
use lib.Dec.{eqb, leb, ltb}
use lib.ListN.{length, get_or, length-take, length-drop}
use Rattle.words.specs.Endian.{le}
use Rattle.words.proofs.Laws.Cases.{by_bool}
use Rattle.refusals.specs.Limits.{file_limit}
use Rattle.refusals.specs.Numbers.{Outcome}
use Rattle.fields.specs.Fields.{bytes_at, end_of, begin}
use Rattle.fields.specs.declared.Place.{Place}
use Rattle.refusals.specs.declared.Refusal.{Refusal}
use Rattle.ciphers.specs.Ciphers.{cipher_of, nonce_length}
use Rattle.ciphers.specs.declared.Cipher.{Cipher}
use Rattle.std.specs.Prelude.{Option, Some, None, Result, Ok, Err}
use Rattle.kdf_dictionary.specs.KdfDictionary.{kdf_of}
use Rattle.kdf_dictionary.specs.declared.Kdf.{Kdf}
use Rattle.outer_header.specs.declared.Header.{Header}
use Rattle.outer_header.specs.declared.walk.Fields.{Fields}
use Rattle.outer_header.specs.Kdbx4Header.{
  listed,
  size_rule,
  seen,
  put,
  no_fields,
  field_here,
  ends_right,
  walk_in,
  walk,
  complete,
  custom_of,
  figures_in,
  figures,
  identified,
  judged,
  judged_in,
  body,
  header,
}
use Rattle.outer_header.proofs.Laws.Walk.{field_here_stands, no_fields-placed, IsEnded, walk_ends}
use Rattle.places.specs.Places.{LiesIn}
use Rattle.places.proofs.Laws.Fields as fields
use Rattle.places.proofs.Laws.Kdf as kdfs

-- the dictionaries end at a place or before it
record Before (f : Fields) (at : ℕ) : Type 0 where
  kdf_le : end_of f.kdf ≤ at
  custom_le : end_of f.custom ≤ at

either : (b : Bool) (p q : Place) (n : ℕ) → end_of p ≤ n → end_of q ≤ n → end_of (cond b p q) ≤ n
either true p q n h l = h
either false p q n h l = l

put_before : (f : Fields) (id : ℕ) (p : Place) (at : ℕ) → Before f at → at ≤ end_of p → Before (put f id p) (end_of p)
unfolding put
put_before f id p at d h =
    record {
      kdf_le = either (eqb id 11) p f.kdf (end_of p) (omega arith) (omega (arith, d.kdf_le));
      custom_le = either (eqb id 12) p f.custom (end_of p) (omega arith) (omega (arith, d.custom_le));
    }

-- what is said of a walk: of its refusal, and of the dictionaries where it ends
abbrev WalkLies : List ℕ → Result (Fields × ℕ) Refusal → Type 0
WalkLies s (Ok (f, end)) = Before f (length s - 1)
WalkLies s (Err r) = LiesIn (length s) r

before_further : (f : Fields) (at n : ℕ) → at ≤ n → Before f at → Before f n
before_further f at n h d = record { kdf_le = omega (arith, d.kdf_le); custom_le = omega (arith, d.custom_le) }

walk_in_lies : (f : Fields) (s : List ℕ) (at : ℕ) (e : Result (ℕ × Place) Refusal) (rest : Fields → ℕ → Result (Fields × ℕ) Refusal) → field_here f s at ≡ e
    → fields.Lies (length s) e
    → Before f at
    → ((g : Fields) (n : ℕ) → Before g n → WalkLies s (rest g n))
    → WalkLies s (walk_in f s e rest)
unfolding walk_in
walk_in_lies f s at (Err r) rest q l d h = l
walk_in_lies f s at (Ok (id, p)) rest q l d h =
    let x = field_here_stands f s at id p q in
    by_bool (eqb id 0)
    (λ t. by_bool (ends_right s p)
    (λ u. rw (t, u) (before_further f at (length s - 1) (omega (arith, x.start_is, x.within)) d))
    (λ u. rw (t, u) (omega (arith, x.start_is, x.within))))
    (λ t. rw t (h (put f id p) (end_of p) (put_before f id p at d (omega (arith, x.start_is)))))

walk_lies : (k : ℕ) (f : Fields) (s : List ℕ) (at : ℕ) → Before f at → WalkLies s (walk k f s at)
unfolding walk field_here
walk_lies zero f s at d = refl
walk_lies (suc k) f s at d =
    walk_in_lies f s at (field_here f s at) (λ (g : Fields) (n : ℕ). walk k g s n) refl
    (fields.field_at_lies (listed (get_or s at 0)) (seen f (get_or s at 0)) (size_rule (get_or s at 0)) s at) d
    (λ g n x. walk_lies k g s n x)

begin_lt : (p : Place) (n m : ℕ) → end_of p ≤ n → n ≤ m → 0 < m → begin p < m
begin_lt p n m h l k = omega arith

bytes_end : (s : List ℕ) (p : Place) → end_of p ≤ length s - 1 → 0 < length s → p.start + length (bytes_at s p) < length s
bytes_end s p h k = simp (length-take, length-drop) (omega arith)

-- nothing is said of an accepted header
abbrev Lies : ℕ → Result Header Refusal → Type 0
Lies n (Ok h) = 0 ≤ 0
Lies n (Err r) = LiesIn n r

module _ (s : List ℕ) (f : Fields) (minor end : ℕ) (e : IsEnded s 12 f end) (d : Before f (length s - 1)) where
  some : 0 < length s
  some = omega (arith, e.far, e.within)

  figures_in_lies : (c : Cipher) (k : Result Kdf Refusal) (o : Outcome) → kdfs.Lies (length s) k → kdfs.LiesOutcome (length s) o
      → Lies (length s) (figures_in f minor end c k o)
  unfolding figures_in
  figures_in_lies c (Err r) o x y = x
  figures_in_lies c (Ok k) (Err r) x y = y
  figures_in_lies c (Ok k) (Ok tt) x y = omega arith

  identified_lies : (i : Option Cipher) → Lies (length s) (identified s f minor end i)
  unfolding identified figures
  identified_lies None = begin_lt f.cipher end (length s) e.placed.cipher_le e.within some
  identified_lies (Some c) =
      by_bool (eqb (le 4 s f.compression.start) 0)
      (λ t. by_bool (eqb f.nonce.length (nonce_length c))
      (λ u. rw (t, u) (figures_in_lies c (kdf_of s f.kdf) (custom_of s f.custom)
      (kdfs.kdf_of_lies s f.kdf (length s) (bytes_end s f.kdf d.kdf_le some))
      (kdfs.custom_of_lies s f.custom (length s) (bytes_end s f.custom d.custom_le some))))
      (λ u. rw (t, u) (begin_lt f.nonce end (length s) e.placed.nonce_le e.within some)))
      (λ t. rw t (omega (arith, e.placed.compression_le, e.within, some)))

  judged_lies : Lies (length s) (judged s f minor end)
  unfolding judged
  judged_lies =
      by_bool (complete f)
      (λ t. rw t (identified_lies (cipher_of (bytes_at s f.cipher))))
      (λ t. rw t (omega (arith, e.far, e.within)))

body_before : (s : List ℕ) (minor : ℕ) (w : Result (Fields × ℕ) Refusal) → walk (length s) no_fields s 12 ≡ w → WalkLies s w
    → Lies (length s) (judged_in s minor w)
unfolding judged_in
body_before s minor (Err r) q l = l
body_before s minor (Ok (f, end)) q l =
    judged_lies s f minor end (walk_ends (length s) no_fields s 12 f end (no_fields-placed 12 (omega arith)) q) l

body_lies : (s : List ℕ) (minor : ℕ) → Lies (length s) (body s minor)
unfolding body no_fields
body_lies s minor =
    body_before s minor (walk (length s) no_fields s 12) refl
    (walk_lies (length s) no_fields s 12 (record { kdf_le = omega arith; custom_le = omega arith }))

pub header_lies : (s : List ℕ) → Lies (length s) (header s)
unfolding header
header_lies s =
    by_bool (leb (length s) file_limit)
    (λ t. by_bool (ltb (length s) 12)
    (λ u. rw (t, u) refl)
    (λ u. by_bool (eqb (le 4 s 0) 0x9AA2D903)
    (λ v. by_bool (eqb (le 4 s 4) 0xB54BFB67)
    (λ w. by_bool (eqb (le 4 s 8) 0x40000)
    (λ x. rw (t, u, v, w, x) (body_lies s 0))
    (λ x. by_bool (eqb (le 4 s 8) 0x40001)
    (λ y. rw (t, u, v, w, x, y) (body_lies s 1))
    (λ y. rw (t, u, v, w, x, y) refl)))
    (λ w. rw (t, u, v, w) refl))
    (λ v. rw (t, u, v) refl)))
    (λ t. rw t refl)
