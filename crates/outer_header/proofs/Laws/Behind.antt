-- The bytes behind a header do not count.
--
-- In order:
--   Alike, append_alike    two lists are the same up to a place
--   field_here_alike        .. so a field before it is the same
--   walk_alike             .. and a walk that ends before it
--   judged_alike           .. and what stands in the fields
--   header_alike           .. and a header that ends there
--   header_behind          a header is read the same whatever stands behind it
-- Not here: what an accepted header keeps to (Accepted).
-- Assumes nothing.
use mathlib.Core.Path.{◌≡◌, refl, ap, ◌∙◌}
use mathlib.Core.Bool.{Bool}
use mathlib.Core.List.{List, ◌++◌}
use Prim.Native.Nat.{ℕ, zero, suc, ◌+◌, ◌-◌, ◌≤◌, ◌<◌}
use native.Mathlib.Omega.{arith}
use lib.Dec.{eqb, leb}
use lib.ListN.{length, get_or, take, drop, length-append, length-drop, get_or-append}
use lib.Seq.{get_or-take, take-append-le, drop-append-le, length-take-le}
use borrow.Author.Tests.{le-leb}
use Rattle.words.specs.Endian.{le}
use Rattle.words.specs.Size.{int32}
use Rattle.std.specs.Prelude.{Option, Some, None, Result, Ok, Err}
use Rattle.words.proofs.Laws.Cases.{by_bool}
use Rattle.words.proofs.Laws.Endian.{le-append, le-take}
use Rattle.slices.proofs.Laws.Parts.{part_front}
use Rattle.refusals.specs.declared.Refusal.{Refusal}
use Rattle.refusals.specs.Limits.{file_limit}
use Rattle.fields.specs.Fields.{bytes_at, end_of, fits, value_at, field_at}
use Rattle.fields.specs.declared.Place.{Place}
use Rattle.fields.specs.declared.SizeRule.{SizeRule}
use Rattle.ciphers.specs.Ciphers.{cipher_of}
use Rattle.ciphers.specs.declared.Cipher.{Cipher}
use Rattle.kdf_dictionary.proofs.Laws.Asks.{kdf_of_bytes}
use Rattle.words.proofs.Laws.Pairs.{ok_second}
use Rattle.outer_header.specs.declared.walk.Fields.{Fields}
use Rattle.outer_header.specs.declared.Header.{Header}
use Rattle.outer_header.specs.Kdbx4Header.{
  listed,
  size_rule,
  seen,
  put,
  no_fields,
  field_here,
  ends_right,
  walk_in,
  walk,
  custom_of,
  figures,
  identified,
  judged,
  header,
}
use Rattle.outer_header.proofs.Laws.Walk.{
  field_here_stands,
  field_here-fits,
  Placed,
  no_fields-placed,
  put_placed,
  walk_ends,
}
use Rattle.outer_header.proofs.Laws.Accepted.{header-accepts, accepts-header, header_stands}

-- t has the bytes of s up to the place n
pub record Alike (n : ℕ) (s t : List ℕ) : Type 0 where
  pub long : n ≤ length t
  pub byte : (i : ℕ) → i < n → get_or t i 0 ≡ get_or s i 0
  pub word : (i : ℕ) → i + 4 ≤ n → le 4 t i ≡ le 4 s i
  pub part : (i k : ℕ) → i + k ≤ n → take k (drop i t) ≡ take k (drop i s)

pub append_alike : (n : ℕ) (s t : List ℕ) → n ≤ length s → Alike n s (take n s ++ t)
append_alike n s t h =
    let l : length (take n s) ≡ n = length-take-le n s h in
    record {
      long = simp length-append (omega arith);
      byte = λ i b. let c : i < length (take n s) = omega arith in
          get_or-append (take n s) t 0 i c ∙ get_or-take n s i 0 b;
      word = λ i b. let c : i + 4 ≤ length (take n s) = omega arith in
          le-append 4 (take n s) t i c ∙ le-take n 4 s i b;
      part = λ i k b.
          let c : i ≤ length (take n s) = omega arith in
          let d : k ≤ length (drop i (take n s)) = simp length-drop (omega arith) in
          ap (λ (x : List ℕ). take k x) (drop-append-le i (take n s) t c)
          ∙ take-append-le k (drop i (take n s)) t d ∙ part_front n i k s b;
    }

field_never : (r : Refusal) (id : ℕ) (p : Place) → ◌≡◌ {A = Result (ℕ × Place) Refusal} (Err r) (Ok (id, p)) → ⊥
field_never r id p e = let z : ◌≡◌ {A = ℕ} 0 1 = cc in omega arith

pub walked_never : (r : Refusal) (f : Fields) (n : ℕ) → ◌≡◌ {A = Result (Fields × ℕ) Refusal} (Err r) (Ok (f, n)) → ⊥
walked_never r f n e = let z : ◌≡◌ {A = ℕ} 0 1 = cc in omega arith

module _ (n : ℕ) (s t : List ℕ) (a : Alike n s t) where
  value_at_alike : (rule : SizeRule) (at : ℕ) (z : Option ℕ) (id : ℕ) (p : Place) → end_of p ≤ n
      → value_at rule s at z ≡ Ok (id, p)
      → value_at rule t at z ≡ Ok (id, p)
  unfolding value_at
  value_at_alike rule at None id p h = λ e. e
  value_at_alike rule at (Some k) id p h =
      by_bool (fits rule k)
      (λ u. by_bool (leb k (length s - (at + 5)))
      (λ v. rw (u, v) (λ e.
      let q : record { start = at + 5; length = k } ≡ p = ok_second e in
      let l : at + 5 + k ≤ n = rw (← q) at h in
      let m : k ≤ length t - (at + 5) = omega (arith, a.long) in
      rw (le-leb k (length t - (at + 5)) m, a.byte at (omega arith)) e))
      (λ v. rw (u, v) (λ e. absurd (field_never _ id p e))))
      (λ u. rw u (λ e. absurd (field_never _ id p e)))

  field_at_alike : (l r : Bool) (rule : SizeRule) (at id : ℕ) (p : Place) → at + 5 ≤ length t
      → le 4 t (at + 1) ≡ le 4 s (at + 1)
      → end_of p ≤ n
      → field_at l r rule s at ≡ Ok (id, p)
      → field_at l r rule t at ≡ Ok (id, p)
  unfolding field_at
  field_at_alike l r rule at id p q w h =
      by_bool (leb (at + 5) (length s))
      (λ u. by_bool l
      (λ v. by_bool r
      (λ x. rw (u, v, x) (λ e. absurd (field_never _ id p e)))
      (λ x. rw (u, v, x, le-leb (at + 5) (length t) q, w) (value_at_alike rule at (int32 (le 4 s (at + 1))) id p h)))
      (λ v. rw (u, v) (λ e. absurd (field_never _ id p e))))
      (λ u. rw u (λ e. absurd (field_never _ id p e)))

  pub field_here_alike : (f : Fields) (at id : ℕ) (p : Place) → end_of p ≤ n → field_here f s at ≡ Ok (id, p)
      → field_here f t at ≡ Ok (id, p)
  unfolding field_here
  field_here_alike f at id p h e =
      let x = field_here_stands f s at id p e in
      let l : at + 5 ≤ n = omega arith in
      let q : at + 5 ≤ length t = omega (arith, a.long) in
      let w = a.word (at + 1) (omega arith) in
      rw (a.byte at (omega arith))
      (field_at_alike (listed (get_or s at 0)) (seen f (get_or s at 0)) (size_rule (get_or s at 0)) at id p q w h e)

  ends_right_alike : (p : Place) → end_of p ≤ n → ends_right t p ≡ ends_right s p
  unfolding ends_right
  ends_right_alike p h = rw (a.part p.start p.length h)

  walk_in_alike : (f : Fields) (at : ℕ) (e : Result (ℕ × Place) Refusal) (rest more : Fields → ℕ → Result (Fields × ℕ) Refusal) (g : Fields) (end : ℕ)
      → field_here f s at ≡ e
      → Placed f at
      → end ≤ n
      → ((f₁ : Fields) (m : ℕ) → Placed f₁ m → rest f₁ m ≡ Ok (g, end) → m ≤ end)
      → ((f₁ : Fields) (m : ℕ) → Placed f₁ m → at + 5 ≤ m → rest f₁ m ≡ Ok (g, end)
      → more f₁ m ≡ Ok (g, end))
      → walk_in f s e rest ≡ Ok (g, end)
      → walk_in f t (field_here f t at) more ≡ Ok (g, end)
  unfolding walk_in
  walk_in_alike f at (Err r) rest more g end q d h far on = λ e. absurd (walked_never r g end e)
  walk_in_alike f at (Ok (id, p)) rest more g end q d h far on =
      let x = field_here_stands f s at id p q in
      let l : at ≤ end_of p = omega arith in
      let d₁ = put_placed f id p at d l (field_here-fits f s at id p q) in
      by_bool (eqb id 0)
      (λ u. by_bool (ends_right s p)
      (λ v. rw (u, v) (λ e.
      let m : end_of p ≡ end = ok_second e in
      let b : end_of p ≤ n = omega arith in
      rw (field_here_alike f at id p b q, u, ends_right_alike p b, v) e))
      (λ v. rw (u, v) (λ e. absurd (walked_never _ g end e))))
      (λ u. rw u (λ e.
      let m : end_of p ≤ end = far (put f id p) (end_of p) d₁ e in
      let b : end_of p ≤ n = omega arith in
      rw (field_here_alike f at id p b q, u) (on (put f id p) (end_of p) d₁ (omega arith) e)))

  pub walk_alike : (k m : ℕ) (f : Fields) (at : ℕ) (g : Fields) (end : ℕ) → Placed f at → end ≤ n → end ≤ m + at
      → walk k f s at ≡ Ok (g, end)
      → walk m f t at ≡ Ok (g, end)
  unfolding walk
  walk_alike zero m f at g end d h l e = absurd (walked_never _ g end e)
  walk_alike (suc k) zero f at g end d h l e =
      let w = walk_ends (suc k) f s at g end d e in
      absurd (omega arith)
  walk_alike (suc k) (suc m) f at g end d h l e =
      walk_in_alike f at (field_here f s at) (λ (f₁ : Fields) (i : ℕ). walk k f₁ s i)
      (λ (f₁ : Fields) (i : ℕ). walk m f₁ t i) g end refl d h
      (λ f₁ i d₁ e₁. let w = walk_ends k f₁ s i g end d₁ e₁ in omega arith)
      (λ f₁ i d₁ b e₁. walk_alike k m f₁ i g end d₁ h (omega arith) e₁) e

  identified_alike : (f : Fields) (minor end : ℕ) (i : Option Cipher) → Placed f n
      → identified t f minor end i ≡ identified s f minor end i
  unfolding identified figures custom_of
  identified_alike f minor end None d = refl
  identified_alike f minor end (Some c) d =
      rw (
        a.word f.compression.start d.compression_le,
        kdf_of_bytes t s f.kdf (a.part f.kdf.start f.kdf.length d.kdf_le),
        a.part f.custom.start f.custom.length d.custom_le,
      )

  pub judged_alike : (f : Fields) (minor end : ℕ) → Placed f n → judged t f minor end ≡ judged s f minor end
  unfolding judged
  judged_alike f minor end d =
      rw (
        a.part f.cipher.start f.cipher.length d.cipher_le,
        identified_alike f minor end (cipher_of (bytes_at s f.cipher)) d,
      )

pub header_alike : (s t : List ℕ) (h : Header) → Alike h.length s t → length t ≤ file_limit → header s ≡ Ok h
    → header t ≡ Ok h
header_alike s t h a b e =
    let i = header-accepts s h e in
    let f = i.fields in
    let d = no_fields-placed 12 (omega arith) in
    let w = walk_ends (length s) no_fields s 12 f h.length d i.walk_is in
    accepts-header t h (record {
      fits = b;
      long = omega (arith, a.long);
      first_is = a.word 0 (omega arith) ∙ i.first_is;
      second_is = a.word 4 (omega arith) ∙ i.second_is;
      minor_le = i.minor_le;
      version_is = a.word 8 (omega arith) ∙ i.version_is;
      fields = f;
      walk_is =
          walk_alike h.length s t a (length s) (length t) no_fields 12 f h.length d (omega arith)
          (omega (arith, a.long)) i.walk_is;
      judged_is = judged_alike h.length s t a f h.minor h.length w.placed ∙ i.judged_is;
    })

-- "Bytes behind the end field are no fault of the header"
pub header_behind : (s t : List ℕ) (h : Header) → header s ≡ Ok h
    → length (take h.length s ++ t) ≤ file_limit
    → header (take h.length s ++ t) ≡ Ok h
header_behind s t h e b =
    let x = header_stands s h e in
    header_alike s (take h.length s ++ t) h (append_alike h.length s t x.length_le) b e
