-- What begins at the places of an outer header that is refused.
--
-- In order:
--   Knowns, none_known, put_known    what is known of the fields at a place of the walk
--   seen_again                       a field that came before comes again
--   WalkSays, walk_says              the walk over the fields
--   judged_points, header_points     the checks after the end field; all checks
-- Not here: that the places lie inside the file (Header).
-- Assumes nothing.
use mathlib.Core.Path.{◌≡◌, refl, sym, ap₂, subst, ◌∙◌}
use mathlib.Core.Bool.{true, false, false≢true}
use mathlib.Core.List.{List, [], ◌∷◌}
use Prim.Native.Nat.{ℕ, zero, suc, ◌+◌, ◌≤◌}
use native.Mathlib.Omega.{arith}
use lib.Dec.{eqb, leb, ltb}
use lib.ListN.{length, get_or, take, drop}
use borrow.Author.Tests.{eqb-true, eqb-false}
use Rattle.words.specs.Endian.{le}
use Rattle.words.proofs.Laws.Cases.{by_bool, and_true}
use Rattle.slices.specs.Same.{same}
use Rattle.slices.proofs.Laws.Same.{same_refl}
use Rattle.refusals.specs.Limits.{file_limit}
use Rattle.refusals.specs.Numbers.{Outcome}
use Rattle.fields.specs.Fields.{bytes_at, end_of, given, begin, fits}
use Rattle.fields.specs.declared.Place.{Place}
use Rattle.refusals.specs.declared.Refusal.{Refusal}
use Rattle.ciphers.specs.Ciphers.{cipher_of, nonce_length}
use Rattle.ciphers.specs.declared.Cipher.{Cipher}
use Rattle.std.specs.Prelude.{Option, Some, None, Result, Ok, Err}
use Rattle.kdf_dictionary.specs.KdfDictionary.{kdf_of}
use Rattle.kdf_dictionary.specs.declared.Kdf.{Kdf}
use Rattle.outer_header.specs.declared.Header.{Header}
use Rattle.outer_header.specs.declared.walk.Fields.{Fields}
use Rattle.outer_header.specs.Kdbx4Header.{
  listed,
  size_rule,
  seen,
  put,
  no_fields,
  field_here,
  ends_right,
  walk_in,
  walk,
  complete,
  custom_of,
  figures_in,
  figures,
  identified,
  end_field,
  judged,
  judged_in,
  body,
  header,
}
use Rattle.outer_header.proofs.Laws.Walk.{field_here_stands}
use Rattle.places.specs.Begins.{FieldAt, FieldOf, FieldAgain, PointsTo}
use Rattle.places.proofs.Laws.FieldsAt.{
  Says,
  field_at_says,
  Met,
  met,
  met_behind,
  Known,
  known_nowhere,
  known_put,
  known_again,
  cond_again,
  value_of,
}
use Rattle.places.proofs.Laws.KdfAt as kdfs

-- what is known of the fields, at a place of the walk
record Knowns (s : List ℕ) (f : Fields) (at : ℕ) : Type 0 where
  cipher : Known s 12 2 f.cipher at
  compression : Known s 12 3 f.compression at
  seed : Known s 12 4 f.seed at
  nonce : Known s 12 7 f.nonce at
  kdf : Known s 12 11 f.kdf at
  custom : Known s 12 12 f.custom at

none_known : (s : List ℕ) (at : ℕ) → Knowns s no_fields at
unfolding no_fields
none_known s at =
    record {
      cipher = known_nowhere s 12 2 at;
      compression = known_nowhere s 12 3 at;
      seed = known_nowhere s 12 4 at;
      nonce = known_nowhere s 12 7 at;
      kdf = known_nowhere s 12 11 at;
      custom = known_nowhere s 12 12 at;
    }

put_known : (s : List ℕ) (f : Fields) (id : ℕ) (p : Place) (at : ℕ) → Knowns s f at → Met s 12 id p → at ≤ end_of p
    → Knowns s (put f id p) (end_of p)
unfolding put
put_known s f id p at k m l =
    record {
      cipher = known_put s 12 2 id p f.cipher at m l k.cipher;
      compression = known_put s 12 3 id p f.compression at m l k.compression;
      seed = known_put s 12 4 id p f.seed at m l k.seed;
      nonce = known_put s 12 7 id p f.nonce at m l k.nonce;
      kdf = known_put s 12 11 id p f.kdf at m l k.kdf;
      custom = known_put s 12 12 id p f.custom at m l k.custom;
    }

seen_again : (s : List ℕ) (f : Fields) (at : ℕ) → Knowns s f at → FieldAt s 12 at → seen f (get_or s at 0) ≡ true
    → FieldAgain s 12 at
unfolding seen
seen_again s f at k h =
    let id = get_or s at 0 in
    cond_again (eqb id 2) _ _ (λ e g. known_again s 12 2 f.cipher at k.cipher g h e)
    (cond_again (eqb id 3) _ _ (λ e g. known_again s 12 3 f.compression at k.compression g h e)
    (cond_again (eqb id 4) _ _ (λ e g. known_again s 12 4 f.seed at k.seed g h e)
    (cond_again (eqb id 7) _ _ (λ e g. known_again s 12 7 f.nonce at k.nonce g h e)
    (cond_again (eqb id 11) _ _ (λ e g. known_again s 12 11 f.kdf at k.kdf g h e)
    (cond_again (eqb id 12) _ _ (λ e g. known_again s 12 12 f.custom at k.custom g h e)
    (λ e. absurd (false≢true e)))))))

-- what is said of a walk: of its refusal, and of the fields where it ends
record Ends (s : List ℕ) (f : Fields) (end : ℕ) : Type 0 where
  known : Knowns s f (end_field end)
  end_field_is : FieldOf s 12 0 (end_field end)

abbrev WalkSays : List ℕ → Result (Fields × ℕ) Refusal → Type 0
WalkSays s (Ok (f, end)) = Ends s f end
WalkSays s (Err r) = PointsTo s r

end_size : (id n : ℕ) → fits (size_rule id) n ≡ true → id ≡ 0 → n ≡ 4
unfolding fits size_rule
end_size id n h e = eqb-true n 4 (rw e at h)

end_wrong : (s : List ℕ) (p : Place) → p.length ≡ 4 → p.start ≡ begin p + 5 → ends_right s p ≡ false
    → take 4 (drop (begin p + 5) s) ≡ 0x0D ∷ 0x0A ∷ 0x0D ∷ 0x0A ∷ []
    → ⊥
unfolding ends_right
end_wrong s p n b e q =
    let i : bytes_at s p ≡ take 4 (drop (begin p + 5) s) = ap₂ (λ (k m : ℕ). take k (drop m s)) n b in
    let r : same (bytes_at s p) (0x0D ∷ 0x0A ∷ 0x0D ∷ 0x0A ∷ []) ≡ true =
    subst (λ (l : List ℕ). same (bytes_at s p) l ≡ true) (i ∙ q) (same_refl (bytes_at s p)) in
    let z : ◌≡◌ {A = ℕ} 0 1 = cc in omega arith

walk_in_says : (f : Fields) (s : List ℕ) (at : ℕ) (e : Result (ℕ × Place) Refusal) (rest : Fields → ℕ → Result (Fields × ℕ) Refusal) → field_here f s at ≡ e
    → Says (PointsTo s) (size_rule (get_or s at 0)) s at e
    → FieldAt s 12 at
    → Knowns s f at
    → ((g : Fields) (n : ℕ) → FieldAt s 12 n → Knowns s g n → WalkSays s (rest g n))
    → WalkSays s (walk_in f s e rest)
unfolding walk_in
walk_in_says f s at (Err r) rest q l a k h = l
walk_in_says f s at (Ok (id, p)) rest q l a k h =
    let x = field_here_stands f s at id p q in
    let m = met s 12 at id p a x l.size_is in
    by_bool (eqb id 0)
    (λ t.
    let z : id ≡ 0 = eqb-true id 0 t in
    let n : p.length ≡ 4 = end_size (get_or s at 0) p.length l.fits_rule (sym x.id_is ∙ z) in
    let o : FieldOf s 12 0 (begin p) = subst (λ (i : ℕ). FieldOf s 12 i (begin p)) z m.field in
    by_bool (ends_right s p)
    (λ u.
    let b : begin p ≡ end_field (end_of p) = omega (arith, n) in
    let y : at ≡ end_field (end_of p) = omega (arith, n, x.start_is) in
    rw (t, u) (record { known = subst (Knowns s f) y k; end_field_is = subst (FieldOf s 12 0) b o }))
    (λ u. rw (t, u) (PointsTo.end_bytes (begin p) o (end_wrong s p n m.start_is u))))
    (λ t. rw t (h (put f id p) (end_of p) (met_behind s 12 id p m (omega (arith, eqb-false id 0 t)))
    (put_known s f id p at k m (omega (arith, x.start_is)))))

walk_says : (k : ℕ) (f : Fields) (s : List ℕ) (at : ℕ) → FieldAt s 12 at → Knowns s f at → WalkSays s (walk k f s at)
unfolding walk field_here
walk_says zero f s at a d = PointsTo.cut_short
walk_says (suc k) f s at a d =
    let id = get_or s at 0 in
    walk_in_says f s at (field_here f s at) (λ (g : Fields) (n : ℕ). walk k g s n) refl
    (field_at_says (PointsTo s) (size_rule id) s at PointsTo.cut_short (λ w. PointsTo.size at a w) (listed id) (seen f id)
    (λ e. PointsTo.unknown_field at a e)
    (λ e. PointsTo.repeated_field at (seen_again s f at d a e)))
    a d
    (λ g n b x. walk_says k g s n b x)

-- nothing is said of an accepted header
abbrev Points : List ℕ → Result Header Refusal → Type 0
Points s (Ok h) = Unit
Points s (Err r) = PointsTo s r

-- all fields but the custom dictionary are given
record Complete (f : Fields) : Type 0 where
  cipher : given f.cipher ≡ true
  compression : given f.compression ≡ true
  nonce : given f.nonce ≡ true
  kdf : given f.kdf ≡ true

complete_given : (f : Fields) → complete f ≡ true → Complete f
unfolding complete
complete_given f e =
    let a = and_true (given f.cipher) _ e in
    let b = and_true (given f.compression) _ a.1 in
    let c = and_true (given f.seed) _ b.1 in
    let d = and_true (given f.nonce) _ c.1 in
    record { cipher = a.0; compression = b.0; nonce = d.0; kdf = d.1 }

module _ (s : List ℕ) (f : Fields) (minor end : ℕ) (e : Ends s f end) where
  figures_in_points : (c : Cipher) (k : Result Kdf Refusal) (o : Outcome) → kdfs.Points s k → kdfs.PointsOutcome s o
      → Points s (figures_in f minor end c k o)
  unfolding figures_in
  figures_in_points c (Err r) o x y = x
  figures_in_points c (Ok k) (Err r) x y = y
  figures_in_points c (Ok k) (Ok tt) x y = tt

  identified_points : (i : Option Cipher) → cipher_of (bytes_at s f.cipher) ≡ i → Complete f
      → Points s (identified s f minor end i)
  unfolding identified figures
  identified_points None q g =
      PointsTo.cipher (begin f.cipher)
      (value_of s 2 f.cipher (λ (v : List ℕ). cipher_of v ≡ None) (e.known.cipher g.cipher).met q)
  identified_points (Some c) q g =
      let m = (e.known.compression g.compression).met in
      let n = (e.known.nonce g.nonce).met in
      by_bool (eqb (le 4 s f.compression.start) 0)
      (λ t. by_bool (eqb f.nonce.length (nonce_length c))
      (λ u. rw (t, u) (figures_in_points c (kdf_of s f.kdf) (custom_of s f.custom)
      (kdfs.kdf_of_points s f.kdf (e.known.kdf g.kdf).met)
      (kdfs.custom_of_points s f.custom (λ h. (e.known.custom h).met))))
      (λ u. rw (t, u) (PointsTo.nonce (begin f.nonce) f.nonce.length (begin f.cipher) c n.field
      n.size_is
      (value_of s 2 f.cipher (λ (v : List ℕ). cipher_of v ≡ Some c) (e.known.cipher g.cipher).met q)
      (eqb-false f.nonce.length (nonce_length c) u))))
      (λ t. rw t (PointsTo.compression (begin f.compression) m.field
      (subst (λ (i : ℕ). le 4 s i ≡ 0 → ⊥) m.start_is (eqb-false (le 4 s f.compression.start) 0 t))))

  judged_points : Points s (judged s f minor end)
  unfolding judged
  judged_points =
      by_bool (complete f)
      (λ t. rw t (identified_points (cipher_of (bytes_at s f.cipher)) refl (complete_given f t)))
      (λ t. rw t (PointsTo.absent (end_field end) e.end_field_is))

judged_in_points : (s : List ℕ) (minor : ℕ) (w : Result (Fields × ℕ) Refusal) → WalkSays s w → Points s (judged_in s minor w)
unfolding judged_in
judged_in_points s minor (Err r) l = l
judged_in_points s minor (Ok (f, end)) l = judged_points s f minor end l

body_points : (s : List ℕ) (minor : ℕ) → Points s (body s minor)
unfolding body
body_points s minor =
    judged_in_points s minor (walk (length s) no_fields s 12)
    (walk_says (length s) no_fields s 12 FieldAt.front (none_known s 12))

pub header_points : (s : List ℕ) → Points s (header s)
unfolding header
header_points s =
    by_bool (leb (length s) file_limit)
    (λ t. by_bool (ltb (length s) 12)
    (λ u. rw (t, u) PointsTo.cut_short)
    (λ u. by_bool (eqb (le 4 s 0) 0x9AA2D903)
    (λ v. by_bool (eqb (le 4 s 4) 0xB54BFB67)
    (λ w. by_bool (eqb (le 4 s 8) 0x40000)
    (λ x. rw (t, u, v, w, x) (body_points s 0))
    (λ x. by_bool (eqb (le 4 s 8) 0x40001)
    (λ y. rw (t, u, v, w, x, y) (body_points s 1))
    (λ y. rw (t, u, v, w, x, y) PointsTo.version)))
    (λ w. rw (t, u, v, w) (PointsTo.second_signature (eqb-true (le 4 s 0) 0x9AA2D903 v)
    (eqb-false (le 4 s 4) 0xB54BFB67 w))))
    (λ v. rw (t, u, v) (PointsTo.signature (eqb-false (le 4 s 0) 0x9AA2D903 v)))))
    (λ t. rw t PointsTo.too_long)
