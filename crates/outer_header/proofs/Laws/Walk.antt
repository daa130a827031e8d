-- The walk over the fields of an outer header.
--
-- In order:
--   field_here_stands    a field that is found, and its value within the file
--   field_here-fits      its size fits the rule of its ID
--   walk_more           one turn of the walk
--   walk_enough         the count of fields never ends a walk: any count that reaches the file's end gives the same
--   body_count          .. so that whatever the file, its length and every larger count give one answer
--   Placed              values that end before a place, with the sizes that later steps lean on
--   no_fields-placed, put_placed    where no field came yet, and with one more
--   IsEnded, walk_ends  what a walk up to the end field keeps to
-- Not here: fields in general (crate fields).
-- Assumes nothing.
use mathlib.Core.Path.{◌≡◌, refl, ap}
use mathlib.Core.Bool.{Bool, true, false, cond}
use mathlib.Core.List.{List}
use Prim.Native.Nat.{ℕ, zero, suc, ◌+◌, ◌-◌, ◌≤◌, ◌<◌}
use native.Mathlib.Omega.{arith}
use native.Mathlib.Numerals.{sub-one}
use lib.Dec.{eqb, leb}
use lib.ListN.{length, get_or}
use borrow.Author.Tests.{eqb-true, lt-leb}
use Rattle.words.specs.Endian.{le}
use Rattle.words.specs.Size.{int32}
use Rattle.std.specs.Prelude.{Option, Some, None, Result, Ok, Err}
use Rattle.words.proofs.Laws.Cases.{by_bool}
use Rattle.refusals.specs.declared.Refusal.TheVariants.{CutShort, WrongSize}
use Rattle.fields.specs.Fields.{end_of, begin, fits, value_at, field_at, given}
use Rattle.fields.specs.declared.Place.{Place}
use Rattle.fields.specs.declared.SizeRule.{SizeRule}
use Rattle.refusals.specs.declared.Refusal.{Refusal}
use Rattle.fields.proofs.Laws.Fields.{Stands, field_at_stands}
use Rattle.outer_header.specs.declared.walk.Fields.{Fields}
use Rattle.outer_header.specs.Kdbx4Header.{
  listed,
  size_rule,
  seen,
  put,
  no_fields,
  field_here,
  ends_right,
  walk_in,
  walk,
  judged_in,
  body,
}

pub field_here_stands : (f : Fields) (s : List ℕ) (at id : ℕ) (p : Place) → field_here f s at ≡ Ok (id, p)
    → Stands s at id p
unfolding field_here
field_here_stands f s at id p e =
    field_at_stands (listed (get_or s at 0)) (seen f (get_or s at 0)) (size_rule (get_or s at 0)) s at id p e

-- a size that fits; nothing is said of a refusal
abbrev Fitting : SizeRule → Result (ℕ × Place) Refusal → Type 0
Fitting rule (Ok (id, p)) = fits rule p.length ≡ true
Fitting rule (Err r) = 0 ≤ 0

value_at-fitting : (rule : SizeRule) (s : List ℕ) (at : ℕ) (z : Option ℕ) → Fitting rule (value_at rule s at z)
unfolding value_at
value_at-fitting rule s at None = omega arith
value_at-fitting rule s at (Some n) =
    by_bool (fits rule n)
    (λ t. by_bool (leb n (length s - (at + 5))) (λ u. rw (t, u) t) (λ u. rw (t, u) (omega arith)))
    (λ t. rw t (omega arith))

field_at-fitting : (l r : Bool) (rule : SizeRule) (s : List ℕ) (at : ℕ) → Fitting rule (field_at l r rule s at)
unfolding field_at
field_at-fitting l r rule s at =
    by_bool (leb (at + 5) (length s))
    (λ t. by_bool l
    (λ u. by_bool r
    (λ v. rw (t, u, v) (omega arith))
    (λ v. rw (t, u, v) (value_at-fitting rule s at (int32 (le 4 s (at + 1))))))
    (λ u. rw (t, u) (omega arith)))
    (λ t. rw t (omega arith))

pub field_here-fits : (f : Fields) (s : List ℕ) (at id : ℕ) (p : Place) → field_here f s at ≡ Ok (id, p)
    → fits (size_rule id) p.length ≡ true
unfolding field_here
field_here-fits f s at id p e =
    let h : fits (size_rule (get_or s at 0)) p.length ≡ true =
    rw e at (field_at-fitting (listed (get_or s at 0)) (seen f (get_or s at 0)) (size_rule (get_or s at 0)) s at) in
    rw (field_here_stands f s at id p e).id_is h

pub walk_more : (k : ℕ) (f : Fields) (s : List ℕ) (at : ℕ) (e : Result (ℕ × Place) Refusal) → 0 < k → e ≡ field_here f s at
    → walk k f s at ≡ walk_in f s e (λ (g : Fields) (n : ℕ). walk (k - 1) g s n)
unfolding walk
walk_more zero f s at e h p = absurd (omega arith)
walk_more (suc k) f s at e h p = rw (p, sub-one)

-- nothing stands behind the end
field_here_past : (f : Fields) (s : List ℕ) (at : ℕ) → length s ≤ at
    → field_here f s at ≡ Err (CutShort (length s))
unfolding field_here field_at
field_here_past f s at h =
    let l : length s < at + 5 = omega arith in
    rw (lt-leb (at + 5) (length s) l)

-- two ways on from a field agree: a walk goes on at a field's end alone
walk_in-agree : (f : Fields) (s : List ℕ) (e : Result (ℕ × Place) Refusal) (g h : Fields → ℕ → Result (Fields × ℕ) Refusal)
    → ((id : ℕ) (p : Place) → e ≡ Ok (id, p) → g (put f id p) (end_of p) ≡ h (put f id p) (end_of p))
    → walk_in f s e g ≡ walk_in f s e h
unfolding walk_in
walk_in-agree f s (Err r) g h a = refl
walk_in-agree f s (Ok (id, p)) g h a =
    ap (λ (w : Result (Fields × ℕ) Refusal). cond (eqb id 0)
    (cond (ends_right s p) (Ok (f, end_of p)) (Err (WrongSize (begin p)))) w) (a id p refl)

pub walk_enough : (k m : ℕ) (f : Fields) (s : List ℕ) (at : ℕ) → length s ≤ k + at → length s ≤ m + at
    → walk k f s at ≡ walk m f s at
unfolding walk walk_in
walk_enough zero zero f s at h l = refl
walk_enough zero (suc m) f s at h l =
    let p : length s ≤ at = omega arith in
    rw (field_here_past f s at p)
walk_enough (suc k) zero f s at h l =
    let p : length s ≤ at = omega arith in
    rw (field_here_past f s at p)
walk_enough (suc k) (suc m) f s at h l =
    walk_in-agree f s (field_here f s at) (λ (g : Fields) (n : ℕ). walk k g s n)
    (λ (g : Fields) (n : ℕ). walk m g s n)
    (λ id p e. let w = field_here_stands f s at id p e in
    walk_enough k m (put f id p) s (end_of p) (omega arith) (omega arith))

pub body_count : (s : List ℕ) (minor k : ℕ) → length s ≤ k → body s minor ≡ judged_in s minor (walk k no_fields s 12)
unfolding body
body_count s minor k h = ap (judged_in s minor) (walk_enough (length s) k no_fields s 12 (omega arith) (omega arith))

-- the values end before a place; the compression has four bytes there, and a seed has 32
pub record Placed (f : Fields) (at : ℕ) : Type 0 where
  pub cipher_le : end_of f.cipher ≤ at
  pub compression_le : f.compression.start + 4 ≤ at
  pub seed_le : end_of f.seed ≤ at
  pub nonce_le : end_of f.nonce ≤ at
  pub kdf_le : end_of f.kdf ≤ at
  pub custom_le : end_of f.custom ≤ at
  pub seed_size : given f.seed ≡ true → f.seed.length ≡ 32

pub no_fields-placed : (at : ℕ) → 4 ≤ at → Placed no_fields at
unfolding no_fields
no_fields-placed at h =
    record {
      cipher_le = omega arith;
      compression_le = h;
      seed_le = omega arith;
      nonce_le = omega arith;
      kdf_le = omega arith;
      custom_le = omega arith;
      seed_size = λ e. let z : ◌≡◌ {A = ℕ} 0 1 = cc in absurd (omega arith);
    }

placed_further : (f : Fields) (at n : ℕ) → at ≤ n → Placed f at → Placed f n
placed_further f at n h d =
    record {
      cipher_le = omega arith;
      compression_le = omega arith;
      seed_le = omega arith;
      nonce_le = omega arith;
      kdf_le = omega arith;
      custom_le = omega arith;
      seed_size = d.seed_size;
    }

module _ (p q : Place) (n : ℕ) where
  end_either : (b : Bool) → end_of p ≤ n → end_of q ≤ n → end_of (cond b p q) ≤ n
  end_either true h l = h
  end_either false h l = l

  four_either : (b : Bool) → (b ≡ true → p.start + 4 ≤ n) → q.start + 4 ≤ n → (cond b p q).start + 4 ≤ n
  four_either true h l = h refl
  four_either false h l = l

  size_either : (b : Bool) → (b ≡ true → p.length ≡ n) → (given q ≡ true → q.length ≡ n) → given (cond b p q) ≡ true
      → (cond b p q).length ≡ n
  size_either true h l e = h refl
  size_either false h l e = l e

compression_size : (id n : ℕ) → fits (size_rule id) n ≡ true → eqb id 3 ≡ true → n ≡ 4
unfolding fits size_rule
compression_size id n h t = let e : id ≡ 3 = eqb-true id 3 t in eqb-true n 4 (rw e at h)

seed_size : (id n : ℕ) → fits (size_rule id) n ≡ true → eqb id 4 ≡ true → n ≡ 32
unfolding fits size_rule
seed_size id n h t = let e : id ≡ 4 = eqb-true id 4 t in eqb-true n 32 (rw e at h)

pub put_placed : (f : Fields) (id : ℕ) (p : Place) (at : ℕ) → Placed f at → at ≤ end_of p
    → fits (size_rule id) p.length ≡ true
    → Placed (put f id p) (end_of p)
unfolding put
put_placed f id p at d h e =
    record {
      cipher_le = end_either p f.cipher (end_of p) (eqb id 2) (omega arith) (omega arith);
      compression_le =
          four_either p f.compression (end_of p) (eqb id 3)
          (λ t. let n = compression_size id p.length e t in omega arith) (omega arith);
      seed_le = end_either p f.seed (end_of p) (eqb id 4) (omega arith) (omega arith);
      nonce_le = end_either p f.nonce (end_of p) (eqb id 7) (omega arith) (omega arith);
      kdf_le = end_either p f.kdf (end_of p) (eqb id 11) (omega arith) (omega arith);
      custom_le = end_either p f.custom (end_of p) (eqb id 12) (omega arith) (omega arith);
      seed_size = size_either p f.seed 32 (eqb id 4) (seed_size id p.length e) d.seed_size;
    }

-- what a walk from `at` up to the end field keeps to
pub record IsEnded (s : List ℕ) (at : ℕ) (f : Fields) (end : ℕ) : Type 0 where
  pub placed : Placed f end
  pub far : at + 5 ≤ end
  pub within : end ≤ length s

-- nothing is said of a refusal
abbrev Ended : List ℕ → ℕ → Result (Fields × ℕ) Refusal → Type 0
Ended s at (Ok (f, end)) = IsEnded s at f end
Ended s at (Err r) = 0 ≤ 0

ended_before : (s : List ℕ) (at n : ℕ) (w : Result (Fields × ℕ) Refusal) → at ≤ n → Ended s n w → Ended s at w
ended_before s at n (Ok (f, end)) h d = record { placed = d.placed; far = omega arith; within = d.within }
ended_before s at n (Err r) h d = d

walk_in_ended : (f : Fields) (s : List ℕ) (at : ℕ) (e : Result (ℕ × Place) Refusal) (rest : Fields → ℕ → Result (Fields × ℕ) Refusal) → field_here f s at ≡ e
    → Placed f at
    → ((g : Fields) (n : ℕ) → Placed g n → Ended s n (rest g n))
    → Ended s at (walk_in f s e rest)
unfolding walk_in
walk_in_ended f s at (Err r) rest q d h = omega arith
walk_in_ended f s at (Ok (id, p)) rest q d h =
    let x = field_here_stands f s at id p q in
    let l : at ≤ end_of p = omega arith in
    by_bool (eqb id 0)
    (λ t. by_bool (ends_right s p)
    (λ u. rw (t, u) (record {
      placed = placed_further f at (end_of p) l d;
      far = omega arith;
      within = x.within;
    }))
    (λ u. rw (t, u) (omega arith)))
    (λ t. rw t (ended_before s at (end_of p) (rest (put f id p) (end_of p)) l
    (h (put f id p) (end_of p) (put_placed f id p at d l (field_here-fits f s at id p q)))))

walk_ended : (k : ℕ) (f : Fields) (s : List ℕ) (at : ℕ) → Placed f at → Ended s at (walk k f s at)
unfolding walk
walk_ended zero f s at d = omega arith
walk_ended (suc k) f s at d =
    walk_in_ended f s at (field_here f s at) (λ (g : Fields) (n : ℕ). walk k g s n) refl d
    (λ g n x. walk_ended k g s n x)

pub walk_ends : (k : ℕ) (f : Fields) (s : List ℕ) (at : ℕ) (g : Fields) (end : ℕ) → Placed f at
    → walk k f s at ≡ Ok (g, end)
    → IsEnded s at g end
walk_ends k f s at g end d e = rw e at (walk_ended k f s at d)
