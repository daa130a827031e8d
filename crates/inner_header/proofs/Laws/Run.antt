-- The walk over a run of attachments.
--
-- In order:
--   run_at_stands             where a field of the run stands
--   run_from_past             nothing is left
--   run_from_more             one turn
--   run_from_enough           the count of fields never ends a walk: any count that reaches the run's end gives the same
--   verdict_before           a field more changes no verdict
--   run_sound                every attachment of a sound run has its flags byte, within the run
-- Not here: the run in a payload (Laws.Payload).
-- Assumes nothing.
use mathlib.Core.Path.{◌≡◌, refl, ap}
use mathlib.Core.Bool.{false, cond}
use mathlib.Core.List.{List, [], ◌∷◌}
use Prim.Native.Nat.{ℕ, zero, suc, ◌+◌, ◌-◌, ◌≤◌, ◌<◌}
use native.Mathlib.Numerals.{sub-one}
use native.Mathlib.Omega.{arith}
use lib.Dec.{eqb, leb}
use lib.ListN.{length, get_or}
use borrow.Author.Tests.{le-leb, lt-leb, leb-true}
use Rattle.words.proofs.Laws.Cases.{by_bool}
use Rattle.fields.specs.declared.Place.{Place}
use Rattle.fields.specs.declared.SizeRule.TheVariants.{AtLeast}
use Rattle.std.specs.Prelude.{Result, Ok, Err}
use Rattle.refusals.specs.declared.Refusal.{Refusal}
use Rattle.fields.specs.Fields.{end_of, fits}
use Rattle.fields.proofs.Laws.Fields.{Stands, field_at_stands}
use Rattle.fields.proofs.Laws.Written.{field_at_passed}
use Rattle.inner_header.specs.Writer.{Run, all_fine, refused, run_at, before, run_in, run_from, run, verdict}
use Rattle.inner_header.proofs.Laws.Sound.{Within, Sound}

pub run_at_stands : (s : List ℕ) (at id : ℕ) (p : Place) → run_at s at ≡ Ok (id, p) → Stands s at id p
unfolding run_at
run_at_stands s at id p e = field_at_stands (eqb (get_or s at 0) 3) false (AtLeast 1) s at id p e

pub run_from_past : (k : ℕ) (s : List ℕ) (at : ℕ) → length s ≤ at → run_from k s at ≡ all_fine []
unfolding run_from
run_from_past zero s at h = refl
run_from_past (suc k) s at h = rw (le-leb (length s) at h)

pub run_from_more : (k : ℕ) (s : List ℕ) (at : ℕ) (e : Result (ℕ × Place) Refusal) → 0 < k → at < length s → e ≡ run_at s at
    → run_from k s at ≡ run_in e (run_from (k - 1) s)
unfolding run_from
run_from_more zero s at e h l p = absurd (omega arith)
run_from_more (suc k) s at e h l p = rw (lt-leb (length s) at l, p, sub-one)

-- two ways on from a field agree: a walk goes on at a field's end alone
run_in-agree : (e : Result (ℕ × Place) Refusal) (g h : ℕ → Run) → ((id : ℕ) (p : Place) → e ≡ Ok (id, p) → g (end_of p) ≡ h (end_of p))
    → run_in e g ≡ run_in e h
unfolding run_in
run_in-agree (Ok (id, p)) g h a = ap (λ (w : Run). before p w) (a id p refl)
run_in-agree (Err r) g h a = refl

pub run_from_enough : (k m : ℕ) (s : List ℕ) (at : ℕ) → length s ≤ k + at → length s ≤ m + at
    → run_from k s at ≡ run_from m s at
unfolding run_from
run_from_enough zero zero s at h l = refl
run_from_enough zero (suc m) s at h l =
    let p : length s ≤ at = omega arith in
    rw (le-leb (length s) at p)
run_from_enough (suc k) zero s at h l =
    let p : length s ≤ at = omega arith in
    rw (le-leb (length s) at p)
run_from_enough (suc k) (suc m) s at h l =
    ap (λ (w : Run). cond (leb (length s) at) (all_fine []) w)
    (run_in-agree (run_at s at) (run_from k s) (run_from m s)
    (λ id p e. let w = run_at_stands s at id p e in
    run_from_enough k m s (end_of p) (omega arith) (omega arith)))

pub verdict_before : (p : Place) (w : Run) → verdict (before p w) ≡ verdict w
unfolding verdict before
verdict_before p (all_fine l) = refl
verdict_before p (refused r) = refl

run_at_within : (s : List ℕ) (at id : ℕ) (p : Place) → run_at s at ≡ Ok (id, p) → Within s p
unfolding run_at fits
run_at_within s at id p e =
    let w = run_at_stands s at id p e in
    let q = field_at_passed (eqb (get_or s at 0) 3) false (AtLeast 1) s at id p e in
    record { flagged = leb-true 1 p.length q.fits_is; within = w.within }

-- nothing is said of a refusal
abbrev Kept : List ℕ → Run → Type 0
Kept s (all_fine l) = Sound s l
Kept s (refused r) = 0 ≤ 0

sound-cons : (s : List ℕ) (p : Place) (l : List Place) → Within s p → Sound s l → Sound s (p ∷ l)
sound-cons s p l w h zero b = w
sound-cons s p l w h (suc i) b = h i (omega arith)

before_kept : (s : List ℕ) (p : Place) (w : Run) → Within s p → Kept s w → Kept s (before p w)
unfolding before
before_kept s p (all_fine l) h k = sound-cons s p l h k
before_kept s p (refused r) h k = omega arith

run_in_kept : (s : List ℕ) (at : ℕ) (e : Result (ℕ × Place) Refusal) (rest : ℕ → Run) → run_at s at ≡ e → ((n : ℕ) → Kept s (rest n))
    → Kept s (run_in e rest)
unfolding run_in
run_in_kept s at (Ok (id, p)) rest e h = before_kept s p (rest (end_of p)) (run_at_within s at id p e) (h (end_of p))
run_in_kept s at (Err r) rest e h = omega arith

none_sound : (s : List ℕ) → Sound s []
none_sound s i b = absurd (omega arith)

run_from_kept : (k : ℕ) (s : List ℕ) (at : ℕ) → Kept s (run_from k s at)
unfolding run_from
run_from_kept zero s at = none_sound s
run_from_kept (suc k) s at =
    by_bool (leb (length s) at)
    (λ t. rw t (none_sound s))
    (λ t. rw t (run_in_kept s at (run_at s at) (run_from k s) refl (run_from_kept k s)))

pub run_sound : (s : List ℕ) (l : List Place) → run s ≡ all_fine l → Sound s l
unfolding run
run_sound s l e = rw e at (run_from_kept (length s) s 0)
