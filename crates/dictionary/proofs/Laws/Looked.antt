-- What a lookup leaves, by what the name is found as.
--
-- In order: looked_at (the name is there), looked_absent (it is not), looked_refused (the dictionary is refused);
-- told_inj (what is told and shown leaves nothing open of what the name is found as).
-- Assumes nothing.
use mathlib.Core.Path.{◌≡◌, refl, ap, ◌∙◌}
use mathlib.Core.Bool.{true, false}
use mathlib.Core.List.{List}
use Prim.Native.Nat.{ℕ, min}
use native.Mathlib.Omega.{arith}
use lib.ListN.{length}
use denote.Ref.{Bor}
use Rattle.slices.specs.Stretch.{Stretch, behind}
use Rattle.refusals.specs.Numbers.{of_refusal, place_of}
use Rattle.refusals.specs.declared.Refusal.{Refusal}
use Rattle.refusals.proofs.Laws.Numbers.{of_refusal_inj, of_refusal_positive}
use Rattle.std.specs.Prelude.{Option, Some, None, Result, Ok, Err}
use Rattle.dictionary.specs.declared.Value.{Value}
use Rattle.dictionary.specs.Dictionary.{find, shown, lookup}
use Rattle.dictionary.specs.Lookup.{Told, told, Looked}
use Rattle.dictionary.proofs.Laws.Find.{find_within}

module _ (d name r : Bor (List ℕ)) where
  -- nothing is shown at the front
  front : Stretch d 0 0 r → r.ref_ptr ≡ behind 0 d.ref_ptr
  front s =
      let m : min 0 (length d.now) ≡ 0 = omega arith in
      s.place ∙ ap (λ (k : ℕ). behind k d.ref_ptr) m

  pub looked_at : (kind start n : ℕ) → find d.now name.now ≡ Ok (Some (record { kind = kind; start = start; length = n })) → Stretch d start n r
      → Looked d name r 0 0 true kind
  unfolding lookup shown told
  looked_at kind start n e s =
      let w = find_within d.now name.now kind start n e in
      let m : min start (length d.now) ≡ start = omega arith in
      record {
        bytes = rw e s.bytes;
        lies = rw e (s.place ∙ ap (λ (k : ℕ). behind k d.ref_ptr) m);
        number_is = rw e;
        place_is = rw e;
        found_is = rw e;
        kind_is = rw e;
      }

  pub looked_absent : find d.now name.now ≡ Ok None → Stretch d 0 0 r → Looked d name r 0 0 false 0
  unfolding lookup shown told
  looked_absent e s =
      record {
        bytes = rw e s.bytes;
        lies = rw e (front s);
        number_is = rw e;
        place_is = rw e;
        found_is = rw e;
        kind_is = rw e;
      }

  pub looked_refused : (x : Refusal) {number place : ℕ} → find d.now name.now ≡ Err x → number ≡ of_refusal x
      → place ≡ place_of x → Stretch d 0 0 r → Looked d name r number place false 0
  unfolding lookup shown told
  looked_refused x e n p s =
      record {
        bytes = rw e s.bytes;
        lies = rw e (front s);
        number_is = rw e n;
        place_is = rw e p;
        found_is = rw e;
        kind_is = rw e;
      }

-- the length of what is shown of a name that is found
abbrev size_of : Result (Option Value) Refusal → ℕ
size_of (Ok (Some v)) = v.length
size_of (Ok None) = 0
size_of (Err x) = 0

-- what is told, with the stretch that is shown, leaves nothing open: found, empty or not, absent and refused differ
pub told_inj : (f g : Result (Option Value) Refusal) → told f ≡ told g → size_of f ≡ size_of g → f ≡ g
unfolding told
told_inj (Ok (Some v)) (Ok (Some w)) e h =
    ap (λ (x : ℕ). Ok (Some (record { kind = x; start = v.start; length = v.length }))) (ap (λ (x : Told). x.kind) e)
    ∙ ap (λ (x : ℕ). Ok (Some (record { kind = w.kind; start = x; length = v.length }))) (ap (λ (x : Told). x.start) e)
    ∙ ap (λ (x : ℕ). Ok (Some (record { kind = w.kind; start = w.start; length = x }))) h
told_inj (Ok (Some v)) (Ok None) e h =
    let p : true ≡ false = ap (λ (x : Told). x.found) e in
    let z : ◌≡◌ {A = ℕ} 0 1 = cc in absurd (omega arith)
told_inj (Ok (Some v)) (Err y) e h =
    let p : true ≡ false = ap (λ (x : Told). x.found) e in
    let z : ◌≡◌ {A = ℕ} 0 1 = cc in absurd (omega arith)
told_inj (Ok None) (Ok (Some v)) e h =
    let p : false ≡ true = ap (λ (x : Told). x.found) e in
    let z : ◌≡◌ {A = ℕ} 0 1 = cc in absurd (omega arith)
told_inj (Ok None) (Ok None) e h = refl
told_inj (Ok None) (Err y) e h =
    let p : 0 ≡ of_refusal y = ap (λ (x : Told). x.number) e in
    let l = of_refusal_positive y in
    absurd (omega arith)
told_inj (Err x) (Ok (Some v)) e h =
    let p : false ≡ true = ap (λ (x : Told). x.found) e in
    let z : ◌≡◌ {A = ℕ} 0 1 = cc in absurd (omega arith)
told_inj (Err x) (Ok None) e h =
    let p : of_refusal x ≡ 0 = ap (λ (x : Told). x.number) e in
    let l = of_refusal_positive x in
    absurd (omega arith)
told_inj (Err x) (Err y) e h =
    ap Err (of_refusal_inj x y (ap (λ (x : Told). x.number) e) (ap (λ (x : Told). x.place) e))
