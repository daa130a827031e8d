-- A run that is made of attachments' values.
--
-- In order:
--   Values             each value has a flags byte, and a size that is an Int32
--   places             where the values stand
--   length-places
--   run_values         the run is sound, with these places
--   bytes_at_values     .. where the values stand
-- Not here: the run in a payload (Laws.Payload).
-- Assumes nothing.
use mathlib.Core.Path.{◌≡◌, refl, sym, ap}
use mathlib.Core.List.{List, [], ◌∷◌, ◌++◌, append_assoc, append-nil}
use Prim.Native.Nat.{ℕ, zero, suc, ◌+◌, ◌-◌, ◌^◌, ◌≤◌, ◌<◌}
use native.Mathlib.Omega.{arith}
use lib.ListN.{length, get_or, length-append}
use borrow.Author.Tests.{le-leb}
use Rattle.fields.specs.declared.Place.{Place}
use Rattle.fields.specs.declared.SizeRule.TheVariants.{AtLeast}
use Rattle.std.specs.Prelude.{Ok}
use Rattle.fields.specs.Fields.{bytes_at, fits, field_bytes, nowhere}
use Rattle.fields.proofs.Laws.Written.{length-field_bytes, id_written, bytes_at_written, length_written, field_at_written}
use Rattle.inner_header.specs.Writer.{all_fine, run_at, before, run_in, run_from, run, run_bytes}
use Rattle.inner_header.proofs.Laws.Run.{run_from_past, run_from_more}

abbrev pub Values : List (List ℕ) → Type 0
Values [] = 0 ≤ 0
Values (v ∷ vs) = (1 ≤ length v) × (length v < 2 ^ 31) × Values vs

-- the places of the values of a run from `at` on
abbrev pub places : ℕ → List (List ℕ) → List Place
places at [] = []
places at (v ∷ vs) = record { start = at + 5; length = length v } ∷ places (at + 5 + length v) vs

pub length-places : (at : ℕ) (vs : List (List ℕ)) → length (places at vs) ≡ length vs
length-places at [] = refl
length-places at (v ∷ vs) = ap suc (length-places (at + 5 + length v) vs)

length_behind : (front v : List ℕ) → length (front ++ field_bytes 3 v) ≡ length front + 5 + length v
length_behind front v = let l = length-field_bytes 3 v in simp length-append (omega arith)

run_at_written : (front v rest : List ℕ) → 1 ≤ length v → length v < 2 ^ 31
    → run_at (front ++ field_bytes 3 v ++ rest) (length front)
    ≡ Ok (3, record { start = length front + 5; length = length v })
unfolding run_at fits
run_at_written front v rest a b =
    rw (id_written front 3 v rest) (field_at_written front 3 v rest (AtLeast 1) b (le-leb 1 (length v) a))

run_from_values : (vs : List (List ℕ)) (k : ℕ) (front : List ℕ) → Values vs → length (run_bytes vs) ≤ k
    → run_from k (front ++ run_bytes vs) (length front) ≡ all_fine (places (length front) vs)
unfolding run_in before
run_from_values [] k front w h =
    let l : length (front ++ []) ≤ length front = rw append-nil (omega arith) in
    run_from_past k (front ++ []) (length front) l
run_from_values (v ∷ vs) k front w h =
    let s = front ++ field_bytes 3 v ++ run_bytes vs in
    let l = length_written front 3 v (run_bytes vs) in
    let n = length-append (field_bytes 3 v) (run_bytes vs) in
    let m = length-field_bytes 3 v in
    let b = length_behind front v in
    let p = run_at_written front v (run_bytes vs) w.0 w.1 in
    let g =
    run_from_more k s (length front) (Ok (3, record { start = length front + 5; length = length v })) (omega arith)
    (omega arith)
    (sym p) in
    let e : run_from (k - 1) s (length front + 5 + length v) ≡ all_fine (places (length front + 5 + length v) vs) =
    rw b at (run_from_values vs (k - 1) (front ++ field_bytes 3 v) w.2 (omega arith)) in
    rw (← append_assoc front (field_bytes 3 v) (run_bytes vs)) (rw e at g)

pub run_values : (vs : List (List ℕ)) → Values vs → run (run_bytes vs) ≡ all_fine (places 0 vs)
unfolding run
run_values vs w = run_from_values vs (length (run_bytes vs)) [] w (omega arith)

bytes_at_from : (vs : List (List ℕ)) (front : List ℕ) (i : ℕ) → i < length vs
    → bytes_at (front ++ run_bytes vs) (get_or (places (length front) vs) i nowhere) ≡ get_or vs i []
bytes_at_from [] front i h = absurd (omega arith)
bytes_at_from (v ∷ vs) front zero h =
    rw (← append_assoc front (field_bytes 3 v) (run_bytes vs)) (bytes_at_written front 3 v (run_bytes vs))
bytes_at_from (v ∷ vs) front (suc i) h =
    rw (← append_assoc front (field_bytes 3 v) (run_bytes vs))
    (rw (length_behind front v) at (bytes_at_from vs (front ++ field_bytes 3 v) i (omega arith)))

pub bytes_at_values : (vs : List (List ℕ)) (i : ℕ) → i < length vs
    → bytes_at (run_bytes vs) (get_or (places 0 vs) i nowhere) ≡ get_or vs i []
bytes_at_values vs i h = bytes_at_from vs [] i h
