-- The walk over a payload that is written.
--
-- In order:
--   field_of_written      a field that is written, read in its place
--   placed, attached     the run's places in the payload; fields with more attachments
--   length-placed, get_or-placed
--   run_inside           the walk passes over a run as the run's own walk does
--   length-payload_bytes  how long a payload is
--   key-payload, algorithm_payload, document_payload    the key, the algorithm and the document stand in their places
--   walk-payload         all fields of a payload
-- Not here: the reader's answers (RoundTrip).
-- Assumes nothing.
use mathlib.Core.Path.{◌≡◌, refl, sym, ap, ◌∙◌}
use mathlib.Core.Bool.{true, false}
use mathlib.Core.List.{List, [], ◌∷◌, ◌++◌, append_assoc, append-nil}
use Prim.Native.Nat.{ℕ, zero, suc, ◌+◌, ◌%◌, ◌^◌, ◌≤◌, ◌<◌}
use native.Mathlib.Nat.{add_assoc, add-zero}
use native.Mathlib.Omega.{arith}
use lib.Dec.{eqb, leb}
use lib.ListN.{length, get_or, take, drop, length-append}
use lib.Seq.{drop_at}
use borrow.Author.Tests.{eqb-true, leb-true}
use Rattle.words.specs.Endian.{le, le_bytes}
use Rattle.words.proofs.Laws.Cases.{by_bool}
use Rattle.words.proofs.Laws.Endian.{le-drop, le-take, le-le_bytes, length-le_bytes}
use Rattle.fields.specs.declared.Place.{Place}
use Rattle.fields.specs.declared.SizeRule.TheVariants.{AtLeast}
use Rattle.std.specs.Prelude.{Result, Ok, Err}
use Rattle.refusals.specs.declared.Refusal.{Refusal}
use Rattle.fields.specs.Fields.{bytes_at, end_of, fits, field_bytes, nowhere}
use Rattle.fields.proofs.Laws.Written.{
  length-field_bytes,
  id_written,
  bytes_at_written,
  field_at_written,
  field_at_passed,
  further,
  get_or_inside,
  field_at_inside,
}
use Rattle.inner_header.specs.InnerHeader.{Fields, no_fields, listed, rule_of, repeated, field_of, put, ended}
use Rattle.inner_header.specs.Writer.{Run, all_fine, refused, run_at, before, run_in, run_from, payload_bytes}
use Rattle.inner_header.proofs.Laws.Walk.{from, walk_next, walk_end}
use Rattle.inner_header.proofs.Laws.Run.{run_at_stands}

pub field_of_written : (a k : Place) (front : List ℕ) (id : ℕ) (value rest : List ℕ) (at : ℕ) → length front ≡ at
    → listed id ≡ true → repeated a k id ≡ false → fits (rule_of id) (length value) ≡ true → length value < 2 ^ 31
    → field_of a k (front ++ field_bytes id value ++ rest) at
    ≡ Ok (id, record { start = at + 5; length = length value })
unfolding field_of
field_of_written a k front id value rest at n l r f h =
    rw (← n, id_written front id value rest, l, r) (field_at_written front id value rest (rule_of id) h f)

-- the run's places, in a payload that has n bytes before the run
abbrev pub placed : ℕ → List Place → List Place
placed n [] = []
placed n (p ∷ l) = further n p ∷ placed n l

pub length-placed : (n : ℕ) (l : List Place) → length (placed n l) ≡ length l
length-placed n [] = refl
length-placed n (p ∷ l) = ap suc (length-placed n l)

pub get_or-placed : (n : ℕ) (l : List Place) (i : ℕ) → i < length l
    → get_or (placed n l) i nowhere ≡ further n (get_or l i nowhere)
get_or-placed n [] i h = absurd (omega arith)
get_or-placed n (p ∷ l) zero h = refl
get_or-placed n (p ∷ l) (suc i) h = get_or-placed n l i (omega arith)

-- the fields with more attachments
abbrev pub attached : Fields → List Place → Fields
attached f l = record { algorithm = f.algorithm; key = f.key; attachments = f.attachments ++ l }

attached-nil : (f : Fields) → attached f [] ≡ f
attached-nil f = rw append-nil

attached_more : (f : Fields) (p : Place) (l : List Place) → attached (put f 3 p) l ≡ attached f (p ∷ l)
unfolding put
attached_more f p l = rw (append_assoc f.attachments (p ∷ []) l)

module _ (front s rest : List ℕ) where
  -- a field of the run is one of the payload
  run_at_inside : (f : Fields) (at id : ℕ) (p : Place) → run_at s at ≡ Ok (id, p)
      → (id ≡ 3)
      × (field_of f.algorithm f.key (front ++ s ++ rest) (length front + at)
      ≡ Ok (3, further (length front) p))
  unfolding run_at field_of repeated rule_of
  run_at_inside f at id p e =
      let w = run_at_stands s at id p e in
      let q = field_at_passed (eqb (get_or s at 0) 3) false (AtLeast 1) s at id p e in
      let g : get_or s at 0 ≡ 3 = eqb-true (get_or s at 0) 3 q.listed_is in
      let d : id ≡ 3 = w.id_is ∙ g in
      let b : at < length s = omega arith in
      let i : get_or (front ++ s ++ rest) (length front + at) 0 ≡ 3 = get_or_inside front s rest at b ∙ g in
      (d, rw i (field_at_inside front s rest true false (AtLeast 1) at 3 p (rw (d, g) at e)))

  abbrev Over : Fields → ℕ → List Place → Type 0
  Over f at l =
      from f (front ++ s ++ rest) (length front + at)
      ≡ from (attached f (placed (length front) l)) (front ++ s ++ rest) (length front + length s)

  over_none : (f : Fields) (at : ℕ) (l : List Place) → at ≡ length s → all_fine [] ≡ all_fine l → Over f at l
  over_none f at l e g =
      let z : l ≡ [] = cc in
      rw (z, attached-nil f, e)

  over_more : (f : Fields) (at id : ℕ) (p : Place) (l m : List Place) → run_at s at ≡ Ok (id, p)
      → all_fine (p ∷ m) ≡ all_fine l
      → ((g : Fields) → Over g (end_of p) m)
      → Over f at l
  over_more f at id p l m e g h =
      let z : l ≡ p ∷ m = cc in
      let b = length front in
      let q = run_at_inside f at id p e in
      walk_next f (front ++ s ++ rest) (b + at) 3 (further b p) q.1 refl
      ∙ ap (λ (n : ℕ). from (put f 3 (further b p)) (front ++ s ++ rest) n) (add_assoc b p.start p.length)
      ∙ h (put f 3 (further b p))
      ∙ ap (λ (x : Fields). from x (front ++ s ++ rest) (b + length s))
      (rw z (attached_more f (further b p) (placed b m)))

  -- the rest of the run, by what its walk gave
  over_rest : (f : Fields) (at id : ℕ) (p : Place) (l : List Place) (w : Run) → run_at s at ≡ Ok (id, p)
      → before p w ≡ all_fine l
      → ((m : List Place) → w ≡ all_fine m → (g : Fields) → Over g (end_of p) m)
      → Over f at l
  unfolding before
  over_rest f at id p l (all_fine m) e g h = over_more f at id p l m e g (h m refl)
  over_rest f at id p l (refused r) e g h = let z : ◌≡◌ {A = ℕ} 0 1 = cc in absurd (omega arith)

  over_field : (f : Fields) (at k : ℕ) (l : List Place) (e : Result (ℕ × Place) Refusal) → run_at s at ≡ e → run_in e (run_from k s) ≡ all_fine l
      → ((id : ℕ) (p : Place) → e ≡ Ok (id, p) → (m : List Place) → run_from k s (end_of p) ≡ all_fine m → (g : Fields)
      → Over g (end_of p) m)
      → Over f at l
  unfolding run_in
  over_field f at k l (Ok (id, p)) e g h = over_rest f at id p l (run_from k s (end_of p)) e g (h id p refl)
  over_field f at k l (Err r) e g h = let z : ◌≡◌ {A = ℕ} 0 1 = cc in absurd (omega arith)

  pub run_inside : (k : ℕ) (f : Fields) (at : ℕ) (l : List Place) → at ≤ length s → length s ≤ k + at
      → run_from k s at ≡ all_fine l → Over f at l
  unfolding run_from
  run_inside zero f at l a b e = over_none f at l (omega arith) e
  run_inside (suc k) f at l a b e =
      by_bool (leb (length s) at)
      (λ t. let h = leb-true (length s) at t in
      over_none f at l (omega arith) (rw t at e))
      (λ t. over_field f at k l (run_at s at) refl (rw t at e)
      (λ id p q m w g. let z = run_at_stands s at id p q in
      run_inside k g (end_of p) m (omega arith) (omega arith) w))

module _ (algorithm : ℕ) (key s document : List ℕ) where
  abbrev pub number : List ℕ
  number = field_bytes 1 (le_bytes 4 algorithm)

  abbrev pub secret : List ℕ
  secret = field_bytes 2 key

  abbrev pub end : List ℕ
  end = field_bytes 0 []

  abbrev pub whole : List ℕ
  whole = payload_bytes algorithm key s document

  length-number : length number ≡ 9
  length-number = let l = length-field_bytes 1 (le_bytes 4 algorithm) in let m = length-le_bytes 4 algorithm in omega arith

  pub length_front : length (number ++ secret) ≡ 14 + length key
  length_front =
      let l = length-number in
      let m = length-field_bytes 2 key in
      simp length-append (omega arith)

  pub length-payload_bytes : length whole ≡ 19 + length key + length s + length document
  unfolding payload_bytes
  length-payload_bytes =
      let l = length_front in
      let m = length-field_bytes 0 [] in
      let n = length-append number secret in
      simp length-append (omega arith)

  -- the payload around each of its parts
  around_number : whole ≡ [] ++ number ++ (secret ++ (s ++ (end ++ document)))
  unfolding payload_bytes
  around_number = simp append_assoc

  around_key : whole ≡ number ++ secret ++ (s ++ (end ++ document))
  unfolding payload_bytes
  around_key = simp append_assoc

  pub around_run : whole ≡ (number ++ secret) ++ s ++ (end ++ document)
  unfolding payload_bytes
  around_run = simp append_assoc

  around_end : whole ≡ (number ++ secret ++ s) ++ end ++ document
  unfolding payload_bytes
  around_end = refl

  abbrev pub number_place : Place
  number_place = record { start = 5; length = 4 }

  abbrev pub key_place : Place
  key_place = record { start = 14; length = length key }

  -- the fields of a payload whose run has the places l
  abbrev pub payload_fields : List Place → Fields
  payload_fields l = record { algorithm = number_place; key = key_place; attachments = placed (14 + length key) l }

  pub key-payload : bytes_at whole key_place ≡ key
  key-payload =
      ap (λ (x : List ℕ). bytes_at x key_place) around_key
      ∙ (rw length-number at (bytes_at_written number 2 key (s ++ (end ++ document))))

  pub algorithm_payload : algorithm < 2 ^ 32 → le 4 whole 5 ≡ algorithm
  algorithm_payload h =
      let m : algorithm % 256 ^ 4 ≡ algorithm = omega arith in
      let b =
      rw (length-le_bytes 4 algorithm) at
      (bytes_at_written [] 1 (le_bytes 4 algorithm) (secret ++ (s ++ (end ++ document)))) in
      sym (le-drop 5 4 whole 0) ∙ sym (le-take 4 4 (drop 5 whole) 0 (omega arith))
      ∙ ap (λ (x : List ℕ). le 4 (take 4 (drop 5 x)) 0) around_number
      ∙ ap (λ (x : List ℕ). le 4 x 0) b ∙ le-le_bytes 4 algorithm ∙ m

  -- the field of the algorithm, and no other
  abbrev first : Fields
  first = record { algorithm = number_place; key = nowhere; attachments = [] }

  abbrev second : Fields
  second = record { algorithm = number_place; key = key_place; attachments = [] }

  walk-number : from no_fields whole 0 ≡ from first whole 9
  unfolding put repeated rule_of fits
  walk-number =
      let n = length-le_bytes 4 algorithm in
      let f : fits (rule_of 1) (length (le_bytes 4 algorithm)) ≡ true = rw n in
      walk_next no_fields whole 0 1 number_place
      (ap (λ (x : List ℕ). field_of nowhere nowhere x 0) around_number
      ∙ (rw n at
      (field_of_written nowhere nowhere [] 1 (le_bytes 4 algorithm) (secret ++ (s ++ (end ++ document))) 0 refl refl refl
      f
      (omega arith))))
      refl

  walk-key : length key < 2 ^ 31 → from first whole 9 ≡ from second whole (14 + length key)
  unfolding put repeated rule_of fits
  walk-key h =
      walk_next first whole 9 2 key_place
      (ap (λ (x : List ℕ). field_of number_place nowhere x 9) around_key
      ∙ field_of_written number_place nowhere number 2 key (s ++ (end ++ document)) 9 length-number refl refl refl h)
      refl

  walk-run : (l : List Place) → run_from (length s) s 0 ≡ all_fine l
      → from second whole (14 + length key) ≡ from (payload_fields l) whole (14 + length key + length s)
  walk-run l e =
      rw (← around_run, length_front, add-zero) at
      (run_inside (number ++ secret) s (end ++ document) (length s) second 0 l (omega arith) (omega arith) e)

  walk_ends : (l : List Place)
      → from (payload_fields l) whole (14 + length key + length s) ≡ ended (payload_fields l) (19 + length key + length s)
  unfolding repeated rule_of fits
  walk_ends l =
      let f = length_front in
      let n : length (number ++ secret ++ s) ≡ 14 + length key + length s =
      length-append (number ++ secret) s ∙ ap (λ (x : ℕ). x + length s) f in
      let z : 14 + length key + length s + 5 + 0 ≡ 19 + length key + length s = omega arith in
      walk_end (payload_fields l) whole (14 + length key + length s)
      (record { start = 14 + length key + length s + 5; length = 0 })
      (ap (λ (x : List ℕ). field_of number_place key_place x (14 + length key + length s)) around_end
      ∙ field_of_written number_place key_place (number ++ secret ++ s) 0 [] document (14 + length key + length s) n refl
      refl
      refl
      (omega arith))
      ∙ ap (λ (x : ℕ). ended (payload_fields l) x) z

  pub walk-payload : (l : List Place) → length key < 2 ^ 31 → run_from (length s) s 0 ≡ all_fine l
      → from no_fields whole 0 ≡ ended (payload_fields l) (19 + length key + length s)
  walk-payload l h e = walk-number ∙ walk-key h ∙ walk-run l e ∙ walk_ends l

  pub document_payload : drop (19 + length key + length s) whole ≡ document
  unfolding payload_bytes
  document_payload =
      let f = length_front in
      let m = length-field_bytes 0 [] in
      let n : length (number ++ secret ++ s ++ end) ≡ 19 + length key + length s =
      length-append (number ++ secret ++ s) end
      ∙ ap (λ (x : ℕ). x + length end) (length-append (number ++ secret) s) ∙ omega arith in
      drop_at (number ++ secret ++ s ++ end) document (19 + length key + length s) n
