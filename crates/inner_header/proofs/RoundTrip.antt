-- What the reader and the writer owe each other (document 01, "Inner header").
--
-- In order:
--   attachment-answers              of a payload that is accepted, every index below the count answers flags and a
--                                   content within the payload
--   attachment_past                 .. and every other index is 8
--   attachment-refused              a payload that is refused is refused for every attachment, with the same number
--   written_bytes_lem, written_front    where the writer answers n, the first n bytes of the lent output are the payload
--   read_written                    the reader accepts it, with the same algorithm, key and document, and as many
--                                   attachments as the run has fields
--   attachment_written              each attachment answers the flags and the content of the run's field of that index
--   attachment_written_past         .. and every other index is 8
--   attachment_values               where the run is made of values, attachment i answers the first byte and the rest
--                                   of value i
-- Not here: what is read of a payload that was written (specs, ReadBack).
-- Assumes nothing.
use mathlib.Core.Path.{◌≡◌, refl, ap, ◌∙◌}
use mathlib.Core.Bool.{true}
use mathlib.Core.List.{List, [], ◌∷◌, ◌++◌}
use Prim.Native.Nat.{ℕ, zero, suc, ◌+◌, ◌-◌, ◌^◌, ◌≤◌, ◌<◌}
use native.Mathlib.Nat.{add_assoc}
use native.Mathlib.Numerals.{sub-one}
use native.Mathlib.Omega.{arith}
use lib.Dec.{eqb}
use lib.ListN.{length, get_or, take, drop}
use lib.Seq.{take-nil, drop-drop, get_or-take, get_or-drop}
use borrow.Author.Tests.{eqb-true, lt-ltb, le-ltb, le-leb}
use Rattle.words.specs.Endian.{le}
use Rattle.words.proofs.Laws.Cases.{by_bool}
use Rattle.slices.specs.Over.{over}
use Rattle.slices.proofs.Laws.Over.{take_over}
use Rattle.refusals.specs.declared.Refusal.{Refusal}
use Rattle.refusals.specs.declared.Refusal.TheVariants.{Absent}
use Rattle.refusals.specs.Limits.{payload_limit}
use Rattle.refusals.proofs.Laws.Limits.{payload_size}
use Rattle.fields.specs.declared.Place.{Place}
use Rattle.fields.specs.Fields.{bytes_at, nowhere}
use Rattle.fields.proofs.Laws.Written.{further, get_or_inside, bytes_at_inside}
use Rattle.inner_header.specs.declared.Inner.{Inner}
use Rattle.std.specs.Prelude.{Ok, Err}
use Rattle.inner_header.specs.InnerHeader.{
  end_field,
  Walked,
  ended,
  refused,
  algorithm_listed,
  fault,
  judged_by,
  judged,
  opened,
  inner_of,
  inner,
  shown,
  attachment_of,
  attachment,
}
use Rattle.inner_header.specs.ReadBack.{content_of, Shows, Reads, ShowsField, ShowsValue}
use Rattle.inner_header.specs.Writer as writer
use Rattle.inner_header.specs.Writer.{Run, all_fine, run, run_bytes, verdict, payload_bytes, writing, due, written_bytes}
use Rattle.inner_header.proofs.Laws.Sound.{opened-sound}
use Rattle.inner_header.proofs.Laws.Run.{run_sound}
use Rattle.inner_header.proofs.Laws.Planned.{Planned, planned-wrote}
use Rattle.inner_header.proofs.Laws.Values.{Values, places, length-places, run_values, bytes_at_values}
use Rattle.inner_header.proofs.Laws.Payload.{
  placed,
  length-placed,
  get_or-placed,
  number,
  secret,
  end,
  length-payload_bytes,
  around_run,
  length_front,
  payload_fields,
  key-payload,
  algorithm_payload,
  document_payload,
  walk-payload,
}

module _ (s : List ℕ) (h : Inner) (i : ℕ) where
  answers_of : (w : Walked) → opened s ≡ w → inner_of s w ≡ Ok h → i < h.attachments
      → Shows s (attachment_of s i w)
  unfolding inner_of attachment_of shown
  answers_of (ended f end) o e l =
      let n : length f.attachments ≡ h.attachments = cc in
      let b : i < length f.attachments = omega arith in
      let w = opened-sound s f end o i b in
      rw (lt-ltb i (length f.attachments) b)
      (record {
        flags = get_or s (get_or f.attachments i nowhere).start 0;
        content = content_of (get_or f.attachments i nowhere);
        answers = refl;
        within = omega arith;
      })
  answers_of (refused r) o e l = let z : ◌≡◌ {A = ℕ} 0 1 = cc in absurd (omega arith)

  pub attachment-answers : inner s ≡ Ok h → i < h.attachments → Shows s (attachment s i)
  unfolding inner attachment
  attachment-answers e l = answers_of (opened s) refl e l

  past_of : (w : Walked) → inner_of s w ≡ Ok h → h.attachments ≤ i → attachment_of s i w ≡ Err (Absent (end_field h.document))
  unfolding inner_of attachment_of
  past_of (ended f end) e l =
      let n : length f.attachments ≡ h.attachments = cc in
      let b : length f.attachments ≤ i = omega arith in
      let d : end ≡ h.document = cc in
      rw (le-ltb i (length f.attachments) b, d)
  past_of (refused r) e l = let z : ◌≡◌ {A = ℕ} 0 1 = cc in absurd (omega arith)

  pub attachment_past : inner s ≡ Ok h → h.attachments ≤ i → attachment s i ≡ Err (Absent (end_field h.document))
  unfolding inner attachment
  attachment_past e l = past_of (opened s) e l

refused_of : (s : List ℕ) (i : ℕ) (r : Refusal) (w : Walked) → inner_of s w ≡ Err r
    → attachment_of s i w ≡ Err r
unfolding inner_of attachment_of
refused_of s i r (ended f end) e = let z : ◌≡◌ {A = ℕ} 0 1 = cc in absurd (omega arith)
refused_of s i r (refused x) e = cc

pub attachment-refused : (s : List ℕ) (i : ℕ) (r : Refusal) → inner s ≡ Err r
    → attachment s i ≡ Err r
unfolding inner attachment
attachment-refused s i r e = refused_of s i r (opened s) e

-- the run's fields, where its verdict is sound
run_of : (w : Run) → verdict w ≡ (Ok tt) → (l : List Place) × (w ≡ all_fine l)
unfolding verdict
run_of (all_fine l) e = (l, refl)
run_of (writer.refused r) e = let z : ◌≡◌ {A = ℕ} 0 1 = cc in absurd (omega arith)

listed_small : (a : ℕ) → algorithm_listed a ≡ true → a < 2 ^ 32
listed_small a t =
    by_bool (eqb a 2)
    (λ u. let e = eqb-true a 2 u in omega arith)
    (λ u. let e = eqb-true a 3 (rw u at t) in omega arith)

module _ (algorithm : ℕ) (key attachments document : List ℕ) (room n : ℕ)
    (wrote : writing algorithm key attachments document room ≡ Ok n) where
  abbrev whole : List ℕ
  whole = payload_bytes algorithm key attachments document

  passed : Planned algorithm (length key) attachments (length document) room n
  unfolding writing
  passed = planned-wrote algorithm (length key) attachments (length document) room n wrote

  pub written_bytes_lem : written_bytes algorithm key attachments document room ≡ whole
  unfolding written_bytes due
  written_bytes_lem = rw wrote

  pub written_front : (d : List ℕ)
      → take n (over (written_bytes algorithm key attachments document room) d) ≡ whole
  written_front d =
      let p = passed in
      let l = length-payload_bytes algorithm key attachments document in
      let e : length whole ≡ n = omega arith in
      rw written_bytes_lem (take_over whole d n e)

  opened_written : (l : List Place) → run attachments ≡ all_fine l
      → opened whole ≡ ended (payload_fields algorithm key attachments document l) (19 + length key + length attachments)
  unfolding opened judged judged_by fault run
  opened_written l e =
      let p = passed in
      let m = length-payload_bytes algorithm key attachments document in
      let a : length whole ≤ payload_limit = omega arith in
      let b : length key < 2 ^ 31 = omega (arith, payload_size) in
      rw (
        le-leb _ _ a,
        walk-payload algorithm key attachments document l b e,
        algorithm_payload algorithm key attachments document (listed_small algorithm p.algorithm_is_listed),
        p.algorithm_is_listed,
      )

  fine : (l : List Place) × (run attachments ≡ all_fine l)
  fine = run_of (run attachments) passed.run_fine

  pub read_written : Reads algorithm key attachments document whole
  unfolding inner inner_of
  read_written =
      let l = fine.0 in
      let b = 14 + length key in
      record {
        header =
            record {
              algorithm = le 4 whole 5;
              key = record { start = 14; length = length key };
              attachments = length (placed b l);
              document = 19 + length key + length attachments;
            };
        places = l;
        accepts = rw (opened_written l fine.1);
        algorithm_is =
            algorithm_payload algorithm key attachments document (listed_small algorithm passed.algorithm_is_listed);
        key_is = key-payload algorithm key attachments document;
        run_is = fine.1;
        attachments_is = length-placed b l;
        document_is = document_payload algorithm key attachments document;
      }

  pub attachment_written : (l : List Place) → run attachments ≡ all_fine l → (i : ℕ) → i < length l
      → ShowsField attachments (get_or l i nowhere) whole (attachment whole i)
  unfolding attachment attachment_of shown
  attachment_written l e i h =
      let p = get_or l i nowhere in
      let w = run_sound attachments l e i h in
      let b = 14 + length key in
      let f = number algorithm key attachments document ++ secret algorithm key attachments document in
      let r = end algorithm key attachments document ++ document in
      let n : length f ≡ b = length_front algorithm key attachments document in
      let m : i < length (placed b l) = rw (length-placed b l) h in
      let g : get_or whole (b + p.start) 0 ≡ get_or attachments p.start 0 =
      rw (around_run algorithm key attachments document, ← n) (get_or_inside f attachments r p.start (omega arith)) in
      let d : bytes_at whole (content_of (further b p)) ≡ bytes_at attachments (content_of p) =
      rw (around_run algorithm key attachments document, ← n, add_assoc)
      (bytes_at_inside f attachments r (content_of p) (omega arith)) in
      rw (opened_written l e, lt-ltb i (length (placed b l)) m, get_or-placed b l i h, g)
      (record { content = content_of (further b p); answers = refl; content_is = d })

  pub attachment_written_past : (l : List Place) → run attachments ≡ all_fine l → (i : ℕ) → length l ≤ i
      → attachment whole i ≡ Err (Absent (14 + length key + length attachments))
  unfolding attachment attachment_of
  attachment_written_past l e i h =
      let b = 14 + length key in
      let m : length (placed b l) ≤ i = rw (length-placed b l) h in
      let d : 19 + length key + length attachments - 5 ≡ 14 + length key + length attachments = omega arith in
      rw (opened_written l e, le-ltb i (length (placed b l)) m, d)

take_behind : (n : ℕ) (l : List ℕ) → 1 ≤ n → take (n - 1) (drop 1 l) ≡ drop 1 (take n l)
take_behind zero l h = absurd (omega arith)
take_behind (suc n) [] h = take-nil (suc n - 1)
take_behind (suc n) (x ∷ l) h = rw sub-one

-- the flags and the content of a value that stands at a place
value_flags : (s : List ℕ) (p : Place) (v : List ℕ) → 1 ≤ p.length → bytes_at s p ≡ v → get_or s p.start 0 ≡ get_or v 0 0
value_flags s p v h e =
    let a : 0 < p.length = omega arith in
    let z : p.start + 0 ≡ p.start = omega arith in
    rw (← e, get_or-take p.length (drop p.start s) 0 0 a, get_or-drop p.start s 0 0, z)

value_content : (s : List ℕ) (p : Place) (v : List ℕ) → 1 ≤ p.length → bytes_at s p ≡ v
    → bytes_at s (content_of p) ≡ drop 1 v
value_content s p v h e =
    rw (← drop-drop 1 p.start s, take_behind p.length (drop p.start s) h) (ap (λ (x : List ℕ). drop 1 x) e)

pub attachment_values : (algorithm : ℕ) (key : List ℕ) (vs : List (List ℕ)) (document : List ℕ) (room n : ℕ) → Values vs
    → writing algorithm key (run_bytes vs) document room ≡ Ok n → (i : ℕ) → i < length vs
    → ShowsValue (get_or vs i []) (payload_bytes algorithm key (run_bytes vs) document)
    (attachment (payload_bytes algorithm key (run_bytes vs) document) i)
attachment_values algorithm key vs document room n w e i h =
    let p = get_or (places 0 vs) i nowhere in
    let r = run_values vs w in
    let l : i < length (places 0 vs) = rw (length-places 0 vs) h in
    let a = attachment_written algorithm key (run_bytes vs) document room n e (places 0 vs) r i l in
    let f = (run_sound (run_bytes vs) (places 0 vs) r i l).flagged in
    let b = bytes_at_values vs i h in
    record {
      content = a.content;
      answers = a.answers ∙ ap (λ (x : ℕ). Ok (x, a.content)) (value_flags (run_bytes vs) p (get_or vs i []) f b);
      content_is = a.content_is ∙ value_content (run_bytes vs) p (get_or vs i []) f b;
    }
