-- The reader's answers, by what is kept of the fields.
--
-- In order:
--   judged-refused, judged_faulty, judged_fine        the checks behind the end field
--   inner_of-refused, inner_of_ended                    a header
--   attachment_of-refused, attachment_of-shown, attachment_of_past    an attachment
--   asked_within                                      the attachment asked for has its flags byte, within the payload
-- Each says what the definition gives, where what is kept is known.
-- Assumes nothing.
use mathlib.Core.Path.{◌≡◌, refl, sym, ◌∙◌, ap₂}
use mathlib.Core.List.{List}
use Prim.Native.Nat.{ℕ, ◌+◌, ◌-◌, ◌≤◌, ◌<◌}
use native.Mathlib.Omega.{arith}
use lib.ListN.{length, get_or}
use borrow.Author.Tests.{lt-ltb, le-ltb}
use Rattle.words.specs.Endian.{le}
use Rattle.refusals.specs.declared.Refusal.{Refusal}
use Rattle.refusals.specs.declared.Refusal.TheVariants.{Absent}
use Rattle.inner_header.specs.declared.Tally.{Tally}
use Rattle.std.specs.Prelude.{Ok, Err}
use Rattle.inner_header.specs.InnerHeader.{
  Walked,
  ended,
  refused,
  end_field,
  fault,
  judged_by,
  judged,
  opened,
  inner_of,
  shown,
  attachment_of,
}
use Rattle.inner_header.specs.Tally.{tally_of, tallied}
use Rattle.words.proofs.Laws.Pairs.{ok_first, ok_second}
use Rattle.inner_header.proofs.Laws.Sound.{Within, opened-sound}

module _ (i : ℕ) (s : List ℕ) where
  pub judged-refused : (w : Walked) (r : Refusal) → Err r ≡ tallied i w
      → Err r ≡ tallied i (judged s w)
  unfolding judged tallied
  judged-refused (ended f end) r e = let z : ◌≡◌ {A = ℕ} 0 1 = cc in absurd (omega arith)
  judged-refused (refused x) r e = e

  pub judged_faulty : (w : Walked) (t : Tally) (end : ℕ) (r : Refusal) → Ok (t, end) ≡ tallied i w
      → Err r ≡ fault s t.algorithm t.key end → Err r ≡ tallied i (judged s w)
  unfolding judged judged_by tallied
  judged_faulty (ended f n) t end r e g =
      let q : t ≡ tally_of i f = ok_first e in
      let m : end ≡ n = ok_second e in
      let d : fault s f.algorithm f.key n ≡ Err r =
      sym (g ∙ ap₂ (λ (u : Tally) (x : ℕ). fault s u.algorithm u.key x) q m) in
      rw d
  judged_faulty (refused x) t end r e g = let z : ◌≡◌ {A = ℕ} 0 1 = cc in absurd (omega arith)

  pub judged_fine : (w : Walked) (t : Tally) (end : ℕ) → Ok (t, end) ≡ tallied i w
      → (Ok tt) ≡ fault s t.algorithm t.key end → Ok (t, end) ≡ tallied i (judged s w)
  unfolding judged judged_by tallied
  judged_fine (ended f n) t end e g =
      let q : t ≡ tally_of i f = ok_first e in
      let m : end ≡ n = ok_second e in
      let d : fault s f.algorithm f.key n ≡ (Ok tt) =
      sym (g ∙ ap₂ (λ (u : Tally) (x : ℕ). fault s u.algorithm u.key x) q m) in
      rw d e
  judged_fine (refused x) t end e g = let z : ◌≡◌ {A = ℕ} 0 1 = cc in absurd (omega arith)

  pub inner_of-refused : (w : Walked) (r : Refusal) → Err r ≡ tallied i w → Err r ≡ inner_of s w
  unfolding inner_of tallied
  inner_of-refused (ended f end) r e = let z : ◌≡◌ {A = ℕ} 0 1 = cc in absurd (omega arith)
  inner_of-refused (refused x) r e = cc

  pub inner_of_ended : (w : Walked) (t : Tally) (end n : ℕ) → Ok (t, end) ≡ tallied i w
      → n ≡ le 4 s t.algorithm.start
      → Ok (record { algorithm = n; key = t.key; attachments = t.attachments; document = end })
      ≡ inner_of s w
  unfolding inner_of tallied
  inner_of_ended (ended f m) t end n e g =
      let q : t ≡ tally_of i f = ok_first e in
      let d : end ≡ m = ok_second e in
      rw (g, q, d)
  inner_of_ended (refused x) t end n e g = let z : ◌≡◌ {A = ℕ} 0 1 = cc in absurd (omega arith)

  pub attachment_of-refused : (w : Walked) (r : Refusal) → Err r ≡ tallied i w
      → Err r ≡ attachment_of s i w
  unfolding attachment_of tallied
  attachment_of-refused (ended f end) r e = let z : ◌≡◌ {A = ℕ} 0 1 = cc in absurd (omega arith)
  attachment_of-refused (refused x) r e = cc

  pub attachment_of-shown : (w : Walked) (t : Tally) (end b : ℕ) → Ok (t, end) ≡ tallied i w
      → i < t.attachments → b ≡ get_or s t.asked.start 0
      → Ok (b, record { start = t.asked.start + 1; length = t.asked.length - 1 }) ≡ attachment_of s i w
  unfolding attachment_of shown tallied
  attachment_of-shown (ended f m) t end b e l g =
      let q : t ≡ tally_of i f = ok_first e in
      let h : i < length f.attachments = rw q at l in
      rw (g, lt-ltb i (length f.attachments) h, q)
  attachment_of-shown (refused x) t end b e l g = let z : ◌≡◌ {A = ℕ} 0 1 = cc in absurd (omega arith)

  pub attachment_of_past : (w : Walked) (t : Tally) (end : ℕ) → Ok (t, end) ≡ tallied i w
      → t.attachments ≤ i → Err (Absent (end_field end)) ≡ attachment_of s i w
  unfolding attachment_of tallied
  attachment_of_past (ended f m) t end e l =
      let q : t ≡ tally_of i f = ok_first e in
      let h : length f.attachments ≤ i = rw q at l in
      let d : end ≡ m = ok_second e in
      rw (le-ltb i (length f.attachments) h, d)
  attachment_of_past (refused x) t end e l = let z : ◌≡◌ {A = ℕ} 0 1 = cc in absurd (omega arith)

  asked_of : (w : Walked) (t : Tally) (end : ℕ) → w ≡ opened s → Ok (t, end) ≡ tallied i w
      → i < t.attachments → Within s t.asked
  unfolding tallied
  asked_of (ended f m) t end p e l =
      let q : t ≡ tally_of i f = ok_first e in
      let h : i < length f.attachments = rw q at l in
      rw q (opened-sound s f m (sym p) i h)
  asked_of (refused x) t end p e l = let z : ◌≡◌ {A = ℕ} 0 1 = cc in absurd (omega arith)

  pub asked_within : (t : Tally) (end : ℕ) → Ok (t, end) ≡ tallied i (opened s) → i < t.attachments
      → Within s t.asked
  asked_within t end e l = asked_of (opened s) t end refl e l
