-- Opening by credentials, as the code goes through it: each answer from the tests that led to it.
--
-- In order:
--   document_refused, document_found              the payload's inner header
--   steps_refused, steps_opened                   the steps
--   under_refused, under_accepted; with_is        T, and where it is refused; T by a KDF
--   shows_same, shows_said                        an opening by another name; what its answer says
--   by_refused, by_read; as_refused, as_accepted  the header; the composite key
--   within, beyond; unlocked_first, -second, -third, -within    the inputs' lengths
-- Not here: T itself (Key).
-- Assumes nothing.
use mathlib.Core.Path.{◌≡◌, refl, sym, ap, ◌∙◌}
use mathlib.Core.Bool.{Bool, true, false, not, ◌||◌}
use mathlib.Core.List.{List}
use Prim.Native.Nat.{ℕ}
use native.Mathlib.Omega.{arith}
use lib.ListN.{length, take, drop}
use borrow.Author.Tests.{not-true, not-false}
use Rattle.slices.specs.Over.{over}
use Rattle.slices.proofs.Laws.Over.{over_nil, take_over}
use Rattle.refusals.specs.declared.Refusal.{Refusal}
use Rattle.refusals.specs.declared.Refusal.TheVariants.{TooLong}
use Rattle.refusals.specs.Numbers.{Outcome}
use Rattle.refusals.specs.Numbers.{Written}
use Rattle.refusals.specs.Limits.{program_limit}
use Rattle.keys.specs.Kdbx4Keys as keys
use Rattle.argon2.specs.declared.Transformed.{Transformed}
use Rattle.kdf_dictionary.specs.declared.Kdf.{Kdf}
use Rattle.outer_header.specs.Kdbx4Header.{header}
use Rattle.outer_header.specs.declared.Header.{Header}
use Rattle.inner_header.specs.InnerHeader.{inner}
use Rattle.inner_header.specs.declared.Inner.{Inner}
use Rattle.std.specs.Prelude.{Result, Ok, Err}
use Rattle.stepping.specs.Stepping.{ran_from, written_by, written_of}
use Rattle.unlocking.specs.declared.Unlocked.{Unlocked}
use Rattle.unlocking.specs.declared.Unlocked.TheVariants.{Document, Refused, PayloadRefused}
use Rattle.unlocking.specs.Answers.{said}
use Rattle.unlocking.specs.Unlocking.{
  Opening,
  key_of,
  memory_after as left_after,
  document_of,
  answer_of,
  opening,
  opening_under,
  opening_keyed,
  opening_with,
  opening_by,
  opening_if,
  opening_as,
  unlocked,
}

pub document_refused : (x : Result Inner Refusal) (n : ℕ) (r : Refusal) → x ≡ Err r → PayloadRefused r ≡ document_of x n
unfolding document_of
document_refused x n r e = rw e

pub document_found : (x : Result Inner Refusal) (n : ℕ) (i : Inner) → x ≡ Ok i → Document i.document n ≡ document_of x n
unfolding document_of
document_found x n i e = rw e

-- the steps' answer is a refusal's
written_refused : (o : Outcome) (n : ℕ) (r : Refusal) → Err r ≡ written_by o n → o ≡ Err r
unfolding written_by
written_refused (Err x) n r e = cc
written_refused (Ok tt) n r e = let z : ◌≡◌ {A = ℕ} 0 1 = cc in absurd (omega arith)

-- .. or the count of all bytes
written_wrote : (o : Outcome) (n m : ℕ) → Ok m ≡ written_by o n → (o ≡ Ok tt) × (m ≡ n)
unfolding written_by
written_wrote (Err x) n m e = let z : ◌≡◌ {A = ℕ} 0 1 = cc in absurd (omega arith)
written_wrote (Ok tt) n m e = (refl, cc)

module _ (t f d : List ℕ) (n : ℕ) (w : Written) (e : w ≡ written_of (ran_from t f n)) where
  pub steps_refused : (r : Refusal) → w ≡ Err r → Refused r ≡ (opening t f n).answer
  unfolding opening answer_of
  steps_refused r g = rw (written_refused (ran_from t f n).outcome (length (ran_from t f n).bytes) r (sym g ∙ e))

  pub steps_opened : (m : ℕ) (out p : List ℕ) (u : Unlocked) → w ≡ Ok m
      → out ≡ over (ran_from t f n).bytes d → p ≡ take m (drop 0 out) → u ≡ document_of (inner p) (length p)
      → u ≡ (opening t f n).answer
  unfolding opening answer_of
  steps_opened m out p u g h i j =
      let x = written_wrote (ran_from t f n).outcome (length (ran_from t f n).bytes) m (sym g ∙ e) in
      let y : p ≡ (ran_from t f n).bytes =
      i ∙ ap (λ (z : List ℕ). take m z) h ∙ take_over (ran_from t f n).bytes d m (sym x.1) in
      rw x.0 (j ∙ ap (λ (z : List ℕ). document_of (inner z) (length z)) y)

module _ (o : Outcome) (t f d : List ℕ) (n : ℕ) where
  pub under_refused : (r : Refusal) → o ≡ Err r
      → record {
        value : Refused r ≡ (opening_under o t f n).answer;
        out_after : d ≡ over (opening_under o t f n).bytes d;
      }
  unfolding opening_under
  under_refused r e = rw e (record { value = refl; out_after = sym (over_nil d) })

  pub under_accepted : o ≡ (Ok tt) → opening t f n ≡ opening_under o t f n
  unfolding opening_under
  under_accepted e = rw e

-- the answer u, the output x that was d, and the words y are those of an opening
abbrev Shows : Unlocked → List ℕ → List ℕ → List ℕ → Opening → Type 0
Shows u x d y o = record { value : u ≡ o.answer; out_after : x ≡ over o.bytes d; memory_after : y ≡ o.memory }

-- .. also of the same opening by another name
pub shows_same : (u : Unlocked) (x d y : List ℕ) (o q : Opening) → Shows u x d y o → o ≡ q → Shows u x d y q
shows_same u x d y o q h e = rw (← e) h

-- .. and what the answer says is what the opening's says
pub shows_said : (u : Unlocked) (x d y : List ℕ) (o : Opening) → Shows u x d y o
    → record {
      value : u ≡ o.answer;
      out_after : x ≡ over o.bytes d;
      memory_after : y ≡ o.memory;
      result_value : said u ≡ said o.answer;
    }
shows_said u x d y o h = record {
  value = h.value;
  out_after = h.out_after;
  memory_after = h.memory_after;
  result_value = ap said h.value;
}

pub with_is : (k : Kdf) (key f d m : List ℕ) (n : ℕ) (t : Transformed) (u : Unlocked) (x y : List ℕ)
    → t ≡ key_of k key f (length m)
    → y ≡ left_after k key f m
    → u ≡ (opening_keyed t f n).answer
    → x ≡ over (opening_keyed t f n).bytes d
    → Shows u x d y (opening_with k key f n m)
unfolding opening_with
with_is k key f d m n t u x y e g h i = record {
  value = h ∙ ap (λ (z : Transformed). (opening_keyed z f n).answer) e;
  out_after = i ∙ ap (λ (z : Transformed). over (opening_keyed z f n).bytes d) e;
  memory_after = g;
}

module _ (x : Result Header Refusal) (key f d m : List ℕ) (n : ℕ) where
  pub by_refused : (r : Refusal) → x ≡ Err r → Shows (Refused r) d d m (opening_by x key f n m)
  unfolding opening_by
  by_refused r e = rw e (record { value = refl; out_after = sym (over_nil d); memory_after = refl })

  pub by_read : (h : Header) → x ≡ Ok h → opening_with h.kdf key f n m ≡ opening_by x key f n m
  unfolding opening_by
  by_read h e = rw e

-- the composite key's answer
module _ (p k : keys.Credential) (f d m : List ℕ) (n : ℕ) where
  pub as_refused : (r : Refusal) → keys.composite p k keys.absent ≡ Err r
      → Shows (Refused r) d d m (opening_as p k f n m)
  unfolding opening_as opening_if
  as_refused r e = rw e (record { value = refl; out_after = sym (over_nil d); memory_after = refl })

  pub as_accepted : (key : List ℕ) → keys.composite p k keys.absent ≡ Ok key
      → opening_by (header f) key f n m ≡ opening_as p k f n m
  unfolding opening_as opening_if
  as_accepted key e = rw e

-- what the test of a length says of an input
pub within : {w : Bool} (o : Bool) → w ≡ not o → not w ≡ false → o ≡ false
within o e t = not-true o (sym e ∙ not-false _ t)

pub beyond : {w : Bool} (o : Bool) → w ≡ not o → not w ≡ true → o ≡ true
beyond o e t = not-false o (sym e ∙ not-true _ t)

-- one of three
first_of : (a b c : Bool) → a ≡ true → (a || b || c) ≡ true
first_of a b c e = rw e

second_of : (a b c : Bool) → a ≡ false → b ≡ true → (a || b || c) ≡ true
second_of a b c e g = rw (e, g)

third_of : (a b c : Bool) → a ≡ false → b ≡ false → c ≡ true → (a || b || c) ≡ true
third_of a b c e g h = rw (e, g, h)

none_of : (a b c : Bool) → a ≡ false → b ≡ false → c ≡ false → (a || b || c) ≡ false
none_of a b c e g h = rw (e, g, h)

module _ (p k : keys.Credential) (f d m : List ℕ) (n : ℕ) where
  abbrev long_file : Bool
  long_file = keys.over program_limit (keys.given f)

  abbrev long_password : Bool
  long_password = keys.over program_limit p

  abbrev long_key_file : Bool
  long_key_file = keys.over program_limit k

  unlocked_long : (long_file || long_password || long_key_file) ≡ true
      → Shows (Refused TooLong) d d m (unlocked p k f n m)
  unfolding unlocked
  unlocked_long e = rw e (record { value = refl; out_after = sym (over_nil d); memory_after = refl })

  pub unlocked_first : long_file ≡ true → Shows (Refused TooLong) d d m (unlocked p k f n m)
  unlocked_first e = unlocked_long (first_of _ _ _ e)

  pub unlocked_second : long_file ≡ false → long_password ≡ true
      → Shows (Refused TooLong) d d m (unlocked p k f n m)
  unlocked_second e g = unlocked_long (second_of _ _ _ e g)

  pub unlocked_third : long_file ≡ false → long_password ≡ false → long_key_file ≡ true
      → Shows (Refused TooLong) d d m (unlocked p k f n m)
  unlocked_third e g h = unlocked_long (third_of _ _ _ e g h)

  pub unlocked_within : long_file ≡ false → long_password ≡ false → long_key_file ≡ false
      → opening_as p k f n m ≡ unlocked p k f n m
  unfolding unlocked
  unlocked_within e g h = rw (none_of long_file long_password long_key_file e g h)
