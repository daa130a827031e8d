-- As many words as `words_needed` tells are enough for the key of a vault, and fewer are refused with 17: nothing else
-- is, since the figures of an accepted header fit.
--
-- In order:
--   argon2_answers    what a run of Argon2 answers
--   key-answers       what a KDF answers
-- Assumes nothing.
use mathlib.Core.Path.{◌≡◌, refl, ◌∙◌}
use mathlib.Core.Bool.{true, cond}
use mathlib.Core.List.{List}
use Prim.Native.Nat.{ℕ, ◌+◌}
use native.Mathlib.Omega.{arith}
use lib.Dec.{leb, ltb}
use lib.ListN.{length}
use borrow.Author.Tests.{le-leb, le-ltb}
use Rattle.refusals.specs.declared.Refusal.TheVariants.{NoRoom}
use Rattle.refusals.specs.Numbers.{Outcome}
use Rattle.refusals.specs.Limits.{message_limit, argon2_fits}
use Rattle.refusals.proofs.Laws.Limits.{message_blocks, argon2_fits_bounds}
use Rattle.fields.specs.Fields.{bytes_at}
use Rattle.argon2.specs.Rfc9106.{Inputs}
use Rattle.argon2.specs.Run.{outcome, transformed}
use Rattle.argon2.specs.declared.Kind.{Kind}
use Rattle.argon2.specs.declared.Kind.TheVariants as kind
use Rattle.argon2.proofs.Laws.Prehash.{inputs_length, length-prehash}
use Rattle.kdf_dictionary.specs.declared.Argon2.{Argon2}
use Rattle.kdf_dictionary.specs.declared.Kdf.{Kdf}
use Rattle.kdf_dictionary.specs.declared.Kdf.TheVariants as kdf
use Rattle.kdf_dictionary.proofs.Laws.Asks.{IsArgon2, IsAsked}
use Rattle.outer_header.specs.Kdbx4Header.{header}
use Rattle.outer_header.specs.declared.Header.{Header}
use Rattle.std.specs.Prelude.{Ok, Err}
use Rattle.outer_header.proofs.Laws.Accepted.{header_stands}
use Rattle.unlocking.specs.Unlocking.{inputs_of, argon2_words, key_of, words_of}
use Rattle.unlocking.proofs.Laws.Key.{placed-length}

-- Accepted where n words are enough
abbrev pub enough : ℕ → ℕ → Outcome
enough n lent = cond (ltb lent n) (Err NoRoom) (Ok tt)

transformed-outcome : (o : Outcome) (i : Inputs) → (transformed o i).outcome ≡ o
unfolding transformed
transformed-outcome (Ok tt) i = refl
transformed-outcome (Err r) i = refl

module _ (f : List ℕ) (h : Header) (e : header f ≡ Ok h) (key : List ℕ) (n : length key ≡ 32) (lent : ℕ) where
  pub argon2_answers : (y : Kind) (a : Argon2) → IsArgon2 h.kdf_dictionary a
      → (transformed (outcome (inputs_of y a key f) a.memory lent) (inputs_of y a key f)).outcome
      ≡ enough (argon2_words a) lent
  unfolding outcome
  argon2_answers y a i =
      let s = header_stands f h e in
      let l : length (bytes_at f a.salt) ≡ a.salt.length =
      placed-length f a.salt h.length (omega (arith, i.salt_ends, s.dictionary_within)) s.length_le in
      let t : argon2_fits (length (bytes_at f a.salt)) a.passes a.memory a.lanes ≡ true =
      rw l i.figures_fit in
      let b = (argon2_fits_bounds _ _ _ _ t).salt_most in
      let m : leb (40 + inputs_length (inputs_of y a key f)) message_limit ≡ true =
      le-leb _ message_limit (omega (arith, message_blocks)) in
      transformed-outcome _ (inputs_of y a key f) ∙ rw (t, length-prehash (inputs_of y a key f), m)

  kdf-answers : (k : Kdf) → IsAsked h.kdf_dictionary k → (key_of k key f lent).outcome ≡ enough (words_of k) lent
  unfolding key_of words_of
  kdf-answers (kdf.AesKdf a) i = rw (le-ltb lent 0 (omega arith))
  kdf-answers (kdf.Argon2d a) i = argon2_answers kind.Argon2d a i
  kdf-answers (kdf.Argon2id a) i = argon2_answers kind.Argon2id a i

  pub key-answers : (key_of h.kdf key f lent).outcome ≡ enough (words_of h.kdf) lent
  key-answers = kdf-answers h.kdf (header_stands f h e).kdf_stands
