-- T of a composite key, by each KDF, as the code goes through it; and the words that Argon2 needs.
--
-- In order:
--   placed-length                       a place within a file has as many bytes as it says
--   kdf_asked, kdf_seed_is              what an accepted header's KDF keeps to
--   advances_more, advances_end         one step of several; none left
--   key_of_fifty                        fifty steps of a fiftieth and one round more give T
--   argon2_ran                          a run of Argon2 under the salt's bytes
--   key-rounds, key_d, key_id           T by each KDF
--   words-rounds, words_d, words_id     the words that each needs
--   needed_refused, needed_read         .. and the vault of a header
-- Assumes nothing.
use mathlib.Core.Path.{◌≡◌, refl, ap, ◌∙◌}
use mathlib.Core.List.{List}
use Prim.Native.Nat.{ℕ, zero, suc, ◌+◌, ◌-◌, ◌/◌, ◌≤◌, ◌<◌}
use native.Mathlib.Numerals.{sub-one}
use native.Mathlib.Omega.{arith}
use lib.ListN.{length, drop, replicate, length-drop}
use lib.Seq.{length-take-le}
use Rattle.refusals.specs.declared.Refusal.{Refusal}
use Rattle.refusals.specs.Limits.{rounds_limit}
use Rattle.fields.specs.Fields.{bytes_at, end_of}
use Rattle.fields.specs.declared.Place.{Place}
use Rattle.aes_kdf.specs.AesKdf.{transformed_key}
use Rattle.aes_kdf.specs.State.{started, advanced, advances, finished}
use Rattle.aes_kdf.specs.declared.Transformation.{Transformation}
use Rattle.aes_kdf.specs.declared.Transformed.{Transformed as Finished}
use Rattle.aes_kdf.proofs.Steps.{done_by_end, key_at_end}
use Rattle.argon2.specs.Rfc9106.{Inputs}
use Rattle.argon2.specs.Run as run
use Rattle.argon2.specs.declared.Kind.{Kind}
use Rattle.argon2.specs.declared.Kind.TheVariants as kind
use Rattle.argon2.specs.declared.Transformed.{Transformed}
use Rattle.kdf_dictionary.specs.declared.AesKdf.{AesKdf}
use Rattle.kdf_dictionary.specs.declared.Argon2.{Argon2}
use Rattle.kdf_dictionary.specs.declared.Kdf.{Kdf}
use Rattle.kdf_dictionary.specs.declared.Kdf.TheVariants as kdf
use Rattle.kdf_dictionary.proofs.Laws.Asks.{IsAesKdf, IsAsked}
use Rattle.outer_header.specs.Kdbx4Header.{header}
use Rattle.outer_header.specs.declared.Header.{Header}
use Rattle.std.specs.Prelude.{Result, Ok, Err}
use Rattle.outer_header.proofs.Laws.Accepted.{header_stands}
use Rattle.unlocking.specs.Unlocking.{
  argon2_key,
  argon2_left,
  argon2_words,
  key_of,
  memory_after as left_after,
  words_of,
  words_needed,
}

pub placed-length : (f : List ℕ) (p : Place) (n : ℕ) → end_of p ≤ n → n ≤ length f → length (bytes_at f p) ≡ p.length
placed-length f p n w b =
    length-take-le p.length (drop p.start f) (simp length-drop (omega arith))

module _ (f : List ℕ) (h : Header) (e : header f ≡ Ok h) where
  pub kdf_asked : (k : Kdf) → h.kdf ≡ k → IsAsked h.kdf_dictionary k
  kdf_asked k g = rw g at (header_stands f h e).kdf_stands

  pub kdf_seed_is : (k : AesKdf) → h.kdf ≡ kdf.AesKdf k → length (bytes_at f k.seed) ≡ 32
  kdf_seed_is k g =
      let s = header_stands f h e in
      let a : IsAesKdf h.kdf_dictionary k = kdf_asked (kdf.AesKdf k) g in
      let w : end_of k.seed ≤ h.length = omega (arith, a.seed_within, s.dictionary_within) in
      placed-length f k.seed h.length w s.length_le ∙ a.seed_length

pub advances_more : (left n : ℕ) (x : Transformation) → 0 < left
    → advances (replicate left n) x ≡ advances (replicate (left - 1) n) (advanced n x)
unfolding advances
advances_more zero n x h = absurd (omega arith)
advances_more (suc m) n x h = rw sub-one

pub advances_end : (left n : ℕ) (x y : Transformation) → left ≡ 0 → advances (replicate left n) x ≡ y → x ≡ y
unfolding advances
advances_end zero n x y h e = e
advances_end (suc m) n x y h e = absurd (omega arith)

pub key_of_fifty : (c s : List ℕ) (r : ℕ) → r ≤ rounds_limit
    → (finished (advances (replicate 50 (r / 50 + 1)) (started c s r).next)).key ≡ transformed_key c s r
key_of_fifty c s r h =
    let e = done_by_end r (r / 50 + 1) 50 0 (omega arith) (omega arith) in
    ap (λ (t : Finished). t.key) (key_at_end c s r h (replicate 50 (r / 50 + 1)) e)

-- Argon2's inputs, with the bytes s as the salt
abbrev salted : Kind → Argon2 → List ℕ → List ℕ → Inputs
salted y a key s = run.vault_inputs y key s a.passes a.memory a.lanes

pub argon2_ran : (y : Kind) (a : Argon2) (key f s m : List ℕ) → s ≡ bytes_at f a.salt
    → (t : Transformed) (z : List ℕ)
    → t ≡ run.transformed (run.outcome (salted y a key s) a.memory (length m)) (salted y a key s)
    → z ≡ run.left (run.outcome (salted y a key s) a.memory (length m)) (salted y a key s) m
    → record { value : t ≡ argon2_key y a key f (length m); memory_after : z ≡ argon2_left y a key f m }
argon2_ran y a key f s m e t z g h = rw (← e) (record { value = g; memory_after = h })

module _ (k : Kdf) (key f m : List ℕ) where
  pub key-rounds : (a : AesKdf) (t : List ℕ) → k ≡ kdf.AesKdf a
      → t ≡ transformed_key key (bytes_at f a.seed) a.rounds
      → record {
        value : record { outcome = Ok tt; key = t } ≡ key_of k key f (length m);
        memory_after : m ≡ left_after k key f m;
      }
  unfolding key_of left_after
  key-rounds a t e g = rw (e, g) (record { value = refl; memory_after = refl })

  pub key_d : (a : Argon2) (t : Transformed) (z : List ℕ) → k ≡ kdf.Argon2d a
      → record {
        value : t ≡ argon2_key kind.Argon2d a key f (length m);
        memory_after : z ≡ argon2_left kind.Argon2d a key f m;
      }
      → record { value : t ≡ key_of k key f (length m); memory_after : z ≡ left_after k key f m }
  unfolding key_of left_after
  key_d a t z e g = rw e g

  pub key_id : (a : Argon2) (t : Transformed) (z : List ℕ) → k ≡ kdf.Argon2id a
      → record {
        value : t ≡ argon2_key kind.Argon2id a key f (length m);
        memory_after : z ≡ argon2_left kind.Argon2id a key f m;
      }
      → record { value : t ≡ key_of k key f (length m); memory_after : z ≡ left_after k key f m }
  unfolding key_of left_after
  key_id a t z e g = rw e g

pub words-rounds : (k : Kdf) (a : AesKdf) → k ≡ kdf.AesKdf a → 0 ≡ words_of k
unfolding words_of
words-rounds k a e = rw e

pub words_d : (k : Kdf) (a : Argon2) → k ≡ kdf.Argon2d a → argon2_words a ≡ words_of k
unfolding words_of
words_d k a e = rw e

pub words_id : (k : Kdf) (a : Argon2) → k ≡ kdf.Argon2id a → argon2_words a ≡ words_of k
unfolding words_of
words_id k a e = rw e

pub needed_refused : (x : Result Header Refusal) (r : Refusal) → x ≡ Err r → 0 ≡ words_needed x
unfolding words_needed
needed_refused x r e = rw e

pub needed_read : (x : Result Header Refusal) (h : Header) → x ≡ Ok h → words_of h.kdf ≡ words_needed x
unfolding words_needed
needed_read x h e = rw e
