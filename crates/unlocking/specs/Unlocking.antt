-- Opening a vault by its credentials: document 01, "Keys", "File after the header" and "Inner header", and document 02,
-- Item 6, one after the other.
--
--   inputs_of       Argon2's inputs, of its kind and figures, a composite key and the file
--   key_of          T by the KDF of an accepted header, or why there is none: 17 for too few words lent to Argon2
--   memory_after    .. and the words that were lent: those that a run used are zeros
--   words_of, words_needed    how many words T needs: of a KDF; of a header, none where it is refused
--   document_of     where a payload's document stands
--   opening        under T, block by block
--   opening_under, opening_keyed    .. where T is not refused
--   opening_with    under a composite key, by a KDF
--   opening_by      .. by the header
--   opening_as      by the credentials
--   unlocked       .. with every input within a PC program's limit, else 1
-- p and k are the password and the key file, f is the file, n the length lent, m the words lent.
-- Not here: the steps one after the other (crate stepping); that they agree with the whole opener (crate vault).
-- Assumes nothing.
use Rattle.std.specs.Prelude.{cond, ◌||◌, List, [], ℕ, length, Result, Ok, Err}
use Rattle.refusals.specs.declared.Refusal.{Refusal}
use Rattle.refusals.specs.declared.Refusal.TheVariants.{TooLong}
use Rattle.refusals.specs.Numbers.{Outcome}
use Rattle.refusals.specs.Limits.{program_limit}
use Rattle.fields.specs.Fields.{bytes_at}
use Rattle.keys.specs.Kdbx4Keys.{Credential, given, absent, Composed, over, composite}
use Rattle.aes_kdf.specs.AesKdf.{transformed_key}
use Rattle.argon2.specs.Rfc9106.{Inputs}
use Rattle.argon2.specs.Run as run
use Rattle.argon2.specs.declared.Kind.{Kind}
use Rattle.argon2.specs.declared.Kind.TheVariants as kind
use Rattle.argon2.specs.declared.Transformed.{Transformed}
use Rattle.kdf_dictionary.specs.declared.Argon2.{Argon2}
use Rattle.kdf_dictionary.specs.declared.Kdf.{Kdf}
use Rattle.kdf_dictionary.specs.declared.Kdf.TheVariants as kdf
use Rattle.outer_header.specs.Kdbx4Header.{header}
use Rattle.outer_header.specs.declared.Header.{Header}
use Rattle.stepping.specs.Stepping.{ran_from}
use Rattle.inner_header.specs.InnerHeader.{inner}
use Rattle.inner_header.specs.declared.Inner.{Inner}
use Rattle.unlocking.specs.declared.Unlocked.{Unlocked}
use Rattle.unlocking.specs.declared.Unlocked.TheVariants.{Document, Refused, PayloadRefused}

-- the answer, and the bytes that stand over the front of the output
pub record Opened : Type 0 where
  pub answer : Unlocked
  pub bytes : List ℕ

-- .. and what the lent words are then
pub record Opening : Type 0 where
  pub answer : Unlocked
  pub bytes : List ℕ
  pub memory : List ℕ

abbrev pub refusing : Refusal → List ℕ → Opening
refusing r m = record { answer = Refused r; bytes = []; memory = m }

abbrev pub inputs_of : Kind → Argon2 → List ℕ → List ℕ → Inputs
inputs_of y a key f = run.vault_inputs y key (bytes_at f a.salt) a.passes a.memory a.lanes

-- what a run of Argon2 answers, with so many words lent, and what it leaves of the words lent
abbrev pub argon2_key : Kind → Argon2 → List ℕ → List ℕ → ℕ → Transformed
argon2_key y a key f lent = run.transformed (run.outcome (inputs_of y a key f) a.memory lent) (inputs_of y a key f)

abbrev pub argon2_left : Kind → Argon2 → List ℕ → List ℕ → List ℕ → List ℕ
argon2_left y a key f m = run.left (run.outcome (inputs_of y a key f) a.memory (length m)) (inputs_of y a key f) m

unfoldable pub key_of : Kdf → List ℕ → List ℕ → ℕ → Transformed
key_of (kdf.AesKdf k) key f lent =
    record { outcome = Ok tt; key = transformed_key key (bytes_at f k.seed) k.rounds }
key_of (kdf.Argon2d a) key f lent = argon2_key kind.Argon2d a key f lent
key_of (kdf.Argon2id a) key f lent = argon2_key kind.Argon2id a key f lent

unfoldable pub memory_after : Kdf → List ℕ → List ℕ → List ℕ → List ℕ
memory_after (kdf.AesKdf k) key f m = m
memory_after (kdf.Argon2d a) key f m = argon2_left kind.Argon2d a key f m
memory_after (kdf.Argon2id a) key f m = argon2_left kind.Argon2id a key f m

-- 128 words of each block that Argon2 fills, whichever the kind, the composite key and the salt
abbrev pub argon2_words : Argon2 → ℕ
argon2_words a = run.used (inputs_of kind.Argon2d a [] [])

unfoldable pub words_of : Kdf → ℕ
words_of (kdf.AesKdf k) = 0
words_of (kdf.Argon2d a) = argon2_words a
words_of (kdf.Argon2id a) = argon2_words a

unfoldable pub words_needed : Result Header Refusal → ℕ
words_needed (Err r) = 0
words_needed (Ok h) = words_of h.kdf

-- from behind the inner header to the payload's end
unfoldable pub document_of : Result Inner Refusal → ℕ → Unlocked
document_of (Err r) n = PayloadRefused r
document_of (Ok i) n = Document i.document n

-- the payload that the steps handed over, or why one was refused
unfoldable pub answer_of : Outcome → List ℕ → Unlocked
answer_of (Err r) b = Refused r
answer_of (Ok tt) b = document_of (inner b) (length b)

unfoldable pub opening : List ℕ → List ℕ → ℕ → Opened
opening t f n =
    record {
      answer = answer_of (ran_from t f n).outcome (ran_from t f n).bytes;
      bytes = (ran_from t f n).bytes;
    }

-- .. where T is not refused
unfoldable pub opening_under : Outcome → List ℕ → List ℕ → ℕ → Opened
opening_under (Err r) t f n = record { answer = Refused r; bytes = [] }
opening_under (Ok tt) t f n = opening t f n

-- .. by an answer of a KDF
abbrev pub opening_keyed : Transformed → List ℕ → ℕ → Opened
opening_keyed t f n = opening_under t.outcome t.key f n

unfoldable pub opening_with : Kdf → List ℕ → List ℕ → ℕ → List ℕ → Opening
opening_with k key f n m =
    record {
      answer = (opening_keyed (key_of k key f (length m)) f n).answer;
      bytes = (opening_keyed (key_of k key f (length m)) f n).bytes;
      memory = memory_after k key f m;
    }

unfoldable pub opening_by : Result Header Refusal → List ℕ → List ℕ → ℕ → List ℕ → Opening
opening_by (Err r) key f n m = refusing r m
opening_by (Ok h) key f n m = opening_with h.kdf key f n m

unfoldable pub opening_if : Composed → List ℕ → ℕ → List ℕ → Opening
opening_if (Err r) f n m = refusing r m
opening_if (Ok key) f n m = opening_by (header f) key f n m

unfoldable pub opening_as : Credential → Credential → List ℕ → ℕ → List ℕ → Opening
opening_as p k f n m = opening_if (composite p k absent) f n m

unfoldable pub unlocked : Credential → Credential → List ℕ → ℕ → List ℕ → Opening
unlocked p k f n m =
    cond (over program_limit (given f) || over program_limit p || over program_limit k) (refusing TooLong m)
    (opening_as p k f n m)
