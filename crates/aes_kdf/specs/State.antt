-- How the struct `Transformation` stands for a transformation under way (AesKdf), and what each of its functions makes
-- of it.
--
-- In order: marked, mark, held, stored (the struct and what it stands for), started, refused, advanced, finished,
-- joined (its functions), advances (a list of steps), Adds (one step behind another), rounded_up, helpings, EndsWithin
-- (steps of n rounds each).
-- Assumes nothing.
use Rattle.std.specs.Prelude.{◌≡◌, Bool, true, false, List, [], ◌∷◌, ◌++◌, ℕ, ◌+◌, ◌-◌, ◌/◌, ◌≤◌, ◌<◌, replicate, Ok, Err}
use Rattle.words.specs.Sums.{total}
use Rattle.refusals.specs.declared.Refusal.TheVariants.{OutOfSequence}
use Rattle.fips180.specs.Fips180.{sha256, hash}
use Rattle.aes_kdf.specs.AesKdf as kdf
use Rattle.aes_kdf.specs.AesKdf.{Transforming, transformed_key, after}
use Rattle.aes_kdf.specs.declared.Mark.{Mark}
use Rattle.aes_kdf.specs.declared.Mark.TheVariants.{Accepted, Refused}
use Rattle.aes_kdf.specs.declared.Transformation.{Transformation}
use Rattle.aes_kdf.specs.declared.Started.{Started}
use Rattle.aes_kdf.specs.declared.Transformed.{Transformed}

abbrev pub marked : Mark → Bool
marked Accepted = true
marked Refused = false

abbrev pub mark : Bool → Mark
mark true = Accepted
mark false = Refused

abbrev pub held : Transformation → Transforming
held t =
    record {
      accepted = marked t.mark;
      keys = t.keys.words;
      left = t.left;
      right = t.right;
      done = t.done;
      rounds = t.rounds;
    }

abbrev pub stored : Transforming → Transformation
stored t =
    record {
      mark = mark t.accepted;
      keys = record { words = t.keys };
      left = t.left;
      right = t.right;
      done = t.done;
      rounds = t.rounds;
    }

abbrev pub started : List ℕ → List ℕ → ℕ → Started
started c s r = record { outcome = (kdf.start c s r).outcome; next = stored (kdf.start c s r).next }

abbrev pub refused : Transformation
refused = stored kdf.refused

abbrev pub advanced : ℕ → Transformation → Transformation
advanced n t = stored (kdf.advanced n (held t))

abbrev pub finished : Transformation → Transformed
finished t = record { outcome = (kdf.finish (held t)).outcome; key = (kdf.finish (held t)).key }

-- SHA-256 of the two halves, as an accepted answer
abbrev pub joined : Transformation → Transformed
joined t = record { outcome = Ok tt; key = hash sha256 (t.left ++ t.right) }

-- the state after a list of steps
unfoldable pub advances : List ℕ → Transformation → Transformation
advances [] t = t
advances (n ∷ ns) t = advances ns (advanced n t)

-- "a helping of a followed by one of b is a helping of a + b, where the sum fits its number, and .. a helping of 0
-- changes nothing" (document 02, Item 9). A helping's answer, the rounds done and the halves, stands in the state.
pub record Adds (t : Transformation) : Type 0 where
  pub helping_add : (a b : ℕ) → advanced b (advanced a t) ≡ advanced (a + b) t
  pub helping_zero : advanced 0 t ≡ t
  -- .. and so any list is one helping of all its rounds
  pub helpings_total : (ns : List ℕ) → advances ns t ≡ advanced (total ns) t

-- "R/n rounded up"
abbrev pub rounded_up : ℕ → ℕ → ℕ
rounded_up r n = (r + n - 1) / n

-- the state after j steps of n rounds each, from a start of r
abbrev pub helpings : List ℕ → List ℕ → ℕ → ℕ → ℕ → Transformation
helpings c s r n j = advances (replicate j n) (started c s r).next

-- "Helpings of n, n at least 1, end within R/n rounded up. T before the end is 19": after so many or more all rounds
-- are done and T is the definition's, and after fewer there is none
pub record EndsWithin (c s : List ℕ) (r n : ℕ) : Type 0 where
  pub all_done : (j : ℕ) → rounded_up r n ≤ j → held (helpings c s r n j) ≡ after c s r r
  pub key_then : (j : ℕ) → rounded_up r n ≤ j → finished (helpings c s r n j) ≡ record {
    outcome = Ok tt;
    key = transformed_key c s r;
  }
  pub none_before : (j : ℕ) → j < rounded_up r n → finished (helpings c s r n j) ≡ record {
    outcome = Err OutOfSequence;
    key = replicate 32 0;
  }
