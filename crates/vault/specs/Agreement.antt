-- Demand 3, one statement: opening block by block agrees with opening whole.
--
-- Document 00: "It begins with the state that an accepted start gave; each step gets the state that the last one left
-- and the start's header, keys and file". What holds after any list of steps is RunAgrees (crate opening, Agreement).
-- Assumes nothing.
use Rattle.std.specs.Prelude.{◌≡◌, ◌≢◌, List, ℕ, ◌<◌, take, Ok}
use Rattle.refusals.specs.declared.Refusal.{Refusal}
use Rattle.fields.specs.Fields.{bytes_at}
use Rattle.keys.specs.Kdbx4Keys.{cipher_key, tag_base}
use Rattle.outer_header.specs.Kdbx4Header.{header}
use Rattle.outer_header.specs.declared.Header.{Header}
use Rattle.opening.specs.declared.Keys.{Keys}
use Rattle.opening.specs.declared.Phase.TheVariants.{Ended}
use Rattle.opening.specs.Decryption.{refused}
use Rattle.opening.specs.Whole.{whole_in}
use Rattle.opening.specs.Steps.{open_start}
use Rattle.opening.specs.Agreement.{block_data, handed_over, plain_after, RunAgrees}
use Rattle.vault.specs.Vault.{start, start_refused, begun, state_of, opened_in}

-- "demand 3's keys are the cipher key and tag base that it gives with the header's master seed": T is t for the first
-- file, u for the second, and m the master seed of both
pub record EqualKeys (m t u : List ℕ) : Type 0 where
  pub same_cipher_key : cipher_key m t ≡ cipher_key m u
  pub same_tag_base : tag_base m t ≡ tag_base m u

pub record Agrees (t f : List ℕ) : Type 0 where
  -- a refusal that met the start is the whole opener's
  pub at_start : (r : Refusal) → start t f ≡ start_refused r → (n : ℕ) → opened_in t f n ≡ refused r
  -- an accepted start gives the state that the steps begin with, the whole opener goes on under the same keys from the
  -- same place, and after every list of steps they agree
  pub state_is : (k : Keys) (p : ℕ) → start t f ≡ begun k p → state_of (start t f) ≡ open_start k p
  pub whole_is : (k : Keys) (p : ℕ) → start t f ≡ begun k p → (n : ℕ) → opened_in t f n ≡ whole_in k f p n
  pub after_start : (k : Keys) (p : ℕ) → start t f ≡ begun k p → (rooms : List ℕ) → RunAgrees k f p rooms
  -- "Two such files, opened with equal keys, with equal header, hash, tag and first data blocks, have handed over the
  -- same when just those are taken": a second T and file, whose start is accepted too
  pub firsts : (u g : List ℕ) (k l : Keys) (p q : ℕ) → start t f ≡ begun k p → start u g ≡ begun l q
      → (h : Header) → header f ≡ Ok h → EqualKeys (bytes_at f h.seed) t u
      → take p f ≡ take q g
      → (rooms others : List ℕ) → (plain_after k f p rooms).phase ≢ Ended → (plain_after l g q others).phase ≢ Ended
      → (plain_after k f p rooms).number ≡ (plain_after l g q others).number
      → ((j : ℕ) → j < (plain_after k f p rooms).number → block_data f p j ≡ block_data g q j)
      → handed_over k f p rooms ≡ handed_over l g q others
