-- Demand 3: opening block by block agrees with opening whole, for every T, file and list of steps.
--
-- It is over the definitions that the contracts of `start`, `open` and opener's `step` equate the code with, so it
-- holds of the code. What the record says after a list of steps is in crate opening, specs/Agreement.
-- Assumes nothing.
use mathlib.Core.Path.{◌≡◌}
use mathlib.Core.Logic.{◌≢◌}
use mathlib.Core.List.{List}
use Prim.Native.Nat.{ℕ, ◌≤◌, ◌<◌}
use lib.ListN.{length, take}
use Rattle.refusals.specs.declared.Refusal.{Refusal}
use Rattle.refusals.specs.Limits.{file_limit}
use Rattle.fields.specs.Fields.{bytes_at}
use Rattle.outer_header.specs.Kdbx4Header.{header}
use Rattle.outer_header.specs.declared.Header.{Header}
use Rattle.std.specs.Prelude.{Ok}
use Rattle.opening.specs.declared.Keys.{Keys}
use Rattle.opening.specs.declared.Phase.TheVariants.{Ended}
use Rattle.opening.specs.Decryption.{refused}
use Rattle.opening.specs.Whole.{whole_in}
use Rattle.opening.specs.Steps.{open_start}
use Rattle.opening.specs.Agreement.{block_data, handed_over, plain_after, RunAgrees}
use Rattle.opening.proofs.Theorem as behind
use Rattle.vault.specs.Vault.{start, start_refused, begun, state_of, opened_by, opened_in}
use Rattle.vault.specs.Agreement.{EqualKeys, Agrees}
use Rattle.vault.proofs.Laws.Start.{start-begun, begun_stands}
use Rattle.vault.proofs.Laws.Firsts.{begun_same, same_keys_given}

module _ (t f : List ℕ) where
  refused_whole : (r : Refusal) → start t f ≡ start_refused r → (n : ℕ) → opened_in t f n ≡ refused r
  unfolding opened_in opened_by
  refused_whole r e n = rw e

  begun-state : (k : Keys) (p : ℕ) → start t f ≡ begun k p → state_of (start t f) ≡ open_start k p
  unfolding state_of
  begun-state k p e = rw e

  begun_whole : (k : Keys) (p : ℕ) → start t f ≡ begun k p → (n : ℕ) → opened_in t f n ≡ whole_in k f p n
  unfolding opened_in opened_by
  begun_whole k p e n = rw e

  begun_runs : (k : Keys) (p : ℕ) → start t f ≡ begun k p → (rooms : List ℕ) → RunAgrees k f p rooms
  begun_runs k p e rooms =
      let s = begun_stands t f k p e in
      behind.agrees k s.nonce_is f p s.limit s.positive s.inside rooms

-- a second start with the same keys
firsts_by : (t f : List ℕ) (k l : Keys) (p : ℕ) → start t f ≡ begun k p → k ≡ l → (g : List ℕ) → length g ≤ file_limit
    → (q : ℕ) → q ≤ length g → (rooms others : List ℕ) → (plain_after k f p rooms).phase ≢ Ended
    → (plain_after l g q others).phase ≢ Ended → (plain_after k f p rooms).number ≡ (plain_after l g q others).number
    → ((j : ℕ) → j < (plain_after k f p rooms).number → block_data f p j ≡ block_data g q j)
    → handed_over k f p rooms ≡ handed_over l g q others
firsts_by t f k l p e s g lg q iq rooms others =
    rw (← s) (λ ef eg n same. (begun_runs t f k p e rooms).firsts g q others lg iq ef eg n same)

begun_firsts : (t f u g : List ℕ) (k l : Keys) (p q : ℕ) → start t f ≡ begun k p → start u g ≡ begun l q
    → (h : Header) → header f ≡ Ok h → EqualKeys (bytes_at f h.seed) t u
    → take p f ≡ take q g
    → (rooms others : List ℕ) → (plain_after k f p rooms).phase ≢ Ended → (plain_after l g q others).phase ≢ Ended
    → (plain_after k f p rooms).number ≡ (plain_after l g q others).number
    → ((j : ℕ) → j < (plain_after k f p rooms).number → block_data f p j ≡ block_data g q j)
    → handed_over k f p rooms ≡ handed_over l g q others
begun_firsts t f u g k l p q a b h i same e rooms others =
    let x = start-begun t f k p a in
    let y = start-begun u g l q b in
    let s = same_keys_given t f u g k l p q a b e h i same in
    let z = begun_same t f u g k l p q x y e s in
    firsts_by t f k l p a z.keys_are g (begun_stands u g l q b).limit q y.inside rooms others

-- THE THEOREM
pub agrees : (t f : List ℕ) → Agrees t f
agrees t f =
    record {
      at_start = refused_whole t f;
      state_is = begun-state t f;
      whole_is = begun_whole t f;
      after_start = begun_runs t f;
      firsts = begun_firsts t f;
    }
