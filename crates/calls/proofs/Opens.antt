-- What both openers open, they open for a caller in C.
--
-- In order:
--   ended_in_c          a list of steps that ended, of the calls
--   opens_in_c          any file that both openers open
--   written_in_c        .. what the writer writes
--   same_vault_in_c     .. Item 13
-- Assumes nothing.
use mathlib.Core.Path.{◌≡◌, sym, ap, ◌∙◌}
use mathlib.Core.List.{List}
use Prim.Native.Nat.{ℕ, ◌+◌}
use lib.ListN.{length, take}
use Rattle.refusals.specs.Limits.{written_block}
use Rattle.cutting.specs.Cutting.{block_count}
use Rattle.opening.specs.declared.Keys.{Keys}
use Rattle.opening.specs.Runs.{bytes_of}
use Rattle.opening.specs.Agreement.{OpenedStepwise}
use Rattle.vault.specs.Vault.{start, begun}
use Rattle.recutting.specs.Opens.{BothOpen}
use Rattle.recutting.specs.Recut.{Accepted, recut, Cuts}
use Rattle.recutting.proofs.Theorem.{same_vault_at}
use Rattle.writer.specs.Written.{Figures, encryption_by}
use Rattle.round_trip.specs.Opens.{file_keys, first_block_of, WrittenOpens}
use Rattle.states.specs.OpenerState.{mark_of}
use Rattle.calls.specs.Opens.{EndedInC, OpensInC}
use Rattle.calls.proofs.Theorem.{agrees_in_c}

ended_in_c : (t f : List ℕ) (k : Keys) (p : ℕ) → start t f ≡ begun k p → (rooms b : List ℕ)
    → OpenedStepwise k f p rooms b
    → EndedInC t f rooms b
ended_in_c t f k p e rooms b s =
    let c = (agrees_in_c t f).after_start k p e rooms in
    record {
      mark_is = c.mark_is ∙ ap mark_of (sym c.run.phase_is ∙ s.ended);
      bytes_are = ap bytes_of c.answers_are ∙ s.bytes_are;
    }

pub opens_in_c : (t f : List ℕ) (k : Keys) (p : ℕ) (b : List ℕ) (m : ℕ) → BothOpen t f k p b m
    → OpensInC t f k p b m
opens_in_c t f k p b m o =
    record {
      starts = o.starts;
      whole = o.whole;
      stepwise = λ rooms many.
          let c = (agrees_in_c t f).after_start k p o.starts rooms in
          ended_in_c t f k p o.starts rooms b (o.stepwise rooms (rw c.answers_are at many));
      roomy = λ rooms many roomy. ended_in_c t f k p o.starts rooms b (o.roomy rooms many roomy);
    }

pub written_in_c : (g : Figures) (t b before after : List ℕ) (m : ℕ) (w : WrittenOpens g t b before after m)
    → OpensInC t (take m after) (file_keys g w.cipher t) (first_block_of g w.cipher) b
    (block_count written_block (length (encryption_by w.cipher (file_keys g w.cipher t) b)) + 1)
written_in_c g t b before after m w = opens_in_c t (take m after) _ _ b _ w.opens

pub same_vault_in_c : (t f b : List ℕ) → Accepted t f b → (k : Keys) (p : ℕ) → start t f ≡ begun k p
    → (ns : List ℕ) → Cuts k f p ns
    → OpensInC t (recut k f p ns) k p b (length ns + 1)
same_vault_in_c t f b a k p e ns c =
    opens_in_c t (recut k f p ns) k p b (length ns + 1) (same_vault_at t f b a k p e ns c)
