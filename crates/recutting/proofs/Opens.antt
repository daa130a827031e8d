-- A start that is accepted and blocks whose ciphertext has a payload are enough for both openers, and where one opener
-- opens, there are such blocks.
--
-- In order:
--   both_open                both openers open a file in blocks
--   more_steps               .. in as many steps, or more
--   begun-blocks             .. one that has its front, and then blocks of pieces
--   Begins, accepted_begins  what the success of either opener says
--   accepted_whole           .. with the keys and the place of the start named
-- Assumes nothing.
use mathlib.Core.Path.{◌≡◌, refl, sym, ap₂, ◌∙◌}
use mathlib.Core.List.{List, ◌++◌}
use Prim.Native.Nat.{ℕ, ◌+◌, ◌≤◌}
use native.Mathlib.Omega.{arith}
use lib.ListN.{length}
use lib.Seq.{drop_at}
use borrow.Author.Tests.{le-ltb}
use Rattle.refusals.specs.Limits.{file_limit}
use Rattle.fips180.specs.Feeds.{joined}
use Rattle.cutting.specs.Cutting.{blocks_from, NonEmpty, InBlocks}
use Rattle.cutting.proofs.Laws.Blocks.{blocks_stand}
use Rattle.opening.specs.declared.Keys.{Keys}
use Rattle.opening.specs.declared.Phase.TheVariants.{Ended}
use Rattle.opening.specs.Decryption.{opened, payload}
use Rattle.opening.specs.Whole.{whole, roomed, whole_in}
use Rattle.opening.specs.Plain.{plain_start}
use Rattle.opening.specs.Runs.{with_room}
use Rattle.opening.specs.Agreement.{step_answers, plain_after, Roomy, OpenedStepwise}
use Rattle.opening.proofs.Laws.Replies.{never}
use Rattle.opening.proofs.Laws.Cutting.{whole_blocks}
use Rattle.opening.proofs.Converse.{roomed-opened, opened_steps, opened_stepwise}
use Rattle.vault.specs.Vault.{Begun, start_refused, begun, start, opened_by, opened_in}
use Rattle.vault.proofs.Laws.Start.{begun_stands}
use Rattle.vault.proofs.Theorem.{agrees}
use Rattle.recutting.specs.Opens.{BothOpen}
use Rattle.recutting.specs.Recut.{Accepted, by_whole, by_steps}

module _ (t f : List ℕ) (k : Keys) (p : ℕ) (b : List ℕ) (e : start t f ≡ begun k p) (ds : List (List ℕ))
    (stand : InBlocks k.base f 0 p ds) (o : payload k (joined ds) ≡ opened b) where
  whole_in_is : (n : ℕ) → length b ≤ n → whole_in k f p n ≡ opened b
  unfolding whole_in roomed
  whole_in_is n l = rw (whole_blocks k f ds p stand ∙ o, le-ltb n (length b) l)

  opens_whole : (n : ℕ) → length b ≤ n → opened_in t f n ≡ opened b
  opens_whole n l = (agrees t f).whole_is k p e n ∙ whole_in_is n l

  opens_stepwise : (rooms : List ℕ) → length ds + 1 ≤ with_room (step_answers k f p rooms) → OpenedStepwise k f p rooms b
  opens_stepwise rooms many =
      let s = begun_stands t f k p e in
      opened_steps k s.nonce_is f p s.limit s.positive s.inside ds stand (length b) b
      (whole_in_is (length b) (omega arith)) rooms (omega arith)

  opens_roomy : (rooms : List ℕ) → length ds + 1 ≤ length rooms → Roomy k f (plain_start p) rooms
      → OpenedStepwise k f p rooms b
  opens_roomy rooms many roomy =
      let s = begun_stands t f k p e in
      opened_stepwise k s.nonce_is f p s.limit s.positive s.inside ds stand (length b) b
      (whole_in_is (length b) (omega arith)) rooms (omega arith) roomy

  pub both_open : BothOpen t f k p b (length ds + 1)
  both_open = record { starts = e; whole = opens_whole; stepwise = opens_stepwise; roomy = opens_roomy }

-- more steps are enough as well
pub more_steps : {t f : List ℕ} {k : Keys} {p : ℕ} {b : List ℕ} {m n : ℕ} → m ≤ n → BothOpen t f k p b m
    → BothOpen t f k p b n
more_steps l o =
    record {
      starts = o.starts;
      whole = o.whole;
      stepwise = λ rooms many. o.stepwise rooms (omega arith);
      roomy = λ rooms many. o.roomy rooms (omega arith);
    }

-- s is all before the first block
pub begun-blocks : (t s : List ℕ) (k : Keys) (p : ℕ) (b : List ℕ) (ds : List (List ℕ)) → length s ≡ p
    → length (s ++ blocks_from k.base 0 ds) ≤ file_limit → NonEmpty ds
    → start t (s ++ blocks_from k.base 0 ds) ≡ begun k p → payload k (joined ds) ≡ opened b
    → BothOpen t (s ++ blocks_from k.base 0 ds) k p b (length ds + 1)
begun-blocks t s k p b ds l fits some e o =
    let f : List ℕ = s ++ blocks_from k.base 0 ds in
    both_open t f k p b e ds
    (blocks_stand k.base f fits ds 0 p (drop_at s (blocks_from k.base 0 ds) p l) some) o

-- the start that an opening went through, and the payload behind it
pub record Begins (t f b : List ℕ) : Type 0 where
  pub keys : Keys
  pub place : ℕ
  pub begins : start t f ≡ begun keys place
  pub payload_is : whole keys f place ≡ opened b

opened_by_begins : (t f : List ℕ) (z : Begun) (n : ℕ) (b : List ℕ) → start t f ≡ z → opened_by z f n ≡ opened b
    → Begins t f b
unfolding opened_by whole_in
opened_by_begins t f (start_refused r) n b e h = never (cc)
opened_by_begins t f (begun k p) n b e h =
    record { keys = k; place = p; begins = e; payload_is = roomed-opened n (whole k f p) b h }

opened_in_begins : (t f : List ℕ) (n : ℕ) (b : List ℕ) → opened_in t f n ≡ opened b → Begins t f b
unfolding opened_in
opened_in_begins t f n b h = opened_by_begins t f (start t f) n b refl h

pub accepted_begins : (t f b : List ℕ) → Accepted t f b → Begins t f b
accepted_begins t f b (by_whole n h) = opened_in_begins t f n b h
accepted_begins t f b (by_steps k p rooms e s) =
    let r = (agrees t f).after_start k p e rooms in
    let z : (plain_after k f p rooms).phase ≡ Ended = sym r.phase_is ∙ s.ended in
    let h = rw s.bytes_are at (r.whole_gives z) in
    opened_in_begins t f (length b) b ((agrees t f).whole_is k p e (length b) ∙ h (length b) (omega arith))

begun_alike : (k l : Keys) (p q : ℕ) → begun k p ≡ begun l q → (k ≡ l) × (p ≡ q)
begun_alike k l p q e = (cc, cc)

pub accepted_whole : (t f b : List ℕ) → Accepted t f b → (k : Keys) (p : ℕ) → start t f ≡ begun k p
    → whole k f p ≡ opened b
accepted_whole t f b a k p e =
    let s = accepted_begins t f b a in
    let x = begun_alike s.keys k s.place p (sym s.begins ∙ e) in
    ap₂ (λ (y : Keys) (q : ℕ). whole y f q) (sym x.0) (sym x.1) ∙ s.payload_is
