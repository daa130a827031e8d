-- Document 02, Item 13, "Same vault, other cutting".
--
--   "an accepted file"                                                          Accepted
--   "[its] ciphertext, cut anew into blocks .., tagged by the published rule,
--    closed, behind the file's own header, hash and tag"                        recut
--   "of any positive sizes that add up to it", "within the file limit"          Cuts
--   "is accepted with the same payload by both openers, given the same T and
--    enough room"                                                               SameVault
--   "cuts blocks at 1,000 bytes"                                                recut_at
--   a file that is another one in such a cutting                                IsCutting
-- t is T, f the file, k are its keys, p is the place of its first block, ns are the new sizes, b is the payload.
-- Not here: cutting, and the blocks of pieces (crate cutting); the ciphertext in a file (crate open_whole, Ciphertext).
-- Assumes nothing.
use Rattle.std.specs.Prelude.{◌≡◌, List, ◌++◌, ℕ, ◌+◌, ◌*◌, ◌≤◌, length, take}
use Rattle.refusals.specs.Limits.{file_limit}
use Rattle.cutting.specs.Cutting.{Positive, total, pieces, blocks_from, sizes_at}
use Rattle.opening.specs.declared.Keys.{Keys}
use Rattle.opening.specs.Decryption.{opened}
use Rattle.opening.specs.Agreement.{OpenedStepwise}
use Rattle.open_whole.specs.Ciphertext.{text}
use Rattle.vault.specs.Vault.{start, begun, opened_in}
use Rattle.recutting.specs.Opens.{BothOpen}

-- the whole opener opened it, or a list of steps took its closing block
pub data Accepted (t f b : List ℕ) : Type 0 where
  by_whole : (n : ℕ) → opened_in t f n ≡ opened b → Accepted t f b
  by_steps : (k : Keys) (p : ℕ) (rooms : List ℕ) → start t f ≡ begun k p → OpenedStepwise k f p rooms b → Accepted t f b

-- the header, its hash and its tag as they stand, and the ciphertext in blocks of the sizes ns
unfoldable pub recut : Keys → List ℕ → ℕ → List ℕ → List ℕ
recut k f p ns = take p f ++ blocks_from k.base 0 (pieces ns (text f p))

-- .. in blocks of z bytes, all full except perhaps the last
abbrev pub recut_at : ℕ → Keys → List ℕ → ℕ → List ℕ
recut_at z k f p = recut k f p (sizes_at z (text f p))

-- sizes that are positive and add up to the ciphertext, with the file that they give within the limit
pub record Cuts (k : Keys) (f : List ℕ) (p : ℕ) (ns : List ℕ) : Type 0 where
  pub positive : Positive ns
  pub adds_up : total ns ≡ length (text f p)
  pub fits : length (recut k f p ns) ≤ file_limit

-- g is the file f in such a cutting
pub record IsCutting (k : Keys) (f : List ℕ) (p : ℕ) (g : List ℕ) : Type 0 where
  pub sizes : List ℕ
  pub cuts : Cuts k f p sizes
  pub same_file : recut k f p sizes ≡ g

-- under the keys that the file's start gave, each such cutting is accepted by both openers with the payload b; one step
-- for each size and one for the closing block are enough. So is the file itself, with one step for each of its blocks,
-- which are as many as its length says: a tag and a size, 36 bytes, beside the ciphertext
pub record SameVault (t f b : List ℕ) : Type 0 where
  pub keys : Keys
  pub place : ℕ
  pub begins : start t f ≡ begun keys place
  pub other_cutting : (ns : List ℕ) → Cuts keys f place ns
      → BothOpen t (recut keys f place ns) keys place b (length ns + 1)
  pub blocks : ℕ
  pub count_is : length f ≡ place + (length (text f place) + 36 * blocks)
  pub itself : BothOpen t f keys place b blocks
