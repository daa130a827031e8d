-- Document 02, Item 13: an accepted file, in any other cutting, is accepted with the same payload by both openers.
--
-- In order:
--   payload-text               the payload of a file that opens is its ciphertext's
--   recut_starts               the new file starts as the file does
--   recut_stands               its blocks stand in it
--   recut_opens                .. so both openers open it
--   recut_same                 files with one front and one ciphertext are cut alike
--   length-recut               how long the new file is
--   text-recut, front_recut    its ciphertext and its front are the file's
--   recut-recut                cutting a file that was cut anew is cutting the first file; recut_at-recut, at one size
--   same_vault                 THE THEOREM; same_vault_at, with the keys and the place of the start named
-- Assumes nothing.
use mathlib.Core.Path.{◌≡◌, sym, ap, ap₂, ◌∙◌}
use mathlib.Core.List.{List, ◌++◌}
use Prim.Native.Nat.{ℕ, ◌+◌, ◌*◌}
use native.Mathlib.Omega.{arith}
use lib.ListN.{length, take, length-append}
use lib.Seq.{length-take-le, take_at, drop_at}
use Rattle.cutting.specs.Cutting.{total, pieces, blocks_from, sizes_at, InBlocks}
use Rattle.cutting.proofs.Laws.Pieces.{joined-pieces, pieces_some, length-pieces}
use Rattle.cutting.proofs.Laws.Blocks.{length-blocks_from, blocks_stand, length_in_blocks}
use Rattle.opening.specs.declared.Keys.{Keys}
use Rattle.opening.specs.Decryption.{opened, payload}
use Rattle.opening.specs.Whole.{whole}
use Rattle.opening.proofs.Laws.Cutting.{whole_blocks, opened-blocks}
use Rattle.open_whole.specs.Ciphertext.{text}
use Rattle.vault.specs.Vault.{start, begun}
use Rattle.vault.proofs.Laws.Start.{start-begun}
use Rattle.recutting.specs.Opens.{BothOpen}
use Rattle.recutting.specs.Recut.{Accepted, recut, recut_at, Cuts, SameVault}
use Rattle.recutting.proofs.Laws.Front.{start_behind}
use Rattle.recutting.proofs.Laws.Text.{text-blocks}
use Rattle.recutting.proofs.Opens.{both_open, more_steps, accepted_begins, accepted_whole}

-- the payload of a file that opens is its ciphertext's
payload-text : (k : Keys) (f : List ℕ) (p : ℕ) (b : List ℕ) → whole k f p ≡ opened b → payload k (text f p) ≡ opened b
payload-text k f p b o =
    let h = opened-blocks k f b p o in
    ap (λ (x : List ℕ). payload k x) (text-blocks k.base f h.data_are 0 p h.stand)
    ∙ sym (whole_blocks k f h.data_are p h.stand) ∙ o

module _ (t f : List ℕ) (k : Keys) (p : ℕ) (e : start t f ≡ begun k p) where
  length_front : length (take p f) ≡ p
  length_front = length-take-le p f (start-begun t f k p e).inside

  recut_starts : (ns : List ℕ) → Cuts k f p ns → start t (recut k f p ns) ≡ begun k p
  unfolding recut
  recut_starts ns c = start_behind t f _ k p (omega (arith, c.fits)) e

  pub recut_stands : (ns : List ℕ) → Cuts k f p ns → InBlocks k.base (recut k f p ns) 0 p (pieces ns (text f p))
  unfolding recut
  recut_stands ns c =
      blocks_stand k.base (recut k f p ns) (omega (arith, c.fits)) (pieces ns (text f p)) 0 p
      (drop_at (take p f) _ p length_front)
      (pieces_some ns (text f p) c.positive (omega (arith, c.adds_up)))

  recut_opens : (b : List ℕ) → whole k f p ≡ opened b → (ns : List ℕ) → Cuts k f p ns
      → BothOpen t (recut k f p ns) k p b (length ns + 1)
  recut_opens b o ns c =
      more_steps (omega (arith, length-pieces ns (text f p)))
      (both_open t (recut k f p ns) k p b (recut_starts ns c) (pieces ns (text f p)) (recut_stands ns c)
      (ap (λ (x : List ℕ). payload k x) (joined-pieces ns (text f p) (omega (arith, c.adds_up)))
      ∙ payload-text k f p b o))

-- files with one front and one ciphertext are cut alike
pub recut_same : (k : Keys) (f g : List ℕ) (p : ℕ) → take p f ≡ take p g → text f p ≡ text g p → (ns : List ℕ)
    → recut k f p ns ≡ recut k g p ns
unfolding recut
recut_same k f g p a b ns = ap₂ (λ (x y : List ℕ). x ++ blocks_from k.base 0 (pieces ns y)) a b

module _ (t f : List ℕ) (k : Keys) (p : ℕ) (e : start t f ≡ begun k p) where
  pub length-recut : (ns : List ℕ) → total ns ≡ length (text f p)
      → length (recut k f p ns) ≡ p + (length (text f p) + 36 * (length ns + 1))
  unfolding recut
  length-recut ns q =
      let ds = pieces ns (text f p) in
      length-append (take p f) (blocks_from k.base 0 ds)
      ∙ omega (
        arith,
        length_front t f k p e,
        length-blocks_from k.base 0 ds,
        ap length (joined-pieces ns (text f p) q),
        length-pieces ns (text f p),
      )

  -- the new file has the same ciphertext, and the front that it had
  text-recut : (ns : List ℕ) → Cuts k f p ns → text (recut k f p ns) p ≡ text f p
  text-recut ns c =
      text-blocks k.base (recut k f p ns) (pieces ns (text f p)) 0 p (recut_stands t f k p e ns c)
      ∙ joined-pieces ns (text f p) c.adds_up

  front_recut : (ns : List ℕ) → take p (recut k f p ns) ≡ take p f
  unfolding recut
  front_recut ns = take_at (take p f) (blocks_from k.base 0 (pieces ns (text f p))) p (length_front t f k p e)

  -- so cutting it once more is cutting the first file
  pub recut-recut : (ns : List ℕ) → Cuts k f p ns → (ms : List ℕ) → recut k (recut k f p ns) p ms ≡ recut k f p ms
  recut-recut ns c ms = recut_same k (recut k f p ns) f p (front_recut ns) (text-recut ns c) ms

  pub recut_at-recut : (ns : List ℕ) → Cuts k f p ns → (z : ℕ) → recut_at z k (recut k f p ns) p ≡ recut_at z k f p
  recut_at-recut ns c z =
      recut-recut ns c (sizes_at z (text (recut k f p ns) p))
      ∙ ap (λ (x : List ℕ). recut k f p (sizes_at z x)) (text-recut ns c)

-- THE THEOREM. How many steps are enough goes through `omega`: another number is refused where it is too small, and not
-- because it is written otherwise.
pub same_vault : (t f b : List ℕ) → Accepted t f b → SameVault t f b
same_vault t f b a =
    let s = accepted_begins t f b a in
    let k : Keys = s.keys in
    let p : ℕ = s.place in
    let h = opened-blocks k f b p s.payload_is in
    record {
      keys = k;
      place = p;
      begins = s.begins;
      other_cutting = λ ns c. more_steps (omega arith) (recut_opens t f k p s.begins b s.payload_is ns c);
      blocks = length h.data_are + 1;
      count_is = length_in_blocks k.base f h.data_are 0 p h.stand
          ∙ ap (λ (x : List ℕ). p + (length x + 36 * (length h.data_are + 1)))
          (sym (text-blocks k.base f h.data_are 0 p h.stand));
      itself = both_open t f k p b s.begins h.data_are h.stand
          (sym (whole_blocks k f h.data_are p h.stand) ∙ s.payload_is);
    }

-- .. with the keys and the place of the file's start named
pub same_vault_at : (t f b : List ℕ) → Accepted t f b → (k : Keys) (p : ℕ) → start t f ≡ begun k p
    → (ns : List ℕ) → Cuts k f p ns
    → BothOpen t (recut k f p ns) k p b (length ns + 1)
same_vault_at t f b a k p e ns c = recut_opens t f k p e b (accepted_whole t f b a k p e) ns c
