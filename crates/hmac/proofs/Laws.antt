-- Laws of tags: RFC 2104's tag from states, over both hash algorithms.
--
-- In order:
--   length-xor_each, xor_each_map              each byte XOR a byte: its length, as a map
--   xor_each_more                              a turn of the loop that writes it over the bytes
--   length-key_block, key_block_short, -long   key blocks, and how code lays them
--   begun_is                                 a start's parts
--   tag-hash, hmac_of_parts                  the theorem
-- Not here: the hash's own (fips180, Laws).
-- Assumes nothing.
use mathlib.Core.Path.{◌≡◌, refl, sym, ap, ◌∙◌}
use mathlib.Core.Bool.{Bool, true, false, cond}
use mathlib.Core.List.{List, [], ◌∷◌, ◌++◌, map}
use Prim.Native.Nat.{ℕ, suc, ◌+◌, ◌*◌, ◌≤◌, ◌<◌}
use native.Mathlib.Nat.{zero-add}
use native.Mathlib.Omega.{arith}
use lib.Bits.{bit_xor}
use lib.Dec.{leb}
use lib.ListN.{length, take, drop, set, get_or, replicate, length-append, length-take, length-drop, length-replicate}
use Rattle.std.proofs.lemmas.List.{length-map, get_or_default}
use Rattle.std.proofs.lemmas.List.Edits.{map_over_more}
use borrow.Author.Tests.{le-leb, lt-leb, leb-true}
use Rattle.slices.specs.Over.{over}
use Rattle.slices.proofs.Laws.Over.{length_over, over_fits}
use Rattle.refusals.specs.Limits.{message_limit}
use Rattle.fips180.specs.Fips180.{Sha2, block_bytes, hash}
use Rattle.fips180.specs.Hashing as hashing
use Rattle.fips180.specs.Hashing.{Hashing}
use Rattle.fips180.specs.Feeds.{accepted}
use Rattle.fips180.specs.Feeds as hash_feeds
use Rattle.fips180.proofs.Laws.Lengths.{length-hash}
use Rattle.fips180.proofs.Laws.Feeding.{Holds, start-holds, absorbed-holds, finish-holds}
use Rattle.fips180.proofs.Laws.Feeds.{feeds-holds, feed_taken, start_taken, accepted-shift}
use Rattle.hmac.specs.Rfc2104.{xor_each, key_block, hmac}
use Rattle.hmac.specs.Tagging.{Tagging, begun, feed, finish, feeds}

pub length-xor_each : (c : ℕ) (l : List ℕ) → length (xor_each c l) ≡ length l
unfolding xor_each
length-xor_each c [] = refl
length-xor_each c (x ∷ l) = ap suc (length-xor_each c l)

pub xor_each_map : (c : ℕ) (b : List ℕ) → xor_each c b ≡ map (λ (x : ℕ). bit_xor x c) b
unfolding xor_each
xor_each_map c [] = refl
xor_each_map c (x ∷ b) = ap (λ (l : List ℕ). bit_xor x c ∷ l) (xor_each_map c b)

pub xor_each_more : (c : ℕ) (b out : List ℕ) (i : ℕ) → i < length b
    → out ≡ map (λ (x : ℕ). bit_xor x c) (take i b) ++ drop i b
    → set out i (bit_xor (get_or out i 0) c) ≡ map (λ (x : ℕ). bit_xor x c) (take (i + 1) b) ++ drop (i + 1) b
xor_each_more c b out i h e =
    let l : i < length out = rw e (simp (length-append, length-map, length-take, length-drop) (omega arith)) in
    map_over_more (λ (x : ℕ). bit_xor x c) b out i (get_or out i 0) h e (get_or_default out i 0 (get_or out i 0) l)

module _ (p : Sha2) (words : length p.iv ≡ 8) where
  length-key : (k : List ℕ) (t : Bool) → leb (length k) (block_bytes p) ≡ t → length (cond t k (hash p k)) ≤ block_bytes p
  length-key k true e = leb-true _ _ e
  length-key k false e = omega (arith, length-hash p k words)

  pub length-key_block : (k : List ℕ) → length (key_block p k) ≡ block_bytes p
  unfolding key_block
  length-key_block k =
      let z : length (replicate {A = ℕ} (block_bytes p) 0) ≡ block_bytes p = length-replicate (block_bytes p) 0 in
      let l = length-key k (leb (length k) (block_bytes p)) refl in
      length_over (cond (leb (length k) (block_bytes p)) k (hash p k)) (replicate (block_bytes p) 0) (omega arith) ∙ z

  -- the key block of a long key, as code copies the key's hash over zeros
  pub key_block_long : (k : List ℕ) {b d : List ℕ} → block_bytes p < length k → d ≡ hash p k
      → b ≡ over (take (length (replicate {A = ℕ} (block_bytes p) 0)) d) (replicate (block_bytes p) 0) → b ≡ key_block p k
  unfolding key_block
  key_block_long k {b} {d} l e₁ e₂ =
      let z : length (replicate {A = ℕ} (block_bytes p) 0) ≡ block_bytes p = length-replicate (block_bytes p) 0 in
      let n : length d ≡ 8 * p.bytes = ap length e₁ ∙ length-hash p k words in
      rw (lt-leb _ _ l) (e₂ ∙ over_fits d (replicate (block_bytes p) 0) (omega arith)
      ∙ ap (λ (x : List ℕ). over x (replicate (block_bytes p) 0)) e₁)

-- .. and of a short one, as code copies the key
pub key_block_short : (p : Sha2) (k : List ℕ) {b : List ℕ} → length k ≤ block_bytes p
    → b ≡ over (take (length (replicate {A = ℕ} (block_bytes p) 0)) k) (replicate (block_bytes p) 0) → b ≡ key_block p k
unfolding key_block
key_block_short p k l e =
    let z : length (replicate {A = ℕ} (block_bytes p) 0) ≡ block_bytes p = length-replicate (block_bytes p) 0 in
    rw (le-leb _ _ l) (e ∙ over_fits k (replicate (block_bytes p) 0) (omega arith))

module _ (p : Sha2) (pos : 0 < block_bytes p) where
  -- a start's parts, as code makes them
  pub begun_is : {i o : List ℕ} {n m : Hashing} (b : List ℕ) → i ≡ xor_each 0x36 b → o ≡ xor_each 0x5c b
      → length i ≤ message_limit → length o ≤ message_limit
      → n ≡ (hashing.feed p (hashing.start p) i).next → m ≡ (hashing.feed p (hashing.start p) o).next
      → ◌≡◌ {A = Tagging} (record { inner = n; outer = m }) (begun p b)
  unfolding begun
  begun_is {i} {o} b e₁ e₂ l₁ l₂ e₃ e₄ = cc (
    e₁,
    e₂,
    e₃,
    e₄,
    start_taken p message_limit i l₁,
    start_taken p message_limit
        o l₂,
  )

  inner-feeds : (ss : List (List ℕ)) (t : Tagging) → (feeds p t ss).inner
      ≡ hash_feeds.feeds p (message_limit + block_bytes p) t.inner ss
  unfolding feeds feed hash_feeds.feeds
  inner-feeds [] t = refl
  inner-feeds (s ∷ ss) t = inner-feeds ss (feed p t s).next

  outer_feeds : (ss : List (List ℕ)) (t : Tagging) → (feeds p t ss).outer ≡ t.outer
  unfolding feeds feed
  outer_feeds [] t = refl
  outer_feeds (s ∷ ss) t = outer_feeds ss (feed p t s).next

  begun-inner : (b : List ℕ) → Holds p (begun p b).inner (xor_each 0x36 b)
  unfolding begun
  begun-inner b = absorbed-holds p pos (hashing.start p) [] (xor_each 0x36 b) (start-holds p pos)

  begun_outer : (b : List ℕ) → Holds p (begun p b).outer (xor_each 0x5c b)
  unfolding begun
  begun_outer b = absorbed-holds p pos (hashing.start p) [] (xor_each 0x5c b) (start-holds p pos)

  -- the inner hash, after the accepted parts
  module _ (b : List ℕ) (e : length b ≡ block_bytes p) (ss : List (List ℕ)) where
    shifted : accepted (message_limit + block_bytes p) (length (xor_each 0x36 b)) ss ≡ accepted message_limit 0 ss
    shifted =
        let n : length (xor_each 0x36 b) ≡ 0 + block_bytes p = length-xor_each 0x36 b ∙ e
        ∙ sym (zero-add (block_bytes p)) in
        ap (λ (m : ℕ). accepted (message_limit + block_bytes p) m ss) n ∙ accepted-shift (block_bytes p) message_limit 0 ss

    inner-hash : hashing.finish p (feeds p (begun p b) ss).inner
        ≡ hash p (xor_each 0x36 b ++ accepted message_limit 0 ss)
    inner-hash =
        ap (hashing.finish p) (inner-feeds ss (begun p b))
        ∙ finish-holds p pos _ _ (feeds-holds p pos (message_limit + block_bytes p) ss (begun p b).inner (xor_each 0x36 b)
        (begun-inner b))
        ∙ ap (λ (m : List ℕ). hash p (xor_each 0x36 b ++ m)) shifted

    -- the theorem, of a key block; a block and a digest are a message
    pub tag-hash : length p.iv ≡ 8 → block_bytes p + 8 * p.bytes ≤ message_limit
        → finish p (feeds p (begun p b) ss)
        ≡ hash p (xor_each 0x5c b ++ hash p (xor_each 0x36 b ++ accepted message_limit 0 ss))
    unfolding finish
    tag-hash words room =
        let d : List ℕ = hash p (xor_each 0x36 b ++ accepted message_limit 0 ss) in
        let o = begun_outer b in
        let fits : (begun p b).outer.total + length d ≤ message_limit =
        omega (
          arith,
          o.counted,
          length-xor_each 0x5c b,
          length-hash p
              (xor_each 0x36 b ++ accepted message_limit 0 ss) words,
        ) in
        ap (λ (x : List ℕ). hashing.finish p (hashing.feed p (feeds p (begun p b) ss).outer x).next) inner-hash
        ∙ ap (λ (x : Hashing). hashing.finish p (hashing.feed p x d).next) (outer_feeds ss (begun p b))
        ∙ ap (hashing.finish p) (feed_taken p message_limit (begun p b).outer d fits)
        ∙ finish-holds p pos _ _ (absorbed-holds p pos (begun p b).outer (xor_each 0x5c b) d o)

-- the theorem: a tag in parts is RFC 2104's, of the parts that were accepted
pub hmac_of_parts : (p : Sha2) → 0 < block_bytes p → length p.iv ≡ 8 → block_bytes p + 8 * p.bytes ≤ message_limit
    → (k : List ℕ) (ss : List (List ℕ))
    → finish p (feeds p (begun p (key_block p k)) ss) ≡ hmac p k (accepted message_limit 0 ss)
unfolding hmac
hmac_of_parts p pos words room k ss = tag-hash p pos (key_block p k) (length-key_block p words k) ss words room
