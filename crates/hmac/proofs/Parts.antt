-- The theorem of HMAC-SHA-256 in parts: a finish after any list of feeds is RFC 2104's tag of the accepted parts
-- joined.
--
-- It is over the definitions that the contracts of `start`, `feed` and `finish` equate the code with, so it holds of
-- the code.
-- In order: hmac_sha256_of_parts (whichever are refused), hmac_sha256_of_joined (within the limit), hmac_sha256_of_one.
-- Assumes nothing.
use Rattle.std.specs.Prelude.{Ok}
use mathlib.Core.Path.{◌≡◌, refl, ap, ◌∙◌}
use mathlib.Core.List.{List, [], ◌∷◌, append-nil}
use Prim.Native.Nat.{ℕ, ◌≤◌}
use native.Mathlib.Omega.{arith}
use lib.ListN.{length}
use borrow.Author.Tests.{le-leb}
use Rattle.refusals.specs.Limits.{message_limit}
use Rattle.refusals.proofs.Laws.Limits.{message_blocks}
use Rattle.fips180.specs.Fips180.{sha256}
use Rattle.fips180.specs.Feeds.{accepted, joined}
use Rattle.fips180.proofs.Laws.Feeds.{accepted_all}
use Rattle.fips180.proofs.Laws.Lengths.{length-iv256}
use Rattle.hmac.specs.declared.Hmac.{Hmac}
use Rattle.hmac.specs.declared.Keyed.{Keyed}
use Rattle.hmac.specs.Rfc2104.{key_block, hmac}
use Rattle.hmac.specs.Tagging as tagging
use Rattle.hmac.specs.State.{tag_held, keyed_stored, begun, started, fed, finished, feeds}
use Rattle.hmac.proofs.Laws.{hmac_of_parts}

held-feeds : (ss : List (List ℕ)) (t : Hmac) → tag_held (feeds t ss) ≡ tagging.feeds sha256 (tag_held t) ss
unfolding feeds tagging.feeds
held-feeds [] t = refl
held-feeds (s ∷ ss) t = held-feeds ss _

-- a key within the limit is accepted
pub started-key : (k : List ℕ) → length k ≤ message_limit
    → started k ≡ keyed_stored (record { outcome = Ok tt; next = tagging.begun sha256 (key_block sha256 k) })
unfolding tagging.start
started-key k l = rw (le-leb _ _ l)

-- whatever the parts, and whichever of them are refused
pub hmac_sha256_of_parts : (k : List ℕ) (ss : List (List ℕ)) → length k ≤ message_limit
    → finished (feeds (started k).next ss) ≡ hmac sha256 k (accepted message_limit 0 ss)
hmac_sha256_of_parts k ss l =
    ap (λ (r : Keyed). finished (feeds r.next ss)) (started-key k l)
    ∙ ap (tagging.finish sha256) (held-feeds ss (begun (key_block sha256 k)))
    ∙ hmac_of_parts sha256 (omega arith) length-iv256 (omega (arith, message_blocks)) k ss

-- within the limit: the tag of all of them
pub hmac_sha256_of_joined : (k : List ℕ) (ss : List (List ℕ)) → length k ≤ message_limit
    → length (joined ss) ≤ message_limit
    → finished (feeds (started k).next ss) ≡ hmac sha256 k (joined ss)
hmac_sha256_of_joined k ss l m = hmac_sha256_of_parts k ss l
    ∙ ap (hmac sha256 k) (accepted_all message_limit 0 ss (omega arith))

-- a whole message in one feed
pub hmac_sha256_of_one : (k m : List ℕ) → length k ≤ message_limit → length m ≤ message_limit
    → finished (fed (started k).next m).next ≡ hmac sha256 k m
unfolding feeds joined
hmac_sha256_of_one k m lk lm =
    let j : length (joined (m ∷ [])) ≤ message_limit = rw append-nil lm in
    hmac_sha256_of_joined k (m ∷ []) lk j ∙ ap (hmac sha256 k) (append-nil m)
