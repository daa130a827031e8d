-- The theorem of SHA-256 in parts: a finish after any list of feeds is FIPS 180-4's hash of the accepted parts joined.
--
-- It is over the definitions that the contracts of `start`, `feed` and `finish` equate the code with, so it holds of
-- the code.
-- In order: held-feeds, sha256_of_parts (whichever are refused), sha256_of_joined (within the limit), sha256_of_two,
-- sha256_of_three.
-- Assumes nothing.
use mathlib.Core.Path.{◌≡◌, refl, ap, ◌∙◌}
use mathlib.Core.List.{List, [], ◌∷◌, ◌++◌}
use Prim.Native.Nat.{ℕ, ◌+◌, ◌≤◌}
use native.Mathlib.Omega.{arith}
use lib.ListN.{length}
use Rattle.refusals.specs.Limits.{message_limit}
use Rattle.fips180.specs.Fips180.{sha256, hash}
use Rattle.fips180.specs.Hashing as hashing
use Rattle.fips180.specs.Feeds as generic
use Rattle.fips180.specs.Feeds.{accepted, joined}
use Rattle.fips180.proofs.Laws.Feeds.{feeds-hash, feeds_hash_all, two_hash, three_hash}
use Rattle.sha256.specs.declared.Sha256.{Sha256}
use Rattle.sha256.specs.State.{held, started, fed, finished, feeds}

pub held-feeds : (ss : List (List ℕ)) (h : Sha256) → held (feeds h ss) ≡ generic.feeds sha256 message_limit (held h) ss
unfolding feeds generic.feeds
held-feeds [] h = refl
held-feeds (s ∷ ss) h = held-feeds ss _

pub sha256_of_parts : (ss : List (List ℕ)) → finished (feeds started ss) ≡ hash sha256 (accepted message_limit 0 ss)
sha256_of_parts ss = ap (hashing.finish sha256) (held-feeds ss started)
    ∙ feeds-hash sha256 (omega arith) message_limit ss

pub sha256_of_joined : (ss : List (List ℕ)) → length (joined ss) ≤ message_limit → finished (feeds started ss)
    ≡ hash sha256 (joined ss)
sha256_of_joined ss l = ap (hashing.finish sha256) (held-feeds ss started)
    ∙ feeds_hash_all sha256 (omega arith) message_limit ss l

-- two parts, and three, as callers feed them
pub sha256_of_two : (a b : List ℕ) → length a + length b ≤ message_limit
    → finished (fed (fed started a).next b).next ≡ hash sha256 (a ++ b)
sha256_of_two = two_hash sha256 (omega arith) message_limit

pub sha256_of_three : (a b c : List ℕ) → length a + (length b + length c) ≤ message_limit
    → finished (fed (fed (fed started a).next b).next c).next ≡ hash sha256 (a ++ (b ++ c))
sha256_of_three = three_hash sha256 (omega arith) message_limit
