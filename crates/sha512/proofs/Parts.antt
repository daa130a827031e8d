-- The theorem of SHA-512 in parts: a finish after any list of feeds is FIPS 180-4's hash of the accepted parts joined.
--
-- It is over the definitions that the contracts of `start`, `feed` and `finish` equate the code with, so it holds of
-- the code.
-- In order: held-feeds, sha512_of_parts (whichever are refused), sha512_of_joined (within the limit), sha512_of_two,
-- sha512_of_three.
-- Assumes nothing.
use mathlib.Core.Path.{◌≡◌, refl, ap, ◌∙◌}
use mathlib.Core.List.{List, [], ◌∷◌, ◌++◌}
use Prim.Native.Nat.{ℕ, ◌+◌, ◌≤◌}
use native.Mathlib.Omega.{arith}
use lib.ListN.{length}
use Rattle.refusals.specs.Limits.{message_limit}
use Rattle.fips180.specs.Fips180.{sha512, hash}
use Rattle.fips180.specs.Hashing as hashing
use Rattle.fips180.specs.Feeds as generic
use Rattle.fips180.specs.Feeds.{accepted, joined}
use Rattle.fips180.proofs.Laws.Feeds.{feeds-hash, feeds_hash_all, two_hash, three_hash}
use Rattle.sha512.specs.declared.Sha512.{Sha512}
use Rattle.sha512.specs.State.{held, started, fed, finished, feeds}

pub held-feeds : (ss : List (List ℕ)) (h : Sha512) → held (feeds h ss) ≡ generic.feeds sha512 message_limit (held h) ss
unfolding feeds generic.feeds
held-feeds [] h = refl
held-feeds (s ∷ ss) h = held-feeds ss _

pub sha512_of_parts : (ss : List (List ℕ)) → finished (feeds started ss) ≡ hash sha512 (accepted message_limit 0 ss)
sha512_of_parts ss = ap (hashing.finish sha512) (held-feeds ss started)
    ∙ feeds-hash sha512 (omega arith) message_limit ss

pub sha512_of_joined : (ss : List (List ℕ)) → length (joined ss) ≤ message_limit → finished (feeds started ss)
    ≡ hash sha512 (joined ss)
sha512_of_joined ss l = ap (hashing.finish sha512) (held-feeds ss started)
    ∙ feeds_hash_all sha512 (omega arith) message_limit ss l

-- two parts, and three, as callers feed them
pub sha512_of_two : (a b : List ℕ) → length a + length b ≤ message_limit
    → finished (fed (fed started a).next b).next ≡ hash sha512 (a ++ b)
sha512_of_two = two_hash sha512 (omega arith) message_limit

pub sha512_of_three : (a b c : List ℕ) → length a + (length b + length c) ≤ message_limit
    → finished (fed (fed (fed started a).next b).next c).next ≡ hash sha512 (a ++ (b ++ c))
sha512_of_three = three_hash sha512 (omega arith) message_limit
