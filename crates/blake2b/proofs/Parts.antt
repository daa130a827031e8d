-- The theorem of BLAKE2b in parts: a finish after any list of feeds is RFC 7693's hash of the accepted parts joined.
--
-- It is over the definitions that the contracts of `start`, `feed` and `finish` equate the code with, so it holds of it.
-- In order: full_of_parts (all 64 bytes), blake2b_of_parts (whichever are refused), full_of_joined, blake2b_of_joined
-- (within the limit), full_of_one, full_of_two, length-blake2b.
-- Assumes nothing.
use mathlib.Core.Path.{◌≡◌, ap, ◌∙◌}
use mathlib.Core.List.{List, [], ◌∷◌, ◌++◌, append-nil}
use Prim.Native.Nat.{ℕ, ◌+◌, ◌≤◌}
use native.Mathlib.Omega.{arith}
use lib.ListN.{length, take, length-append}
use lib.Seq.{length-take-le}
use Rattle.refusals.specs.Limits.{message_limit}
use Rattle.fips180.specs.Feeds.{accepted, joined}
use Rattle.fips180.proofs.Laws.Feeds.{accepted_all}
use Rattle.blake2b.specs.Rfc7693.{full, blake2b}
use Rattle.blake2b.specs.State.{started, fed, finished, feeds}
use Rattle.blake2b.proofs.Laws.Feeding.{started-holds, feeds-holds, finished_holds, length_full}

pub full_of_parts : (nn : ℕ) (ss : List (List ℕ))
    → finished (feeds (started nn) ss) ≡ full nn (accepted message_limit 0 ss)
full_of_parts nn ss = finished_holds nn (feeds (started nn) ss) (accepted message_limit 0 ss)
    (feeds-holds nn ss (started nn) [] (started-holds nn))

pub blake2b_of_parts : (nn : ℕ) (ss : List (List ℕ))
    → take nn (finished (feeds (started nn) ss)) ≡ blake2b nn (accepted message_limit 0 ss)
unfolding blake2b
blake2b_of_parts nn ss = ap (take nn) (full_of_parts nn ss)

pub full_of_joined : (nn : ℕ) (ss : List (List ℕ)) → length (joined ss) ≤ message_limit
    → finished (feeds (started nn) ss) ≡ full nn (joined ss)
full_of_joined nn ss l = full_of_parts nn ss ∙ ap (full nn) (accepted_all message_limit 0 ss (omega arith))

pub blake2b_of_joined : (nn : ℕ) (ss : List (List ℕ)) → length (joined ss) ≤ message_limit
    → take nn (finished (feeds (started nn) ss)) ≡ blake2b nn (joined ss)
unfolding blake2b
blake2b_of_joined nn ss l = ap (take nn) (full_of_joined nn ss l)

-- one part, and two, as callers feed them
pub full_of_one : (nn : ℕ) (a : List ℕ) → length a ≤ message_limit → finished (fed (started nn) a).next ≡ full nn a
unfolding feeds joined
full_of_one nn a l =
    let j : length (joined (a ∷ [])) ≤ message_limit = simp append-nil l in
    full_of_joined nn (a ∷ []) j ∙ ap (full nn) (append-nil a)

pub full_of_two : (nn : ℕ) (a b : List ℕ) → length a + length b ≤ message_limit
    → finished (fed (fed (started nn) a).next b).next ≡ full nn (a ++ b)
unfolding feeds joined
full_of_two nn a b l =
    let j : length (joined (a ∷ b ∷ [])) ≤ message_limit = simp (append-nil, length-append) l in
    full_of_joined nn (a ∷ b ∷ []) j ∙ ap (λ (t : List ℕ). full nn (a ++ t)) (append-nil b)

pub length-blake2b : (nn : ℕ) (m : List ℕ) → nn ≤ 64 → length (blake2b nn m) ≡ nn
unfolding blake2b
length-blake2b nn m l = length-take-le nn (full nn m) (omega (arith, length_full nn m))
