-- A tag over two feeds.
--
-- In order: tag_of_two (the tag of two parts joined, each fed once).
-- Assumes nothing.
use mathlib.Core.Path.{◌≡◌, ap, ◌∙◌}
use mathlib.Core.List.{List, [], ◌∷◌, ◌++◌, append-nil}
use Prim.Native.Nat.{ℕ, ◌+◌, ◌≤◌}
use lib.ListN.{length, length-append}
use Rattle.refusals.specs.Limits.{message_limit}
use Rattle.fips180.specs.Fips180.{sha256}
use Rattle.fips180.specs.Feeds.{joined}
use Rattle.hmac.specs.Rfc2104.{hmac}
use Rattle.hmac.specs.State.{started, fed, finished, feeds}
use Rattle.hmac.proofs.Parts.{hmac_sha256_of_joined}

pub tag_of_two : (k a b : List ℕ) → length k ≤ message_limit → length a + length b ≤ message_limit
    → finished (fed (fed (started k).next a).next b).next ≡ hmac sha256 k (a ++ b)
unfolding feeds joined
tag_of_two k a b lk l =
    let e : b ++ [] ≡ b = append-nil b in
    let j : length (joined (a ∷ b ∷ [])) ≤ message_limit = rw (e, length-append) l in
    hmac_sha256_of_joined k (a ∷ b ∷ []) lk j ∙ ap (λ (x : List ℕ). hmac sha256 k (a ++ x)) e
