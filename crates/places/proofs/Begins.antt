-- Document 02, Item 8: what begins at the place of a refusal.
--
-- In order: lone_points (a lone dictionary), begins (the sentence).
-- Not here: that a place lies inside the input (Theorem).
-- Assumes nothing.
use mathlib.Core.List.{List}
use Prim.Native.Nat.{ℕ}
use lib.ListN.{length}
use Rattle.dictionary.specs.Dictionary.{verdict, search_from, find_in, find}
use Rattle.std.specs.Prelude.{Result, Ok, Err, Option, Some, None}
use Rattle.dictionary.specs.declared.Fault.TheVariants as fault
use Rattle.dictionary.specs.declared.Fault.{Fault}
use Rattle.dictionary.specs.declared.Value.{Value}
use Rattle.refusals.specs.declared.Refusal.{Refusal}
use Rattle.places.specs.Begins.{PointsToLone, Begins}
use Rattle.places.proofs.Laws.ItemsAt.{VerdictSays, FoundSays, verdict_points, searched_begins}
use Rattle.places.proofs.Laws.HeaderAt.{header_points}
use Rattle.places.proofs.Laws.InnerAt.{inner_points, attachment_points}

-- nothing is said of what is found, or is not there
abbrev Points : List ℕ → Result (Option Value) Refusal → Type 0
Points d (Ok (Some v)) = Unit
Points d (Ok None) = Unit
Points d (Err r) = PointsToLone d r

-- a search refuses nothing
searched_points : (d name : List ℕ) (f : Result (Option Value) Refusal) → FoundSays d name f → Points d f
searched_points d name (Ok (Some v)) h = tt
searched_points d name (Ok None) h = tt
searched_points d name (Err r) h = absurd h

find_in_points : (d name : List ℕ) (v : Result Unit Fault) → VerdictSays d v → Points d (find_in v d name)
unfolding find_in
find_in_points d name (Ok tt) h =
    searched_points d name (search_from (length d) d 2 name) (searched_begins d name)
find_in_points d name (Err (fault.Broken at)) h = PointsToLone.broken at h
find_in_points d name (Err (fault.Repeated at)) h = PointsToLone.repeated_item at h

lone_points : (d name : List ℕ) → Points d (find d name)
unfolding find
lone_points d name = find_in_points d name (verdict d) (verdict_points d)

-- THE SENTENCE
pub begins : Begins
begins =
    record {
      header_points = λ f r e. rw e at (header_points f);
      inner_points = λ p r e. rw e at (inner_points p);
      attachment_points = λ p i r e. rw e at (attachment_points p i);
      dictionary_points = λ d name r e. rw e at (lone_points d name);
    }
