-- `dictionary::search_sound` meets its contract. The invariant: the walk from here, over the items left, is the whole
-- walk. Assumes nothing.
use mathlib.Core.Path.{◌≡◌}
use Prim.Native.Nat.{◌-◌}
use lib.ListN.{length}
use Rattle.dictionary.specs.Dictionary.{search_from}
use Rattle.dictionary.proofs.search_sound.Given as goal

abbrev pub invariant-loop : goal.invariant-loop
invariant-loop l = search_from (length l.s - l.counter) l.s l.at l.name ≡ search_from (length l.s) l.s 2 l.name
