-- Looking a name up in one call (document 01, "Header"; document 02, Item 8): the stretch that is shown, where it lies,
-- and what is told beside it.
--
--   "Looking up a name in a sound dictionary finds its value .. a broken
--    one is refused with 10 or 6. A name that isn't there is answered as
--    absent, with nothing shown, which differs from an empty value"         told
--   "shows that stretch of the dictionary itself, never of the name"        Looked
-- Not here: what a name is found as, and the bytes that are shown (Dictionary).
-- Assumes nothing.
use Rattle.std.specs.Prelude.{◌≡◌, Bool, true, false, List, ℕ, Option, Some, None, Result, Ok, Err}
use Rattle.std.specs.Borrow.{Bor}
use Rattle.slices.specs.Stretch.{behind}
use Rattle.refusals.specs.Numbers.{of_refusal, place_of}
use Rattle.dictionary.specs.declared.Value.{Value}
use Rattle.refusals.specs.declared.Refusal.{Refusal}
use Rattle.dictionary.specs.Dictionary.{find, lookup}

-- document 01's number, the place of a refusal, whether the name is there, its value's type and where that begins
pub record Told : Type 0 where
  pub number : ℕ
  pub place : ℕ
  pub found : Bool
  pub kind : ℕ
  pub start : ℕ

-- zero wherever nothing is to tell
unfoldable pub told : Result (Option Value) Refusal → Told
told (Ok (Some v)) = record { number = 0; place = 0; found = true; kind = v.kind; start = v.start }
told (Ok None) = record { number = 0; place = 0; found = false; kind = 0; start = 0 }
told (Err r) = record { number = of_refusal r; place = place_of r; found = false; kind = 0; start = 0 }

-- r is shown of a name in the dictionary d, with these numbers beside it: a stretch of d, or nothing, at d's front
pub record Looked (d name r : Bor (List ℕ)) (number place : ℕ) (found : Bool) (kind : ℕ) : Type 0 where
  pub bytes : r.now ≡ lookup d.now name.now
  pub lies : r.ref_ptr ≡ behind (told (find d.now name.now)).start d.ref_ptr
  pub number_is : number ≡ (told (find d.now name.now)).number
  pub place_is : place ≡ (told (find d.now name.now)).place
  pub found_is : found ≡ (told (find d.now name.now)).found
  pub kind_is : kind ≡ (told (find d.now name.now)).kind
