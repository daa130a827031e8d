-- Where the items of a dictionary lie.
--
-- In order:
--   item_of_within                 an item lies within the dictionary
--   item_within, salt_within      .. so does what code finds, and Argon2's salt
-- Not here: dictionaries themselves (crate dictionary).
-- Assumes nothing.
use mathlib.Core.Path.{◌≡◌, refl, sym, ◌∙◌}
use mathlib.Core.List.{List}
use Prim.Native.Nat.{ℕ, ◌≤◌}
use native.Mathlib.Omega.{arith}
use lib.Dec.{eqb}
use lib.ListN.{length}
use Rattle.words.proofs.Laws.Cases.{by_bool}
use Rattle.fields.specs.Fields.{end_of}
use Rattle.fields.specs.declared.Place.{Place}
use Rattle.std.specs.Prelude.{Option, Some, None, Result, Ok, Err}
use Rattle.dictionary.specs.declared.Value.{Value}
use Rattle.refusals.specs.declared.Refusal.{Refusal}
use Rattle.dictionary.proofs.Laws.Find.{search_from_within}
use Rattle.kdf_dictionary.specs.Kdf.{salt_name}
use Rattle.kdf_dictionary.specs.KdfDictionary.{searched, typed_in, item_of, argon2_items}
use Rattle.kdf_dictionary.specs.declared.Items.{Items}

typed_in_within : (d name : List ℕ) (kind : ℕ) (f : Result (Option Value) Refusal) → searched d name ≡ f → end_of (typed_in kind f) ≤ length d
unfolding typed_in
typed_in_within d name kind (Err r) e = omega arith
typed_in_within d name kind (Ok None) e = omega arith
typed_in_within d name kind (Ok (Some v)) e =
    let w = search_from_within d name (length d) 2 v.kind v.start v.length e in
    by_bool (eqb v.kind kind) (λ t. rw t w.0) (λ t. rw t (omega arith))

-- an item that is absent has no bytes at 0
pub item_of_within : (d name : List ℕ) (kind : ℕ) → end_of (item_of d name kind) ≤ length d
item_of_within d name kind = typed_in_within d name kind (searched d name) refl

pub item_within : (d name : List ℕ) (kind : ℕ) (q : Place) → q ≡ item_of d name kind → end_of q ≤ length d
item_within d name kind q e = rw e (item_of_within d name kind)

pub salt_within : (d : List ℕ) (i : Items) → i ≡ argon2_items d → end_of i.salt ≤ length d
unfolding argon2_items
salt_within d i e = rw e (item_of_within d salt_name 0x42)

-- the value of what is found begins within the dictionary
pub found_within : (d name : List ℕ) (f : Result (Option Value) Refusal) → f ≡ searched d name → (k start n : ℕ) → f ≡ Ok (Some (record { kind = k; start = start; length = n }))
    → start ≤ length d
found_within d name f e k start n q =
    let w = search_from_within d name (length d) 2 k start n (sym e ∙ q) in
    omega (arith, w.0)
