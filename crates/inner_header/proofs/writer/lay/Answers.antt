-- `inner_header::writer::lay` meets its contract. Assumes nothing.
use mathlib.Core.Path.{◌≡◌, refl}
use mathlib.Core.List.{List, [], ◌∷◌}
use Prim.Native.Nat.{ℕ}
use Rattle.words.specs.Endian.{le_bytes}
use Rattle.fields.specs.Fields.{field_bytes}
use Rattle.inner_header.proofs.Laws.Laid.{laid-payload}
use Rattle.inner_header.proofs.writer.lay.Goals as goal

-- the end field's bytes
ends : ◌≡◌ {A = List ℕ} (0 ∷ 0 ∷ 0 ∷ 0 ∷ 0 ∷ []) (field_bytes 0 [])
unfolding field_bytes le_bytes
ends = refl

pub returns : goal.returns
returns c =
    let a = c.args in
    laid-payload a.algorithm a.key.now a.run.now a.document.now c.bytes32-number.result
    (0 ∷ 0 ∷ 0 ∷ 0 ∷ 0 ∷ [])
    a.out.now
    c.bytes32-number.ensures
    ends
    c.requires
    _ _ _ _ _
    c.put.ensures
    c.put-2.ensures
    c.put-3.ensures
    c.put-4.ensures
    c.put-5.ensures
