-- A payload as code lays it into a lent output, one part behind the other: laid-payload.
-- Assumes nothing.
use mathlib.Core.Path.{◌≡◌, ◌∙◌}
use mathlib.Core.List.{List, [], ◌++◌}
use Prim.Native.Nat.{ℕ, ◌+◌, ◌≤◌}
use native.Mathlib.Omega.{arith}
use lib.ListN.{length, length-append}
use Rattle.words.specs.Endian.{le_bytes}
use Rattle.words.proofs.Laws.Endian.{length-le_bytes}
use Rattle.slices.specs.Over.{over, laid, put_at}
use Rattle.slices.proofs.Laws.Over.{over_fits}
use Rattle.slices.proofs.Laws.Put.{laid_first, laid_more}
use Rattle.fields.specs.Fields.{field_bytes}
use Rattle.fields.proofs.Laws.Written.{length-field_bytes}
use Rattle.inner_header.specs.Writer.{payload_bytes, payload_length}

module _ (algorithm : ℕ) (key attachments document number end d : List ℕ) (n : number ≡ le_bytes 4 algorithm)
    (z : end ≡ field_bytes 0 [])
    (room : payload_length (length key) (length attachments) (length document) ≤ length d) where
  pub laid-payload : (x₁ x₂ x₃ x₄ x₅ : List ℕ) → x₁ ≡ put_at 0 (field_bytes 1 number) d
      → x₂ ≡ put_at 9 (field_bytes 2 key) x₁ → x₃ ≡ put_at (14 + length key) attachments x₂
      → x₄ ≡ put_at (14 + length key + length attachments) end x₃
      → x₅ ≡ put_at (14 + length key + length attachments + 5) document x₄
      → x₅ ≡ over (payload_bytes algorithm key attachments document) d
  unfolding payload_bytes
  laid-payload x₁ x₂ x₃ x₄ x₅ e₁ e₂ e₃ e₄ e₅ =
      let a = field_bytes 1 number in
      let b = field_bytes 2 key in
      let m : length number ≡ 4 = rw n (length-le_bytes 4 algorithm) in
      let la = length-field_bytes 1 number in
      let lb = length-field_bytes 2 key in
      let lc = length-field_bytes 0 [] in
      let l₁ : length a ≡ 9 = omega arith in
      let l₂ : length (a ++ b) ≡ 14 + length key = simp length-append (omega arith) in
      let l₃ : length (a ++ b ++ attachments) ≡ 14 + length key + length attachments =
      simp length-append (omega arith) in
      let l₄ : length (a ++ b ++ attachments ++ end) ≡ 14 + length key + length attachments + 5 =
      rw z (simp length-append (omega arith)) in
      let l₅ : length (a ++ b ++ attachments ++ end ++ document) ≤ length d =
      omega (arith, length-append (a ++ b ++ attachments ++ end) document, l₄) in
      let s₁ = laid_first a d x₁ e₁ in
      let s₂ = laid_more a b d x₁ x₂ 9 l₁ s₁ e₂ in
      let s₃ = laid_more (a ++ b) attachments d x₂ x₃ (14 + length key) l₂ s₂ e₃ in
      let s₄ = laid_more (a ++ b ++ attachments) end d x₃ x₄ (14 + length key + length attachments) l₃ s₃ e₄ in
      let s₅ : x₅ ≡ laid (a ++ b ++ attachments ++ end ++ document) d =
      laid_more (a ++ b ++ attachments ++ end) document d x₄ x₅ (14 + length key + length attachments + 5) l₄ s₄ e₅ in
      let s₆ : x₅ ≡ over (a ++ b ++ attachments ++ end ++ document) d =
      s₅ ∙ over_fits (a ++ b ++ attachments ++ end ++ document) d l₅ in
      rw (← n, ← z) s₆
