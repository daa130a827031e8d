-- H_0 (3.2, step 1), as code hashes it.
--
-- In order:
--   length-prehash    forty bytes of figures and lengths, and the inputs
--   fits_rest         the last of the inputs is held against what the others leave
--   figures-fed       the figures, fed one after the other
--   h0_is             a finish after the figures and the inputs
-- Assumes nothing.
use mathlib.Core.Path.{◌≡◌, sym, ap, ◌∙◌}
use mathlib.Core.List.{List, [], ◌∷◌, append_assoc, append-nil}
use Prim.Native.Nat.{ℕ, ◌+◌, ◌%◌, ◌^◌, ◌≤◌}
use native.Mathlib.Omega.{arith}
use lib.Dec.{leb}
use lib.ListN.{length, length-append}
use borrow.Author.Tests.{le-leb, lt-leb, leb-true, leb-false}
use Rattle.words.specs.Endian.{le_bytes}
use Rattle.words.proofs.Laws.Endian.{length-le_bytes}
use Rattle.words.proofs.Laws.Cases.{by_bool}
use Rattle.refusals.specs.Limits.{message_limit}
use Rattle.fips180.specs.Feeds.{joined}
use Rattle.blake2b.specs.Rfc7693.{full}
use Rattle.blake2b.specs.State.{started, fed, finished, feeds}
use Rattle.blake2b.specs.declared.Blake2b.{Blake2b}
use Rattle.blake2b.proofs.Parts.{full_of_joined}
use Rattle.argon2_hash.proofs.Laws.Long.{full_64, le_bytes_low}
use Rattle.argon2.specs.Rfc9106.{Inputs, prehash, h0}

-- how long the inputs are in all
abbrev pub inputs_length : Inputs → ℕ
inputs_length i = length i.password + length i.salt + length i.secret + length i.associated

pub length-prehash : (i : Inputs) → length (prehash i) ≡ 40 + inputs_length i
unfolding prehash
length-prehash i = simp (length-append, length-le_bytes) (omega arith)

-- n bytes leave r of m for x more
pub fits_rest : (n r m x s : ℕ) → n + r ≡ m → s ≡ n + x → leb x r ≡ leb s m
fits_rest n r m x s e f =
    by_bool (leb x r)
    (λ t. let h = leb-true x r t in t ∙ sym (le-leb s m (omega arith)))
    (λ t. let h = leb-false x r t in t ∙ sym (lt-leb s m (omega arith)))

-- p, T, m, t, v, y
abbrev figure_parts : ℕ → ℕ → ℕ → ℕ → ℕ → List (List ℕ) → List (List ℕ)
figure_parts p t m n y ss =
    le_bytes 4 p ∷ le_bytes 4 t ∷ le_bytes 4 m ∷ le_bytes 4 n ∷ le_bytes 4 0x13 ∷ le_bytes 4 y ∷ ss

pub figures-fed : (p t m n y : ℕ) {b₀ b₁ b₂ b₃ b₄ b₅ b₆ : Blake2b} → b₀ ≡ started 64
    → b₁ ≡ (fed b₀ (le_bytes 4 p)).next → b₂ ≡ (fed b₁ (le_bytes 4 (t % 2 ^ 32))).next → b₃ ≡ (fed b₂ (le_bytes 4 m)).next
    → b₄ ≡ (fed b₃ (le_bytes 4 n)).next → b₅ ≡ (fed b₄ (le_bytes 4 0x13)).next → b₆ ≡ (fed b₅ (le_bytes 4 y)).next
    → b₆ ≡ feeds (started 64) (figure_parts p t m n y [])
unfolding feeds
figures-fed p t m n y e₀ e₁ e₂ e₃ e₄ e₅ e₆ = rw (e₆, e₅, e₄, e₃, e₂, le_bytes_low t, e₁, e₀)

-- all that is fed
abbrev parts : Inputs → List (List ℕ)
parts i =
    figure_parts i.lanes i.tag_length i.memory i.passes i.kind
    (le_bytes 4 (length i.password) ∷ i.password ∷ le_bytes 4 (length i.salt) ∷ i.salt
    ∷ le_bytes 4 (length i.secret) ∷ i.secret ∷ le_bytes 4 (length i.associated) ∷ i.associated ∷ [])

joined-parts : (i : Inputs) → joined (parts i) ≡ prehash i
unfolding joined prehash
joined-parts i = simp (append_assoc, append-nil)

-- a length and bytes, fed
abbrev pub counted_fed : Blake2b → List ℕ → Blake2b
counted_fed b s = (fed (fed b (le_bytes 4 (length s))).next s).next

pub h0_is : (i : Inputs) {b₀ b₁ b₂ b₃ b₄ : Blake2b} {r : List ℕ} → 40 + inputs_length i ≤ message_limit
    → b₀ ≡ feeds (started 64) (figure_parts i.lanes i.tag_length i.memory i.passes i.kind [])
    → b₁ ≡ counted_fed b₀ i.password → b₂ ≡ counted_fed b₁ i.salt → b₃ ≡ counted_fed b₂ i.secret
    → b₄ ≡ counted_fed b₃ i.associated → r ≡ finished b₄ → r ≡ h0 i
unfolding feeds h0
h0_is i l e₀ e₁ e₂ e₃ e₄ er =
    let j = joined-parts i in
    let k : length (joined (parts i)) ≤ message_limit = rw (j, length-prehash i) l in
    rw (er, e₄, e₃, e₂, e₁, e₀) (full_of_joined 64 (parts i) k ∙ ap (full 64) j ∙ full_64 (prehash i))
