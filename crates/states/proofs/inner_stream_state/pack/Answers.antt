-- `states::inner_stream_state::pack` meets its contract. Assumes nothing.
use mathlib.Core.Path.{◌≡◌, refl, ap}
use mathlib.Core.List.{[], ◌∷◌}
use lib.ListN.{length}
use Rattle.words.specs.Endian.{le_bytes}
use Rattle.words.proofs.Laws.Endian.{length-le_bytes}
use Rattle.slices.proofs.Laws.Zeros.{zeros}
use Rattle.states.specs.InnerStreamState.{byte_of, packed}
use Rattle.states.proofs.Laws.Parts.{put_first, put_more, put_all}
use borrow.Author.Rules.{rules}
use Rattle.states.proofs.inner_stream_state.pack.Goals as goal

pub returns : goal.returns
unfolding packed
returns c =
    let long_key : length c.args.s.key ≡ 32 = search rules in
    let long_nonce : length c.args.s.nonce ≡ 12 = search rules in
    let s = c.args.s in
    let p₁ = put_first (byte_of s.cipher ∷ []) (zeros 53) 0 1 (search rules) refl
    (ap (λ x. x ∷ []) c.byte_of.ensures) c.put.ensures in
    let p₂ = put_more p₁ s.key 32 long_key refl c.put-2.ensures in
    let p₃ = put_more p₂ s.nonce 12 long_nonce refl c.put-3.ensures in
    let p₄ = put_more p₃ (le_bytes 8 s.position) 8 (length-le_bytes 8 s.position) c.bytes64-position.ensures
    c.put-4.ensures in
    put_all p₄ refl
