-- `states::aes_kdf_state::pack` meets its contract. Assumes nothing.
use mathlib.Core.Path.{◌≡◌, refl, ap, ◌∙◌}
use mathlib.Core.List.{[], ◌∷◌}
use Prim.Native.Nat.{◌*◌}
use native.Mathlib.Omega.{arith}
use lib.ListN.{length}
use Rattle.words.specs.Endian.{le_bytes}
use Rattle.words.proofs.Laws.Endian.{length-le_bytes}
use Rattle.slices.proofs.Laws.Zeros.{zeros}
use Rattle.slices.proofs.Laws.Put.{length-put_at}
use Rattle.states.specs.Words.{word_bytes}
use Rattle.states.specs.AesKdfState.{byte_of, packed}
use Rattle.states.proofs.Laws.Words.{length-word_bytes}
use Rattle.states.proofs.Laws.Parts.{put_first, put_more, put_all}
use borrow.Author.Rules.{rules}
use Rattle.states.proofs.aes_kdf_state.pack.Goals as goal

pub put_words32-requires : goal.put_words32-requires
put_words32-requires c =
    let long_keys : length c.args.t.keys.words ≡ 60 = search rules in
    let l : length c.put.new.out ≡ 281 = ap length c.put.ensures ∙ length-put_at 0 _ (zeros 281) in
    omega (arith, long_keys)

pub returns : goal.returns
unfolding packed
returns c =
    let long_keys : length c.args.t.keys.words ≡ 60 = search rules in
    let long_left : length c.args.t.left ≡ 16 = search rules in
    let long_right : length c.args.t.right ≡ 16 = search rules in
    let t = c.args.t in
    let p₁ = put_first (byte_of t.mark ∷ []) (zeros 281) 0 1 (search rules) refl
    (ap (λ x. x ∷ []) c.byte_of.ensures) c.put.ensures in
    let p₂ = put_more p₁ (word_bytes 4 t.keys.words) 240
    (length-word_bytes 4 t.keys.words ∙ ap (λ n. n * 4) long_keys) refl c.put_words32.ensures in
    let p₃ = put_more p₂ t.left 16 long_left refl c.put-2.ensures in
    let p₄ = put_more p₃ t.right 16 long_right refl c.put-3.ensures in
    let p₅ = put_more p₄ (le_bytes 4 t.done) 4 (length-le_bytes 4 t.done) c.bytes32-done.ensures
    c.put-4.ensures in
    let p₆ = put_more p₅ (le_bytes 4 t.rounds) 4 (length-le_bytes 4 t.rounds) c.bytes32-rounds.ensures
    c.put-5.ensures in
    put_all p₆ refl
