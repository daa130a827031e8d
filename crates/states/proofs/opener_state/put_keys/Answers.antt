-- `states::opener_state::put_keys` meets its contract. Assumes nothing.
use mathlib.Core.Path.{◌≡◌, refl, ap, ◌∙◌}
use Prim.Native.Nat.{◌*◌, ◌≤◌}
use native.Mathlib.Omega.{arith}
use lib.ListN.{length}
use Rattle.slices.proofs.Laws.Put.{length-put_at}
use Rattle.states.specs.Words.{word_bytes}
use Rattle.states.specs.OpenerState.{keys}
use Rattle.states.proofs.Laws.Words.{length-word_bytes}
use Rattle.states.proofs.Laws.Parts.{put_first, put_more}
use borrow.Author.Rules.{rules}
use Rattle.states.proofs.opener_state.put_keys.Goals as goal

pub put_words32-requires : goal.put_words32-requires
put_words32-requires c =
    let long_round_keys : length c.args.k.round_keys.words ≡ 60 = search rules in
    let l : length c.put.new.out ≡ length c.args.out.now =
    ap length c.put.ensures ∙ length-put_at 58 c.args.k.key c.args.out.now in
    omega (arith, long_round_keys)

pub returns : goal.returns
unfolding keys
returns c =
    let long_key : length c.args.k.key ≡ 32 = search rules in
    let long_round_keys : length c.args.k.round_keys.words ≡ 60 = search rules in
    let long_nonce : length c.args.k.nonce ≡ 16 = search rules in
    let long_base : length c.args.k.base ≡ 64 = search rules in
    let k = c.args.k in
    let room : 58 ≤ length c.args.out.now = omega (arith, c.requires) in
    let p₁ = put_first k.key c.args.out.now 58 32 room long_key refl c.put.ensures in
    let p₂ = put_more p₁ (word_bytes 4 k.round_keys.words) 240
    (length-word_bytes 4 k.round_keys.words ∙ ap (λ n. n * 4) long_round_keys) refl
    c.put_words32.ensures in
    let p₃ = put_more p₂ k.nonce 16 long_nonce refl c.put-2.ensures in
    let p₄ = put_more p₃ k.base 64 long_base refl c.put-3.ensures in
    p₄.is
