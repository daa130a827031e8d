-- `states::sha256_state::pack` meets its contract. Assumes nothing.
use mathlib.Core.Path.{◌≡◌, refl, ap, ◌∙◌}
use Prim.Native.Nat.{◌*◌}
use native.Mathlib.Omega.{arith}
use lib.ListN.{length}
use Rattle.words.specs.Endian.{le_bytes}
use Rattle.words.proofs.Laws.Endian.{length-le_bytes}
use Rattle.slices.proofs.Laws.Zeros.{zeros}
use Rattle.states.specs.Words.{word_bytes}
use Rattle.states.specs.Sha256State.{packed}
use Rattle.states.proofs.Laws.Words.{length-word_bytes}
use Rattle.states.proofs.Laws.Parts.{put_first, put_more, put_all}
use borrow.Author.Rules.{rules}
use Rattle.states.proofs.sha256_state.pack.Goals as goal

pub put_words32-requires : goal.put_words32-requires
put_words32-requires c =
    let long_chain : length c.args.s.chain ≡ 8 = search rules in
    omega (arith, long_chain)

pub returns : goal.returns
unfolding packed
returns c =
    let long_chain : length c.args.s.chain ≡ 8 = search rules in
    let long_buffer : length c.args.s.buffer ≡ 64 = search rules in
    let s = c.args.s in
    let p₁ = put_first (word_bytes 4 s.chain) (zeros 100) 0 32 (search rules)
    (length-word_bytes 4 s.chain ∙ ap (λ n. n * 4) long_chain) refl c.put_words32.ensures in
    let p₂ = put_more p₁ s.buffer 64 long_buffer refl c.put.ensures in
    let p₃ = put_more p₂ (le_bytes 4 s.total) 4 (length-le_bytes 4 s.total) c.bytes32-total.ensures
    c.put-2.ensures in
    put_all p₃ refl
