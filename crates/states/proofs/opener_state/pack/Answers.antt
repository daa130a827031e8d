-- `states::opener_state::pack` meets its contract. Assumes nothing.
use mathlib.Core.Path.{◌≡◌, refl}
use lib.ListN.{length}
use Rattle.slices.proofs.Laws.Zeros.{zeros}
use Rattle.states.specs.OpenerState.{figures, keys, packed}
use Rattle.states.proofs.Laws.Parts.{put_first, put_more, put_all}
use Rattle.states.proofs.Laws.Lengths.{length-figures, length-keys}
use borrow.Author.Rules.{rules}
use Rattle.states.proofs.opener_state.pack.Goals as goal

pub returns : goal.returns
unfolding packed
returns c =
    let long_prev : length c.args.o.prev ≡ 16 = search rules in
    let long_held : length c.args.o.held ≡ 16 = search rules in
    let long_key : length c.args.o.keys.key ≡ 32 = search rules in
    let long_round_keys : length c.args.o.keys.round_keys.words ≡ 60 = search rules in
    let long_nonce : length c.args.o.keys.nonce ≡ 16 = search rules in
    let long_base : length c.args.o.keys.base ≡ 64 = search rules in
    let o = c.args.o in
    let p₁ = put_first (figures o) (zeros 410) 0 26 (search rules) (length-figures o) refl
    c.put_figures.ensures in
    let p₂ = put_more p₁ o.prev 16 long_prev refl c.put.ensures in
    let p₃ = put_more p₂ o.held 16 long_held refl c.put-2.ensures in
    let p₄ = put_more p₃ (keys o.keys) 352
    (length-keys o.keys long_key long_round_keys long_nonce long_base) refl
    c.put_keys.ensures in
    put_all p₄ refl
