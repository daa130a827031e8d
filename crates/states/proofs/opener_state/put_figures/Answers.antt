-- `states::opener_state::put_figures` meets its contract. Assumes nothing.
use mathlib.Core.Path.{refl}
use mathlib.Core.List.{[], ◌∷◌}
use Rattle.words.specs.Endian.{le_bytes}
use Rattle.words.proofs.Laws.Endian.{length-le_bytes}
use Rattle.states.specs.OpenerState.{mark_of, byte_of, figures}
use Rattle.states.proofs.Laws.Parts.{put_first, put_more}
use borrow.Author.Rules.{rules}
use Rattle.states.proofs.opener_state.put_figures.Goals as goal

pub returns : goal.returns
unfolding figures
returns c =
    let o = c.args.o in
    let p₁ = put_first (mark_of o.phase ∷ byte_of o.keys.cipher ∷ []) c.args.out.now 0 2 (search rules) refl
    (cc (c.mark_of.ensures, c.byte_of.ensures)) c.put.ensures in
    let p₂ = put_more p₁ (le_bytes 8 o.number) 8 (length-le_bytes 8 o.number) c.bytes64-number.ensures
    c.put-2.ensures in
    let p₃ = put_more p₂ (le_bytes 8 o.at) 8 (length-le_bytes 8 o.at) c.bytes64-at.ensures
    c.put-3.ensures in
    let p₄ = put_more p₃ (le_bytes 8 o.taken) 8 (length-le_bytes 8 o.taken) c.bytes64-taken.ensures
    c.put-4.ensures in
    p₄.is
