-- `keys::tag_base` meets its contract. Assumes nothing.
use mathlib.Core.Path.{◌≡◌, ap, ◌∙◌}
use mathlib.Core.List.{[], ◌∷◌}
use native.Mathlib.Omega.{arith}
use lib.ListN.{length}
use Rattle.refusals.proofs.Laws.Limits.{message_blocks}
use Rattle.sha512.specs.State.{fed, finished}
use Rattle.sha512.specs.declared.Sha512.{Sha512}
use Rattle.sha512.specs.declared.Fed.{Fed}
use Rattle.sha512.proofs.Parts.{sha512_of_three}
use Rattle.keys.specs.Kdbx4Keys.{tag_base}
use borrow.Author.Rules.{rules}
use Rattle.keys.proofs.tag_base.Goals as goal

pub returns : goal.returns
unfolding tag_base
returns c =
    let long_seed : length c.args.seed ≡ 32 = search rules in
    let long_t : length c.args.t ≡ 32 = search rules in
    let s = c.args.seed in
    let t = c.args.t in
    let ls : length s ≡ 32 = long_seed in
    let lt : length t ≡ 32 = long_t in
    let first = c.feed.ensures ∙ ap (λ (h : Sha512). fed h s) c.start.ensures in
    let second = c.feed-2.ensures ∙ ap (λ (f : Fed). fed f.next t) first in
    let third = c.feed-3.ensures ∙ ap (λ (f : Fed). fed f.next (1 ∷ [])) second in
    c.finish.ensures ∙ ap (λ (f : Fed). finished f.next) third
    ∙ sha512_of_three s t (1 ∷ []) (omega (arith, message_blocks))
