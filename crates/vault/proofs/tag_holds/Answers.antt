-- `vault::tag_holds` meets its contract. Assumes nothing.
use mathlib.Core.Path.{ap, ap₂, ◌∙◌}
use Prim.Native.Nat.{◌≤◌}
use native.Mathlib.Omega.{arith}
use lib.ListN.{length, take, length-take}
use Rattle.slices.specs.Same.{same}
use Rattle.refusals.specs.Limits.{message_limit}
use Rattle.refusals.proofs.Laws.Limits.{message_file}
use Rattle.vault_keys.specs.VaultKeys.{header_tag}
use Rattle.vault_keys.proofs.Laws.{answered_tag_within}
use Rattle.vault.specs.Vault.{tag_holds}
use Rattle.vault.proofs.tag_holds.Goals as goal

pub returns : goal.returns
unfolding tag_holds
returns c =
    let f = c.args.f.now in
    let m = take c.args.n f in
    let e = c.part.ensures in
    let l : length c.part.result.now ≤ message_limit =
    rw (e, length-take) (omega (arith, c.requires.f_len_bound, message_file)) in
    c.same.ensures
    ∙ ap₂ same c.part-2.ensures
    (c.header_tag-tag.ensures ∙ answered_tag_within c.args.base _ l ∙ ap (header_tag c.args.base) e)
