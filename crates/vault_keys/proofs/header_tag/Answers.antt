-- `vault_keys::header_tag` meets its contract. Assumes nothing.
use mathlib.Core.Path.{ap, ◌∙◌}
use mathlib.Core.List.{List}
use Prim.Native.Nat.{ℕ}
use Rattle.fips180.specs.Fips180.{sha256}
use Rattle.hmac.specs.Tagging as tagging
use Rattle.hmac.specs.declared.Tagged.{Tagged}
use Rattle.vault_keys.specs.VaultKeys.{answered_tag}
use Rattle.vault_keys.proofs.header_tag.Goals as goal

pub returns : goal.returns
unfolding answered_tag
returns c =
    let m = c.args.m.now in
    ap (λ (t : Tagged). t.tag) c.tag.ensures
    ∙ ap (λ (k : List ℕ). (tagging.tagged sha256 k m).tag) c.tag_key-key.ensures
