-- `keys::hash_of` meets its contract. Assumes nothing.
use mathlib.Core.Path.{ap, ◌∙◌}
use Rattle.fips180.specs.Fips180.{sha256}
use Rattle.fips180.proofs.Laws.Feeds.{hashed-digest}
use Rattle.sha256.specs.declared.Hashed.{Hashed}
use Rattle.keys.proofs.hash_of.Goals as goal

pub returns : goal.returns
returns c =
    ap (λ (h : Hashed). h.digest) c.hash.ensures ∙ hashed-digest sha256 c.args.s.now c.requires
