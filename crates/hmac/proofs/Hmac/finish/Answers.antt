-- `hmac::Hmac::finish` meets its contract. Assumes nothing.
use mathlib.Core.Path.{ap, ◌∙◌}
use mathlib.Core.List.{List}
use Prim.Native.Nat.{ℕ}
use Rattle.sha256.specs.State as hash
use Rattle.sha256.specs.declared.Fed.{Fed}
use Rattle.hmac.specs.Tagging.{finish}
use Rattle.hmac.proofs.Hmac.finish.Goals as goal

pub returns : goal.returns
unfolding finish
returns c =
    let o = c.args.self.outer in
    c.finish.ensures
    ∙ ap (λ (f : Fed). hash.finished f.next) c.feed.ensures
    ∙ ap (λ (d : List ℕ). hash.finished (hash.fed o d).next) c.finish-d.ensures
