-- `aes::encrypt_repeated` meets its contract. Assumes nothing.
use mathlib.Core.Path.{ap, ◌∙◌}
use Rattle.fips197.specs.Fips197.{cipher}
use Rattle.aes.specs.Repeated.{repeated}
use Rattle.aes.proofs.Laws.Tabled.{columns-block, repeated_by_te}
use Rattle.aes.proofs.encrypt_repeated.Goals as goal

pub returns : goal.returns
returns c =
    let a = c.args in
    let x = c.load.result in
    c.store.ensures ∙ c.encrypt_repeated-x.ensures
    ∙ repeated_by_te c.te-te.ensures a.keys.words a.n _ (columns-block x.a x.b x.c x.d)
    ∙ ap (repeated (λ s. cipher s a.keys.words) a.n) c.load.ensures
