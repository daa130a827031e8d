-- `aes::encrypt` meets its contract. Assumes nothing.
use mathlib.Core.Path.{ap, ◌∙◌}
use mathlib.Core.List.{List}
use Prim.Native.Nat.{ℕ}
use Rattle.fips197.specs.Fips197.{cipher}
use Rattle.aes.proofs.Laws.Tabled.{columns-block, cipher_by-te}
use Rattle.aes.proofs.encrypt.Goals as goal

pub returns : goal.returns
returns c =
    let x = c.load.result in
    c.store.ensures ∙ c.encrypt-x.ensures
    ∙ cipher_by-te c.te-te.ensures c.args.keys.words _ (columns-block x.a x.b x.c x.d)
    ∙ ap (λ (s : List ℕ). cipher s c.args.keys.words) c.load.ensures
