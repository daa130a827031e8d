-- `open_whole::fill_chacha20` meets its contract. Assumes nothing.
use mathlib.Core.Path.{◌≡◌, refl, ap₂, ◌∙◌}
use mathlib.Core.List.{List}
use Prim.Native.Nat.{ℕ}
use lib.ListN.{length, take}
use Rattle.stream.specs.Stream as stream
use Rattle.chacha20.specs.Rfc8439 as rfc8439
use Rattle.open_whole.specs.Ciphertext.{text}
use Rattle.open_whole.proofs.Laws.Fill.{over_full}
use Rattle.open_whole.proofs.fill_chacha20.Goals as goal

pub returns : goal.returns
returns c =
    let a = c.args in
    let d = a.out.now in
    let t = text a.f.now a.p in
    let x = c.copy_text.new.out in
    let e : x ≡ take (length d) t = over_full t d x (length d) refl c.requires c.copy_text.ensures in
    c.apply.ensures
    ∙ ap₂ (λ (n s : List ℕ). stream.apply (rfc8439.blocks a.k.key n) 0 s) c.short_nonce.ensures e
