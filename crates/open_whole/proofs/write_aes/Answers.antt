-- `open_whole::write_aes` meets its contract. Assumes nothing.
use mathlib.Core.Path.{◌≡◌, refl, sym, ap, ◌∙◌}
use mathlib.Core.List.{◌++◌}
use Prim.Native.Nat.{◌-◌, ◌%◌}
use native.Mathlib.Omega.{arith}
use lib.ListN.{length, take, drop}
use lib.Seq.{length-take-le}
use Rattle.opening.specs.Decryption.{aes_from}
use Rattle.open_whole.specs.Ciphertext.{text}
use Rattle.open_whole.proofs.Laws.Fill.{over_front, over_two}
use Rattle.open_whole.proofs.Laws.Payload.{length-aes_from, aes_from-part}
use borrow.Author.Rules.{rules}
use Rattle.open_whole.proofs.write_aes.Goals as goal

pub slice_bounds-fill_aes-end-2 : goal.slice_bounds-fill_aes-end-2
slice_bounds-fill_aes-end-2 c =
    let a = c.args in
    sym (length-take-le a.n a.out.now (omega arith))

pub fill_aes-requires : goal.fill_aes-requires
fill_aes-requires c =
    let e = length-take-le c.args.n c.args.out.now (omega arith) in
    (rw e c.requires.n_in_bounds.0, rw e c.requires.n_in_bounds.1)

pub slice_bounds-copy-end-2 : goal.slice_bounds-copy-end-2
slice_bounds-copy-end-2 c =
    let last_size : length c.args.last ≡ 16 = search rules in
    let a = c.args in
    let l = last_size in
    sym (length-take-le a.m a.last (omega arith))

pub returns : goal.returns
returns c =
    let nonce_size : length c.args.k.nonce ≡ 16 = search rules in
    let last_size : length c.args.last ≡ 16 = search rules in
    let a = c.args in
    let d = a.out.now in
    let s = take a.n (text a.f.now a.p) in
    let w = aes_from a.k a.k.nonce s in
    let ll = last_size in
    let ls : length s ≡ a.n = length-take-le a.n (text a.f.now a.p) c.requires.n_in_bounds.0 in
    let lw : length w ≡ a.n =
    length-aes_from a.k a.k.nonce s nonce_size (ap (λ i. i % 16) ls ∙ c.requires.n_in_bounds.1) ∙ ls in
    let lm : length (take a.m a.last) ≡ a.m = length-take-le a.m a.last (omega arith) in
    let ys = c.fill_aes.new.out in
    let e : ys ≡ w =
    aes_from-part a.k a.k.nonce (text a.f.now a.p) d ys a.n (omega arith) c.fill_aes.ensures in
    over_two w (take a.m a.last) d (ys ++ drop a.n d) c.copy.new.out a.n
    (length (ys ++ drop a.n d) - a.n) (over_front w d ys a.n e lw) lw (omega arith) refl c.copy.ensures
