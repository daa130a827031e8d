-- `open_whole::open_chacha20` meets its contract. Assumes nothing.
use mathlib.Core.Path.{◌≡◌, sym, ap, ◌∙◌}
use mathlib.Core.List.{◌++◌}
use Prim.Native.Nat.{◌≤◌}
use native.Mathlib.Omega.{arith}
use lib.ListN.{length, take, drop}
use lib.Seq.{length-take-le, take_all}
use Rattle.ciphers.specs.declared.Cipher.TheVariants.{ChaCha20}
use Rattle.opening.specs.Decryption.{chacha_from, payload_by}
use Rattle.open_whole.specs.Ciphertext.{text}
use Rattle.open_whole.proofs.Laws.Fill.{over_front}
use Rattle.open_whole.proofs.Laws.Answers.{answered_room, answered-opened}
use Rattle.open_whole.proofs.Laws.Payload.{payload_chacha, length_chacha}
use Rattle.open_whole.proofs.open_chacha20.Goals as goal

pub returns-then-out-c : goal.returns-then-out-c
returns-then-out-c c =
    let a = c.args in
    let t = text a.f.now a.p in
    answered_room (payload_by ChaCha20 a.k t) (chacha_from a.k 0 t) a.out.now (payload_chacha a.k t)
    (omega (arith, length_chacha a.k t, c.requires))

pub slice_bounds-fill_chacha20-end-2 : goal.slice_bounds-fill_chacha20-end-2
slice_bounds-fill_chacha20-end-2 c =
    let a = c.args in
    sym (length-take-le a.c a.out.now (omega arith))

pub fill_chacha20-requires : goal.fill_chacha20-requires
fill_chacha20-requires c =
    omega (arith, length-take-le c.args.c c.args.out.now (omega arith), c.requires)

pub returns : goal.returns
returns c =
    let a = c.args in
    let d = a.out.now in
    let t = text a.f.now a.p in
    let w = chacha_from a.k 0 t in
    let ys = c.fill_chacha20.new.out in
    let h : a.c ≤ length d = omega arith in
    let m : length t ≤ length (take a.c d) = omega (arith, length-take-le a.c d h, c.requires) in
    let lw : length w ≡ a.c = length_chacha a.k t ∙ sym c.requires in
    let e : ys ≡ w =
    c.fill_chacha20.ensures ∙ ap (chacha_from a.k 0) (take_all (length (take a.c d)) t m) in
    answered-opened (payload_by ChaCha20 a.k t) w d (ys ++ drop a.c d) a.c (payload_chacha a.k t) lw h
    (over_front w d ys a.c e lw)
