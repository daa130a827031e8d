-- `open_whole::open_aes` meets its contract. Assumes nothing.
use mathlib.Core.Path.{◌≡◌, sym, ap, ◌∙◌}
use mathlib.Core.List.{◌++◌}
use Prim.Native.Nat.{ℕ, ◌+◌, ◌-◌, ◌%◌, ◌≤◌}
use native.Mathlib.Omega.{arith}
use lib.ListN.{length, take}
use Rattle.refusals.specs.declared.Refusal.TheVariants.{WrongPadding}
use Rattle.ciphers.specs.declared.Cipher.TheVariants.{Aes256}
use Rattle.pkcs7.specs.Pkcs7.{padding}
use Rattle.pkcs7.proofs.Laws.Padding.{padding-le}
use Rattle.opening.specs.Decryption.{payload_by}
use Rattle.open_whole.specs.Ciphertext.{text}
use Rattle.open_whole.proofs.Laws.Answers.{answered-refused, answered_room, answered-opened}
use Rattle.open_whole.proofs.Laws.Payload.{payload_short, payload_ragged, payload_wrong, payload_right}
use Rattle.open_whole.proofs.Laws.Payload.{length_right, front, answer_wrong, answer_of}
use borrow.Author.Rules.{rules}
use Rattle.open_whole.proofs.open_aes.Goals as goal

pub returns-then-c-eq0 : goal.returns-then-c-eq0
returns-then-c-eq0 c =
    let a = c.args in
    let t = text a.f.now a.p in
    answered-refused (payload_by Aes256 a.k t) WrongPadding a.out.now
    (payload_short a.k t (sym c.requires ∙ c.if-c-eq0.true))

pub returns-then-c-ne0 : goal.returns-then-c-ne0
returns-then-c-ne0 c =
    let a = c.args in
    let t = text a.f.now a.p in
    answered-refused (payload_by Aes256 a.k t) WrongPadding a.out.now
    (payload_ragged a.k t (λ e. c.if-c-eq0.false (c.requires ∙ e))
    (λ e. c.if-c-ne0.true (ap (λ i. i % 16) c.requires ∙ e)))

some_piece : (c : ℕ) → (c ≡ 0 → ⊥) → c % 16 ≡ 0 → 16 ≤ c
some_piece c z e = omega arith

pub returns-in-None : goal.returns-in-None
returns-in-None c =
    let nonce_size : length c.args.k.nonce ≡ 16 = search rules in
    let a = c.args in
    let t = text a.f.now a.p in
    let h = c.if-c-ne0.false in
    let l = some_piece a.c c.if-c-eq0.false h in
    let x = c.last_piece-last.result in
    let e : padding x ≡ 0 = answer_wrong (padding x) (sym c.in-None.is ∙ c.check.ensures.value) in
    answered-refused (payload_by Aes256 a.k t) WrongPadding a.out.now
    (payload_wrong a.k t a.c nonce_size c.requires h l x c.last_piece-last.ensures e)

pub overflow_sub-m : goal.overflow_sub-m
overflow_sub-m c =
    let padding_is =
    answer_of (padding c.last_piece-last.result) c.in-Some.padding (sym c.in-Some.is ∙ c.check.ensures.value) in
    omega (arith, padding_is.0, padding-le c.last_piece-last.result)

pub returns-then-out-c : goal.returns-then-out-c
returns-then-out-c c =
    let nonce_size : length c.args.k.nonce ≡ 16 = search rules in
    let padding_is =
    answer_of (padding c.last_piece-last.result) c.in-Some.padding (sym c.in-Some.is ∙ c.check.ensures.value) in
    let q = c.in-Some.padding in
    let a = c.args in
    let t = text a.f.now a.p in
    let h = c.if-c-ne0.false in
    let l = some_piece a.c c.if-c-eq0.false h in
    let x = c.last_piece-last.result in
    let e = c.last_piece-last.ensures in
    let n = nonce_size in
    let r = padding_is in
    let b = front a.k t a.c n c.requires h l ++ take (16 - q) x in
    let m = length_right a.k t a.c n c.requires h l x q e r.0 in
    answered_room (payload_by Aes256 a.k t) b a.out.now
    (payload_right a.k t a.c n c.requires h l x q e r.0 r.1) (rw m c.if-out-c.true)

pub write_aes-requires : goal.write_aes-requires
write_aes-requires c =
    record {
      n_in_bounds = (omega (arith, c.requires), omega arith);
      m_bound = (omega arith, c.if-out-c.false);
    }

pub returns-in-Some : goal.returns-in-Some
returns-in-Some c =
    let nonce_size : length c.args.k.nonce ≡ 16 = search rules in
    let padding_is =
    answer_of (padding c.last_piece-last.result) c.in-Some.padding (sym c.in-Some.is ∙ c.check.ensures.value) in
    let q = c.in-Some.padding in
    let a = c.args in
    let t = text a.f.now a.p in
    let h = c.if-c-ne0.false in
    let l = some_piece a.c c.if-c-eq0.false h in
    let x = c.last_piece-last.result in
    let e = c.last_piece-last.ensures in
    let n = nonce_size in
    let r = padding_is in
    let b = front a.k t a.c n c.requires h l ++ take (16 - q) x in
    answered-opened (payload_by Aes256 a.k t) b a.out.now
    c.write_aes.new.out (a.c - 16 + (16 - q))
    (payload_right a.k t a.c n c.requires h l x q e r.0 r.1)
    (length_right a.k t a.c n c.requires h l x q e r.0) c.if-out-c.false
    c.write_aes.ensures
