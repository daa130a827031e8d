-- `header_writer::header_len` meets its contract. Assumes nothing.
use native.Mathlib.Omega.{arith}
use borrow.Author.Tests.{eq-eqb, ne_eqb}
use Rattle.ciphers.proofs.Laws.{nonce_length-le}
use Rattle.kdf_dictionary.proofs.Laws.Layout.{kdf_length-le}
use Rattle.header_writer.specs.Written.{header_length}
use borrow.Author.Rules.{rules}
use Rattle.header_writer.proofs.header_len.Goals as goal

pub overflow_add-n : goal.overflow_add-n
overflow_add-n c =
    let h = nonce_length-le c.args.c in
    let e = c.nonce_len.ensures in
    search rules

pub overflow_add-n-2 : goal.overflow_add-n-2
overflow_add-n-2 c =
    let k = c in
    let st = k in
    let h = nonce_length-le st.args.c in
    let e = k.nonce_len.ensures in
    let l = kdf_length-le st.args.figures st.args.salt.now in
    let g = k.kdf_len.ensures in
    search rules

pub overflow_add-result : goal.overflow_add-result
overflow_add-result c =
    let h = nonce_length-le c.args.c in
    let e = c.nonce_len.ensures in
    let l = kdf_length-le c.args.figures c.args.salt.now in
    let g = c.kdf_len.ensures in
    search rules

pub overflow_add-result-2 : goal.overflow_add-result-2
overflow_add-result-2 c =
    let h = nonce_length-le c.args.c in
    let e = c.nonce_len.ensures in
    let l = kdf_length-le c.args.figures c.args.salt.now in
    let g = c.kdf_len.ensures in
    search rules

pub returns-then-custom-eq0 : goal.returns-then-custom-eq0
unfolding header_length
returns-then-custom-eq0 c = rw (eq-eqb _ 0 c.if-custom-eq0.true, c.nonce_len.ensures, c.kdf_len.ensures) (omega arith)

pub returns : goal.returns
unfolding header_length
returns c = rw (ne_eqb _ 0 c.if-custom-eq0.false, c.nonce_len.ensures, c.kdf_len.ensures) (omega arith)
