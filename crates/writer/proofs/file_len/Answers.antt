-- `writer::file_len` meets its contract. Assumes nothing.
use mathlib.Core.Path.{◌≡◌}
use mathlib.Core.List.{List}
use Prim.Native.Nat.{ℕ, ◌+◌, ◌-◌, ◌/◌, ◌^◌, ◌≤◌, ◌<◌}
use native.Mathlib.Nat.{div-le_self}
use native.Mathlib.Omega.{arith}
use lib.Dec.{eqb}
use lib.ListN.{length, take}
use Rattle.words.proofs.Laws.Cases.{by_bool}
use Rattle.refusals.specs.Limits.{payload_limit, written_block}
use Rattle.refusals.proofs.Laws.Limits.{payload_size, block_positive, block_size}
use Rattle.ciphers.specs.declared.Cipher.{Cipher}
use Rattle.ciphers.proofs.Laws.{nonce_length-le}
use Rattle.kdf_dictionary.specs.declared.writer.Figures.{Figures as KdfFigures}
use Rattle.kdf_dictionary.proofs.Laws.Layout.{kdf_length-le}
use Rattle.header_writer.specs.Written.{header_length}
use Rattle.cutting.specs.Cutting.{block_count}
use Rattle.writer.specs.Stretches.{text_length, blocks_length, file_length}
use Rattle.writer.proofs.Laws.Stretches.{text_length-le}
use Rattle.writer.proofs.Laws.Files.{header_length_salt}
use borrow.Author.Rules.{rules}
use Rattle.writer.proofs.file_len.Goals as goal

header_length-le : (c : Cipher) (fig : KdfFigures) (salt : List ℕ) (m : ℕ)
    → header_length c fig (length (take 64 salt)) m ≤ 290 + m
unfolding header_length
header_length-le c fig salt m =
    let n = nonce_length-le c in
    let k = kdf_length-le fig salt in
    by_bool (eqb m 0) (λ e. rw e (omega (arith, n, k))) (λ e. rw e (omega (arith, n, k)))

-- the sums on the way: t is the text's length, s the block's
text-lt : (c : Cipher) (n t s : ℕ) → n ≤ payload_limit → t ≡ text_length c n → s ≡ written_block → t + (s - 1) < 2 ^ 33
text-lt c n t s h e f = omega (arith, text_length-le c n, payload_size, block_size)

count_lt : (x s : ℕ) → x < 2 ^ 33 → x / s < 2 ^ 33
count_lt x s h = omega (arith, div-le_self x s)

pub text_len-text-requires : goal.text_len-text-requires
text_len-text-requires c = omega (arith, payload_size, c.requires.n_le_payload_limit)

pub overflow_sub-count : goal.overflow_sub-count
overflow_sub-count c = omega (arith, block_positive, c.written_block-size.ensures)

pub overflow_add-count : goal.overflow_add-count
overflow_add-count c =
    let a = c.args in
    let h = text-lt a.c a.n _ _ c.requires.n_le_payload_limit c.text_len-text.ensures c.written_block-size.ensures in
    omega (arith, h)

pub nonzero_div-count : goal.nonzero_div-count
nonzero_div-count c = omega (arith, block_positive, c.written_block-size.ensures)

pub overflow_add-count-2 : goal.overflow_add-count-2
overflow_add-count-2 c =
    let a = c.args in
    let h = text-lt a.c a.n _ _ c.requires.n_le_payload_limit c.text_len-text.ensures c.written_block-size.ensures in
    omega (arith, count_lt _ c.written_block-size.result h)

pub overflow_add-result : goal.overflow_add-result
overflow_add-result c =
    let e = c.header_len.ensures in
    let a = c.args in
    let h = header_length-le a.c a.figures a.salt.now (length a.custom.now) in
    search rules

pub overflow_mul-result : goal.overflow_mul-result
overflow_mul-result c =
    let a = c.args in
    let h = text-lt a.c a.n _ _ c.requires.n_le_payload_limit c.text_len-text.ensures c.written_block-size.ensures in
    omega (arith, count_lt _ c.written_block-size.result h)

pub overflow_add-result-2 : goal.overflow_add-result-2
overflow_add-result-2 c =
    let a = c.args in
    let h = text-lt a.c a.n _ _ c.requires.n_le_payload_limit c.text_len-text.ensures c.written_block-size.ensures in
    omega (arith, h, count_lt _ c.written_block-size.result h)

pub overflow_add-result-3 : goal.overflow_add-result-3
overflow_add-result-3 c =
    let a = c.args in
    let e = c.header_len.ensures in
    let l = header_length-le a.c a.figures a.salt.now (length a.custom.now) in
    let h = text-lt a.c a.n _ _ c.requires.n_le_payload_limit c.text_len-text.ensures c.written_block-size.ensures in
    let k = count_lt _ c.written_block-size.result h in
    search rules

pub returns : goal.returns
unfolding file_length blocks_length block_count
returns c =
    let a = c.args in
    let e = header_length_salt a.c a.figures a.salt.now (length a.custom.now) c.requires.salt_len_bound in
    rw (c.header_len.ensures, e, c.text_len-text.ensures, c.written_block-size.ensures)
