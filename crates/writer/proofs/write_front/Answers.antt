-- `writer::write_front` meets its contract. Assumes nothing.
use mathlib.Core.Path.{ap, ◌∙◌}
use Prim.Native.Nat.{ℕ, ◌+◌}
use native.Mathlib.Omega.{arith}
use lib.ListN.{length}
use Rattle.refusals.proofs.Laws.Limits.{message_file, file_size}
use Rattle.writer.proofs.Laws.Files.{header_length_salt, header-summed}
use borrow.Author.Rules.{rules}
use Rattle.writer.proofs.write_front.Goals as goal

pub write_sums-requires : goal.write_sums-requires
write_sums-requires c =
    let salt_whole =
    header_length_salt c.args.c c.args.figures c.args.salt.now (length c.args.custom.now) c.requires.sized.salt_le in
    let e = c.header_len-h.ensures ∙ salt_whole in
    let h = c.requires.custom_bound in
    let l = c.requires.custom_in_bounds in
    record {
      h_le_message_limit = omega (arith, e, h, message_file);
      h_in_bounds = search rules;
    }

pub overflow_add-result : goal.overflow_add-result
overflow_add-result c =
    let salt_whole =
    header_length_salt c.args.c c.args.figures c.args.salt.now (length c.args.custom.now) c.requires.sized.salt_le in
    let e = c.header_len-h.ensures ∙ salt_whole in
    omega (arith, e, c.requires.custom_bound, file_size)

pub returns : goal.returns
returns c =
    let salt_whole =
    header_length_salt c.args.c c.args.figures c.args.salt.now (length c.args.custom.now) c.requires.sized.salt_le in
    let a = c.args in
    let e = c.header_len-h.ensures ∙ salt_whole in
    record {
      value = ap (λ (n : ℕ). n + 64) e;
      out_after = header-summed a.minor a.c a.seed.now a.nonce.now a.figures a.salt.now
          a.custom.now c.requires.sized a.base a.out.now _ _ _ c.header_len-h.result
          c.seed_of-s.ensures e c.requires.custom_in_bounds c.write.ensures c.write_sums.ensures;
    }
