-- `keys::key_file_part` meets its contract. Assumes nothing.
use mathlib.Core.Path.{sym, ◌∙◌}
use lib.ListN.{replicate}
use borrow.Author.Tests.{eq-eqb, ne_eqb}
use Rattle.slices.proofs.Laws.Over.{over_whole}
use Rattle.hexadecimal.specs.Rfc4648.{decode}
use Rattle.keys.specs.Kdbx4Keys.{key_file_part}
use Rattle.keys.proofs.KeyFile.{length_decoded}
use Rattle.keys.proofs.key_file_part.Goals as goal

pub returns-then-s-eq32 : goal.returns-then-s-eq32
unfolding key_file_part
returns-then-s-eq32 c =
    let s = c.args.s.now in
    rw (eq-eqb _ _ c.if-s-eq32.true) (c.copy.ensures ∙ over_whole s (replicate 32 0) c.if-s-eq32.true)

pub returns-then-is_hex_key : goal.returns-then-is_hex_key
unfolding key_file_part
returns-then-is_hex_key c =
    let s = c.args.s.now in
    let t = sym c.is_hex_key.ensures ∙ c.if-is_hex_key.true in
    rw (ne_eqb _ _ c.if-s-eq32.false, t)
    (c.decode.ensures ∙ over_whole (decode s) (replicate 32 0) (length_decoded s t))

pub returns : goal.returns
unfolding key_file_part
returns c =
    rw (ne_eqb _ _ c.if-s-eq32.false, sym c.is_hex_key.ensures ∙ c.if-is_hex_key.false) c.hash_of.ensures
