-- `aes::schedule::temp` meets its contract. Assumes nothing.
use mathlib.Core.Path.{sym, ap, ap₂, ◌∙◌}
use lib.Bits.{bit_xor}
use Rattle.fips197.specs.Fips197.{sub_word}
use Rattle.aes_tables.proofs.Laws.Columns.{sub_word_is}
use Rattle.fips197.proofs.Laws.Expansion.{temp_first, temp_half, temp_plain}
use Rattle.aes.proofs.schedule.temp.Goals as goal

pub returns-then-i-eq0 : goal.returns-then-i-eq0
returns-then-i-eq0 c =
    λ e. let a = c.args in
    ap₂ bit_xor (c.sub_word.ensures ∙ sub_word_is e _ ∙ ap sub_word c.rot_word.ensures) c.rcon.ensures
    ∙ sym (temp_first a.i a.p c.if-i-eq0.true)

pub returns-then-i-eq4 : goal.returns-then-i-eq4
returns-then-i-eq4 c =
    λ e. let a = c.args in
    c.sub_word-then-i-eq4.ensures ∙ sub_word_is e _ ∙ sym (temp_half a.i a.p c.if-i-eq0.false c.if-i-eq4.true)

pub returns : goal.returns
returns c =
    λ e. sym (temp_plain c.args.i c.args.p c.if-i-eq0.false c.if-i-eq4.false)
