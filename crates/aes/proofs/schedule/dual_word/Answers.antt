-- `aes::schedule::dual_word` meets its contract. Assumes nothing.
use mathlib.Core.Path.{sym, ◌∙◌}
use Rattle.aes.proofs.Laws.Tabled.{dual_word_by_first, dual_word_by-mixed, dual_word_by_last}
use Rattle.aes.proofs.schedule.dual_word.Goals as goal

pub returns-then-i-lt4 : goal.returns-then-i-lt4
returns-then-i-lt4 c = sym (dual_word_by_first _ _ c.args.i c.args.w c.if-i-lt4.true)

pub returns-then-i-lt56 : goal.returns-then-i-lt56
returns-then-i-lt56 c =
    let a = c.args in
    c.inv_mix_word.ensures ∙ sym (dual_word_by-mixed _ _ a.i a.w c.if-i-lt4.false c.if-i-lt56.true)

pub returns : goal.returns
returns c =
    sym (dual_word_by_last _ _ c.args.i c.args.w c.if-i-lt56.false)
