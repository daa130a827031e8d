-- `opener::is_sound` meets its contract. Assumes nothing.
use mathlib.Core.Path.{sym, ◌∙◌}
use Rattle.opener.proofs.Laws.Sound.{sound_far, sound_short, sound_few, sound_none, sound_count}
use Rattle.opener.proofs.is_sound.Goals as goal

pub returns-then-at-taken : goal.returns-then-at-taken
returns-then-at-taken c =
    let a = c.args in
    sym (sound_short a.number a.at a.taken (sym c.file_fits.ensures ∙ c.if-file_fits.true)
    c.if-at-taken.true)

pub returns-then-number-eq0 : goal.returns-then-number-eq0
returns-then-number-eq0 c =
    let a = c.args in
    sound_none a.number a.at a.taken (sym c.file_fits.ensures ∙ c.if-file_fits.true)
    c.if-at-taken.false c.if-number-eq0.true

pub returns-then-taken-number : goal.returns-then-taken-number
returns-then-taken-number c =
    let a = c.args in
    sym (sound_few a.number a.at a.taken (sym c.file_fits.ensures ∙ c.if-file_fits.true)
    c.if-taken-number.true)

pub returns-then-file_fits : goal.returns-then-file_fits
returns-then-file_fits c =
    let a = c.args in
    sound_count a.number a.at a.taken (sym c.file_fits.ensures ∙ c.if-file_fits.true)
    c.if-at-taken.false c.if-number-eq0.false c.if-taken-number.false

pub returns : goal.returns
returns c =
    let a = c.args in
    sym (sound_far a.number a.at a.taken (sym c.file_fits.ensures ∙ c.if-file_fits.false))
