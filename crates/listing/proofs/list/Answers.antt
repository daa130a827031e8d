-- `listing::list` meets its contract. Assumes nothing.
use mathlib.Core.Path.{sym, ◌∙◌}
use Rattle.listing.proofs.Laws.Text.{text-refused, text-listed, text_long}
use Rattle.listing.proofs.list.Goals as goal

pub returns-in-Err : goal.returns-in-Err
returns-in-Err c =
    let s = c.args.s.now in
    rw (text-refused s _ (sym c.program_input_fits.ensures ∙ c.if-program_input_fits.true)
    (sym c.read.ensures.value ∙ c.in-Err.is)) c.list_refusal.ensures

pub list_frames-requires : goal.list_frames-requires
list_frames-requires c = sym c.read.ensures.value ∙ c.in-Ok.is

pub returns-in-Ok : goal.returns-in-Ok
returns-in-Ok c =
    let s = c.args.s.now in
    rw (text-listed s _ (sym c.program_input_fits.ensures ∙ c.if-program_input_fits.true)
    (sym c.read.ensures.value ∙ c.in-Ok.is)) c.list_frames.ensures

pub returns : goal.returns
returns c =
    let s = c.args.s.now in
    rw (text_long s (sym c.program_input_fits.ensures ∙ c.if-program_input_fits.false))
    c.list_refusal-2.ensures
