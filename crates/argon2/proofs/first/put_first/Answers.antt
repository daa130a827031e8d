-- `argon2::first::put_first` meets its contract. Assumes nothing.
use mathlib.Core.Path.{refl}
use Rattle.argon2_fill.specs.State.{figures}
use Rattle.argon2_fill.proofs.Laws.Blocks.{tail-length}
use Rattle.argon2.proofs.Laws.First.{first_room, first_put}
use Rattle.argon2.proofs.first.put_first.Goals as goal

pub put_words-requires : goal.put_words-requires
put_words-requires c =
    let a = c.args in
    let r = c.requires in
    let h = first_room (figures a.f) r.fits a.i a.j _ r.i_lt_lanes r.j_bound r.f_in_bounds in
    tail-length a.memory.now _ _ h refl

pub returns : goal.returns
returns c =
    let a = c.args in
    let r = c.requires in
    first_put (figures a.f) r.fits a.h a.memory.now a.i a.j _ r.i_lt_lanes r.j_bound r.f_in_bounds refl
    c.first_bytes.ensures c.put_words.ensures
