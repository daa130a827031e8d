-- `vault::check` meets its contract. Assumes nothing.
use mathlib.Core.Path.{sym, ap, ◌∙◌}
use Rattle.opening.specs.declared.Keys.{Keys}
use Rattle.outer_header.proofs.Laws.Accepted.{header_stands}
use Rattle.vault.specs.Vault.{start_at, start_in, start}
use Rattle.vault.specs.Checked.{checked_of}
use Rattle.vault.proofs.check.Goals as goal

pub returns-in-Err : goal.returns-in-Err
unfolding start start_in checked_of
returns-in-Err c = rw (sym c.read.ensures.value ∙ c.in-Err.is)

pub keys_of-k-requires : goal.keys_of-k-requires
keys_of-k-requires c =
    sym c.read.ensures.value ∙ c.in-Ok.is

pub check_at-requires : goal.check_at-requires
check_at-requires c =
    let e = sym c.read.ensures.value ∙ c.in-Ok.is in
    let s = header_stands c.args.f.now _ e in
    record {
      n_in_bounds = s.length_le;
      f_len_bound = s.file_le;
    }

pub returns-in-Ok : goal.returns-in-Ok
unfolding start start_in
returns-in-Ok c =
    rw (sym c.read.ensures.value ∙ c.in-Ok.is)
    (c.check_at.ensures
    ∙ ap (λ (k : Keys). checked_of (start_at c.args.f.now c.in-Ok.h.length k)) c.keys_of-k.ensures)
