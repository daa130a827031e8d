-- `dictionary::table::name_at` meets its contract. Assumes nothing.
use Rattle.dictionary.proofs.table.name_at.Goals as goal

pub returns : goal.returns
returns c = cc
