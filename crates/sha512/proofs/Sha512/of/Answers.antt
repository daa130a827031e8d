-- `sha512::Sha512::of` meets its contract. Assumes nothing.
use Rattle.std.proofs.lemmas.List.{map-id}
use Rattle.sha512.proofs.Sha512.of.Goals as goal

pub returns : goal.returns
returns c = cc (c.words-chain.ensures, map-id c.words-chain.result)
