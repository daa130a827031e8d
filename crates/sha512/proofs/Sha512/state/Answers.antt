-- `sha512::Sha512::state` meets its contract. Assumes nothing.
use Rattle.std.proofs.lemmas.List.{map-id}
use Rattle.sha512.proofs.Sha512.state.Goals as goal

pub returns : goal.returns
returns c = cc (c.of.ensures, map-id c.args.self.chain)
