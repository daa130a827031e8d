-- `sha256::Sha256::state` meets its contract. Assumes nothing.
use Rattle.std.proofs.lemmas.List.{map-id}
use Rattle.sha256.proofs.Sha256.state.Goals as goal

pub returns : goal.returns
returns c = cc (c.of.ensures, map-id c.args.self.chain)
