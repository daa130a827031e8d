-- `aes::schedule::rcon` meets its contract. Assumes nothing.
use mathlib.Core.Path.{sym, ap}
use Rattle.fips197.specs.Fips197.{rcon}
use Rattle.aes.proofs.Laws.Schedule.{rcon_is}
use borrow.Author.Rules.{rules}
use Rattle.aes.proofs.schedule.rcon.Goals as goal

pub returns-then-j-eq0 : goal.returns-then-j-eq0
unfolding rcon
returns-then-j-eq0 c = sym (ap rcon c.if-j-eq0.true)

pub returns : goal.returns
returns c = rcon_is c.args.j (search rules) c.if-j-eq0.false
