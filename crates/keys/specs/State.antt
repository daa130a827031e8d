-- How an optional slice stands for a credential of the definitions. Assumes nothing.
use Rattle.std.specs.Prelude.{List, ℕ, Option, Some, None}
use denote.Ref.{Bor}
use Rattle.keys.specs.Kdbx4Keys.{Credential, given, absent}

abbrev pub credential : Option (Bor (List ℕ)) → Credential
credential (Some s) = given s.now
credential None = absent
