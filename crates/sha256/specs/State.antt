-- How the struct `Sha256` stands for a hash under way (fips180's Hashing), and what each of its functions makes of it.
-- Assumes nothing.
use Rattle.std.specs.Prelude.{List, [], ◌∷◌, ℕ}
use Rattle.refusals.specs.Limits.{message_limit}
use Rattle.fips180.specs.Fips180.{sha256}
use Rattle.fips180.specs.Hashing as hashing
use Rattle.fips180.specs.Hashing.{Hashing}
use Rattle.sha256.specs.declared.Sha256.{Sha256}
use Rattle.sha256.specs.declared.Fed.{Fed}
use Rattle.sha256.specs.declared.Hashed.{Hashed}

abbrev pub held : Sha256 → Hashing
held h = record { chain = h.chain; buffer = h.buffer; total = h.total }

abbrev pub stored : Hashing → Sha256
stored h = record { chain = h.chain; buffer = h.buffer; total = h.total }

abbrev pub started : Sha256
started = stored (hashing.start sha256)

abbrev pub absorbed : Sha256 → List ℕ → Sha256
absorbed h s = stored (hashing.absorbed sha256 (held h) s)

abbrev pub fed_to : ℕ → Sha256 → List ℕ → Fed
fed_to limit h s =
    record {
      outcome = (hashing.feed_to sha256 limit (held h) s).outcome;
      next = stored (hashing.feed_to sha256 limit (held h) s).next;
    }

abbrev pub fed : Sha256 → List ℕ → Fed
fed = fed_to message_limit

abbrev pub finished : Sha256 → List ℕ
finished h = hashing.finish sha256 (held h)

abbrev pub hashed : List ℕ → Hashed
hashed m = record { outcome = (hashing.hashed sha256 m).outcome; digest = (hashing.hashed sha256 m).digest }

-- the state after feeding each part in turn, refused or not
unfoldable pub feeds : Sha256 → List (List ℕ) → Sha256
feeds h [] = h
feeds h (s ∷ ss) = feeds (fed h s).next ss
