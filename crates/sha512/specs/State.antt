-- How the struct `Sha512` stands for a hash under way (fips180's Hashing), and what each of its functions makes of it.
-- Assumes nothing.
use Rattle.std.specs.Prelude.{List, [], ◌∷◌, ℕ}
use Rattle.refusals.specs.Limits.{message_limit}
use Rattle.fips180.specs.Fips180.{sha512}
use Rattle.fips180.specs.Hashing as hashing
use Rattle.fips180.specs.Hashing.{Hashing}
use Rattle.sha512.specs.declared.Sha512.{Sha512}
use Rattle.sha512.specs.declared.Fed.{Fed}
use Rattle.sha512.specs.declared.Hashed.{Hashed}

abbrev pub held : Sha512 → Hashing
held h = record { chain = h.chain; buffer = h.buffer; total = h.total }

abbrev pub stored : Hashing → Sha512
stored h = record { chain = h.chain; buffer = h.buffer; total = h.total }

abbrev pub started : Sha512
started = stored (hashing.start sha512)

abbrev pub absorbed : Sha512 → List ℕ → Sha512
absorbed h s = stored (hashing.absorbed sha512 (held h) s)

abbrev pub fed_to : ℕ → Sha512 → List ℕ → Fed
fed_to limit h s =
    record {
      outcome = (hashing.feed_to sha512 limit (held h) s).outcome;
      next = stored (hashing.feed_to sha512 limit (held h) s).next;
    }

abbrev pub fed : Sha512 → List ℕ → Fed
fed = fed_to message_limit

abbrev pub finished : Sha512 → List ℕ
finished h = hashing.finish sha512 (held h)

abbrev pub hashed : List ℕ → Hashed
hashed m = record { outcome = (hashing.hashed sha512 m).outcome; digest = (hashing.hashed sha512 m).digest }

-- the state after feeding each part in turn, refused or not
unfoldable pub feeds : Sha512 → List (List ℕ) → Sha512
feeds h [] = h
feeds h (s ∷ ss) = feeds (fed h s).next ss
