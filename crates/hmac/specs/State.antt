-- How the struct `Hmac` stands for a tag under way (Tagging), and what each of its functions makes of it. Assumes
-- nothing.
use Rattle.std.specs.Prelude.{List, [], ◌∷◌, ℕ}
use Rattle.fips180.specs.Fips180.{sha256}
use Rattle.sha256.specs.State.{held, stored}
use Rattle.hmac.specs.Rfc2104 as rfc2104
use Rattle.hmac.specs.Tagging as tagging
use Rattle.hmac.specs.Tagging.{Tagging}
use Rattle.hmac.specs.declared.Hmac.{Hmac}
use Rattle.hmac.specs.declared.Keyed.{Keyed}
use Rattle.hmac.specs.declared.Tagged.{Tagged}

abbrev pub tag_held : Hmac → Tagging
tag_held t = record { inner = held t.inner; outer = held t.outer }

abbrev pub tag_stored : Tagging → Hmac
tag_stored t = record { inner = stored t.inner; outer = stored t.outer }

abbrev pub keyed_stored : tagging.Keyed → Keyed
keyed_stored k = record { outcome = k.outcome; next = tag_stored k.next }

abbrev pub key_block : List ℕ → List ℕ
key_block = rfc2104.key_block sha256

abbrev pub begun : List ℕ → Hmac
begun b = tag_stored (tagging.begun sha256 b)

abbrev pub closed : Hmac
closed = tag_stored (tagging.closed sha256)

abbrev pub started : List ℕ → Keyed
started k = keyed_stored (tagging.start sha256 k)

abbrev pub fed : Hmac → List ℕ → Keyed
fed t s = keyed_stored (tagging.feed sha256 (tag_held t) s)

abbrev pub finished : Hmac → List ℕ
finished t = tagging.finish sha256 (tag_held t)

abbrev pub tagged : List ℕ → List ℕ → Tagged
tagged k m = record { outcome = (tagging.tagged sha256 k m).outcome; tag = (tagging.tagged sha256 k m).tag }

-- the state after feeding each part in turn, refused or not
unfoldable pub feeds : Hmac → List (List ℕ) → Hmac
feeds t [] = t
feeds t (s ∷ ss) = feeds (fed t s).next ss
