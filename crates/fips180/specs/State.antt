-- How the struct `State` stands for a hash under way (Hashing). Assumes nothing.
use Rattle.std.specs.Prelude.{ℕ}
use Rattle.fips180.specs.Hashing as hashing
use Rattle.fips180.specs.Hashing.{Hashing}
use Rattle.fips180.specs.Working.{words}
use Rattle.fips180.specs.declared.state.State.{State}
use Rattle.fips180.specs.declared.state.Fed.{Fed}

module _ {W : Type 0} (n : W → ℕ) where
  abbrev pub held : {B : ℕ} → State W B → Hashing
  held h = record { chain = words n h.chain; buffer = h.buffer; total = h.total }

  abbrev pub held_fed : {B : ℕ} → Fed W B → hashing.Fed
  held_fed f = record { outcome = f.outcome; next = held f.next }
