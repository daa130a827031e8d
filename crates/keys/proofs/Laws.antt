-- Laws of the composite key.
--
-- In order:
--   not-not                                   twice not is nothing
--   over_given, over_mono                     a credential that is not over its limit
--   composite_password, composite-key-file    a password, or a key file, over its limit
--   composite_within                          both within theirs
--   with_password, with_key_file              a pre-hash given with another credential
--   composite_pre_hash                        the composite key of a pre-hash is the pre-hash
-- Assumes nothing.
use mathlib.Core.Path.{◌≡◌, refl}
use mathlib.Core.Bool.{Bool, true, false, not}
use mathlib.Core.List.{List}
use Prim.Native.Nat.{ℕ, ◌≤◌}
use native.Mathlib.Omega.{arith}
use lib.Dec.{leb}
use lib.ListN.{length}
use borrow.Author.Tests.{not-false, le-leb, leb-true, eq-eqb}
use Rattle.refusals.specs.declared.Refusal.TheVariants.{TooLong, WrongCredential}
use Rattle.refusals.specs.Limits.{password_limit, key_file_limit}
use Rattle.keys.specs.Kdbx4Keys.{Credential, given, absent, over, accepted, refused, composite, composite_of}

pub not-not : (b : Bool) → b ≡ not (not b)
not-not true = refl
not-not false = refl

pub over_given : (limit : ℕ) (s : List ℕ) → over limit (given s) ≡ false → length s ≤ limit
over_given limit s e = leb-true (length s) limit (not-false (leb (length s) limit) e)

-- what is within a limit is within a greater one
pub over_mono : (limit most : ℕ) → limit ≤ most → (c : Credential) → over limit c ≡ false → over most c ≡ false
over_mono limit most h absent e = refl
over_mono limit most h (given s) e =
    let l = over_given limit s e in
    let k : length s ≤ most = omega arith in
    rw (le-leb (length s) most k)

module _ (p f h : Credential) where
  pub composite_password : over password_limit p ≡ true → composite p f h ≡ refused TooLong
  unfolding composite
  composite_password e = rw e

  pub composite-key-file : over password_limit p ≡ false → over key_file_limit f ≡ true → composite p f h ≡ refused TooLong
  unfolding composite
  composite-key-file e d = rw (e, d)

  pub composite_within : over password_limit p ≡ false → over key_file_limit f ≡ false → composite p f h
      ≡ composite_of p f h
  unfolding composite
  composite_within e d = rw (e, d)

pub with_password : (p h : List ℕ) (f : Credential) → composite_of (given p) f (given h) ≡ refused WrongCredential
unfolding composite_of
with_password p h absent = refl
with_password p h (given f) = refl

pub with_key_file : (f h : List ℕ) (p : Credential) → composite_of p (given f) (given h) ≡ refused WrongCredential
unfolding composite_of
with_key_file f h absent = refl
with_key_file f h (given p) = refl

-- demand 2: a pre-hash is taken as the composite key, and never hashed again to make one
pub composite_pre_hash : (h : List ℕ) → length h ≡ 32 → composite absent absent (given h) ≡ accepted h
unfolding composite composite_of
composite_pre_hash h e = rw (eq-eqb (length h) 32 e)
