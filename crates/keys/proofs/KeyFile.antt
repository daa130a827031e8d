-- The part of a key file (document 02, Item 2): "32 bytes as they stand, 64 digits decoded, all else hashed".
--
-- In order:
--   key_file_part_32, -digits, -other, -hashed    each of the three, by what the file is
--   key_file_part_case      both cases of a digit give the same part
--   key_file_part-encode    the digits of 32 bytes give those bytes
--   length-key_file_part    the part has 32 bytes
--   former_part             document 01's rule, which Item 2 supersedes
--   key_file_part_former    no other file's part changed
--   key_file_part_of_hash   a file's hash, as a key file of 32 bytes, gives the part that the former rule gave the file
--   composite_of_hash       .. and with the same password, or none, the composite key that the former rule gave
-- Not here: the order of refusals (Laws), hexadecimal digits (crate hexadecimal, Laws).
-- Assumes nothing.
use mathlib.Core.Path.{◌≡◌, sym, ap, ◌∙◌}
use mathlib.Core.Bool.{true, false, cond, and-false}
use mathlib.Core.List.{List, ◌++◌, map}
use Prim.Native.Nat.{ℕ, ◌≤◌, ◌<◌}
use native.Mathlib.Omega.{arith}
use lib.Dec.{eqb}
use lib.ListN.{length, get_or, length-map}
use borrow.Author.Tests.{le-leb, eq-eqb, ne_eqb, eqb-true}
use Rattle.words.specs.Endian.{Bytes}
use Rattle.words.proofs.Laws.Cases.{by_bool, and_true}
use Rattle.hexadecimal.specs.Rfc4648.{is_digit, upper_case, all_digits, encode, decode}
use Rattle.hexadecimal.proofs.Laws.Texts.{every_not, length-encode, length-decode, all_digits-encode, decode-encode, decode-upper_case, all_digits-upper_case}
use Rattle.refusals.specs.Limits.{password_limit, key_file_limit}
use Rattle.fips180.specs.Fips180.{sha256, hash}
use Rattle.fips180.proofs.Laws.Lengths.{length-iv256, length-hash}
use Rattle.keys.specs.Kdbx4Keys.{Credential, given, absent, Composed, accepted, over, password_part, is_hex_key, key_file_part, composite_of, composite}
use Rattle.keys.proofs.Laws.{over_given, composite_within}

length-sha256 : (s : List ℕ) → length (hash sha256 s) ≡ 32
length-sha256 s = length-hash sha256 s length-iv256

is_hex_key_true : (s : List ℕ) → is_hex_key s ≡ true → (length s ≡ 64) × (all_digits s ≡ true)
is_hex_key_true s t =
    let b = and_true (eqb (length s) 64) (all_digits s) t in
    (eqb-true (length s) 64 b.0, b.1)

true_is_hex_key : (s : List ℕ) → length s ≡ 64 → all_digits s ≡ true → is_hex_key s ≡ true
true_is_hex_key s e d = rw (eq-eqb (length s) 64 e, d)

pub key_file_part_32 : (s : List ℕ) → length s ≡ 32 → key_file_part s ≡ s
unfolding key_file_part
key_file_part_32 s e = rw (eq-eqb (length s) 32 e)

-- a file of 64 digits is decoded, and never hashed
pub key_file_part_digits : (s : List ℕ) → length s ≡ 64 → all_digits s ≡ true → key_file_part s ≡ decode s
unfolding key_file_part
key_file_part_digits s e d =
    let n : length s ≡ 32 → ⊥ = λ q. omega arith in
    rw (ne_eqb (length s) 32 n, true_is_hex_key s e d)

-- all else is hashed
pub key_file_part-hashed : (s : List ℕ) → (length s ≡ 32 → ⊥) → is_hex_key s ≡ false → key_file_part s ≡ hash sha256 s
unfolding key_file_part
key_file_part-hashed s n f = rw (ne_eqb (length s) 32 n, f)

-- .. such as a file of 64 bytes with one character that is no digit
pub key_file_part_other : (s : List ℕ) → length s ≡ 64 → (i : ℕ) → i < 64 → is_digit (get_or s i 0) ≡ false
    → key_file_part s ≡ hash sha256 s
key_file_part_other s e i h f =
    key_file_part-hashed s (λ q. omega arith) (rw (every_not is_digit s i (omega arith) f, and-false))

-- two files that differ at most in the case of digits
pub key_file_part_case : (s t : List ℕ) → length s ≡ 64 → all_digits s ≡ true → map upper_case s ≡ map upper_case t
    → key_file_part s ≡ key_file_part t
key_file_part_case s t e d m =
    let k = sym (length-map s upper_case) ∙ ap length m ∙ length-map t upper_case in
    let g = sym (all_digits-upper_case t) ∙ ap all_digits (sym m) ∙ all_digits-upper_case s ∙ d in
    key_file_part_digits s e d
    ∙ sym (decode-upper_case s) ∙ ap decode m ∙ decode-upper_case t
    ∙ sym (key_file_part_digits t (omega arith) g)

-- 32 bytes typed as digits are the key that they are as bytes
pub key_file_part-encode : (s : List ℕ) → length s ≡ 32 → Bytes s → key_file_part (encode s) ≡ s
key_file_part-encode s e b =
    key_file_part_digits (encode s) (omega (arith, length-encode s)) (all_digits-encode s b) ∙ decode-encode s b

pub length_decoded : (s : List ℕ) → is_hex_key s ≡ true → length (decode s) ≡ 32
length_decoded s t =
    let e = (is_hex_key_true s t).0 in
    omega (arith, length-decode s)

pub length-key_file_part : (s : List ℕ) → length (key_file_part s) ≡ 32
unfolding key_file_part
length-key_file_part s =
    by_bool (eqb (length s) 32)
    (λ t. rw t (eqb-true (length s) 32 t))
    (λ f. by_bool (is_hex_key s)
    (λ t. rw (f, t) (length_decoded s t))
    (λ t. rw (f, t) (length-sha256 s)))

-- document 01: "A key file of 32 bytes is taken as it stands; of any other length it is hashed with SHA-256"
abbrev pub former_part : List ℕ → List ℕ
former_part s = cond (eqb (length s) 32) s (hash sha256 s)

pub key_file_part_former : (s : List ℕ) → is_hex_key s ≡ false → key_file_part s ≡ former_part s
unfolding key_file_part
key_file_part_former s f = rw f

pub key_file_part_of_hash : (s : List ℕ) → (length s ≡ 32 → ⊥) → key_file_part (hash sha256 s) ≡ former_part s
key_file_part_of_hash s n = key_file_part_32 (hash sha256 s) (length-sha256 s) ∙ rw (ne_eqb (length s) 32 n)

-- the composite key of a password, given or absent, and a key file by the former rule
abbrev pub former_composite : Credential → List ℕ → Composed
former_composite (given p) f = accepted (hash sha256 (password_part p ++ former_part f))
former_composite absent f = accepted (hash sha256 (former_part f))

composite_of_of_hash : (p : Credential) (f : List ℕ) → (length f ≡ 32 → ⊥)
    → composite_of p (given (hash sha256 f)) absent ≡ former_composite p f
unfolding composite_of
composite_of_of_hash (given p) f n =
    ap (λ (k : List ℕ). accepted (hash sha256 (password_part p ++ k))) (key_file_part_of_hash f n)
composite_of_of_hash absent f n = ap (λ (k : List ℕ). accepted (hash sha256 k)) (key_file_part_of_hash f n)

-- a vault saved with a file of 64 digits under the former rule opens with the file's hash as a key file of 32 bytes
pub composite_of_hash : (p : Credential) (f : List ℕ) → over password_limit p ≡ false → over key_file_limit (given f) ≡ false
    → is_hex_key f ≡ true → composite p (given (hash sha256 f)) absent ≡ former_composite p f
composite_of_hash p f sp sf t =
    let e = (is_hex_key_true f t).0 in
    let l = over_given key_file_limit f sf in
    let h = length-sha256 f in
    let k : length (hash sha256 f) ≤ key_file_limit = omega arith in
    let s : over key_file_limit (given (hash sha256 f)) ≡ false = rw (le-leb (length (hash sha256 f)) key_file_limit k) in
    composite_within p (given (hash sha256 f)) absent sp s ∙ composite_of_of_hash p f (λ q. omega arith)
