-- A vault's start.
--
-- In order:
--   seed_is, nonce_le               an accepted header's seed has 32 bytes, its nonce at most sixteen
--   nonce-keys_of                    the nonce of the keys has sixteen bytes
--   Starts, start-begun             an accepted start's header, keys and place
--   BegunStands, begun_stands       .. so its nonce has sixteen bytes, and the place is within a file within the limit
-- Assumes nothing.
use mathlib.Core.Path.{◌≡◌, refl, ap, ◌∙◌}
use mathlib.Core.List.{List}
use Prim.Native.Nat.{ℕ, ◌+◌, ◌-◌, ◌≤◌, ◌<◌}
use native.Mathlib.Omega.{arith}
use lib.Dec.{ltb}
use lib.ListN.{length}
use borrow.Author.Tests.{ltb-false}
use Rattle.words.proofs.Laws.Cases.{by_bool}
use Rattle.slices.proofs.Laws.Parts.{length_part}
use Rattle.refusals.specs.Limits.{file_limit}
use Rattle.refusals.specs.declared.Refusal.{Refusal}
use Rattle.refusals.specs.declared.Refusal.TheVariants.{CutShort, HeaderHash, HeaderTag}
use Rattle.ciphers.proofs.Laws.{nonce_length-le}
use Rattle.fields.specs.Fields.{bytes_at}
use Rattle.outer_header.specs.Kdbx4Header.{header}
use Rattle.outer_header.specs.declared.Header.{Header}
use Rattle.std.specs.Prelude.{Result, Ok, Err}
use Rattle.outer_header.proofs.Laws.Accepted.{HeaderStands, header_stands}
use Rattle.opening.specs.declared.Keys.{Keys}
use Rattle.opening.specs.Steps.{padded}
use Rattle.opening.proofs.Laws.Nonce.{length-padded}
use Rattle.vault_keys.specs.VaultKeys.{keys_with}
use Rattle.vault_keys.proofs.Laws.{keys_for-nonce}
use Rattle.vault.specs.Vault.{keys_of, hash_holds, tag_holds, start_at, start_in, start, start_refused, begun}

module _ (f : List ℕ) (h : Header) (e : header f ≡ Ok h) where
  stands : HeaderStands f h
  stands = header_stands f h e

  pub seed_is : length (bytes_at f h.seed) ≡ 32
  seed_is =
      let b = stands.length_le in
      let w = stands.seed_within in
      length_part f h.seed.start h.seed.length (omega arith) ∙ stands.seed_length

  pub nonce_le : length (bytes_at f h.nonce) ≤ 16
  nonce_le =
      let b = stands.length_le in
      let w = stands.nonce_within in
      let n = nonce_length-le h.cipher in
      let l = stands.nonce_length_is in
      rw (length_part f h.nonce.start h.nonce.length (omega arith)) (omega arith)

nonce-keys_of : (t f : List ℕ) (h : Header) → header f ≡ Ok h → length (keys_of t f h).nonce ≡ 16
unfolding keys_of keys_with
nonce-keys_of t f h e =
    ap length (keys_for-nonce h.cipher _ (padded (bytes_at f h.nonce)) _)
    ∙ length-padded (bytes_at f h.nonce) (nonce_le f h e)

-- an accepted start: the keys are the header's, and the first block stands behind its tag
pub record Starts (t f : List ℕ) (k : Keys) (p : ℕ) : Type 0 where
  pub said : Header
  pub reads : header f ≡ Ok said
  pub keys_are : k ≡ keys_of t f said
  pub place_is : p ≡ said.length + 64
  pub inside : p ≤ length f

refused_never : (r : Refusal) (k : Keys) (p : ℕ) → start_refused r ≡ begun k p → ⊥
refused_never r k p e = let z : ◌≡◌ {A = ℕ} 0 1 = cc in omega arith

-- what start_at begins with
record Passes (f : List ℕ) (n : ℕ) (x k : Keys) (p : ℕ) : Type 0 where
  same_keys : k ≡ x
  behind : p ≡ n + 64
  present : 64 ≤ length f - n

start_at-begun : (f : List ℕ) (n : ℕ) (x k : Keys) (p : ℕ) → start_at f n x ≡ begun k p → Passes f n x k p
unfolding start_at
start_at-begun f n x k p =
    by_bool (ltb (length f - n) 64)
    (λ a. rw a (λ e. absurd (refused_never (CutShort 0) k p e)))
    (λ a.
    by_bool (hash_holds f n)
    (λ b.
    by_bool (tag_holds x.base f n)
    (λ d. rw (a, b, d) (λ e. record {
      same_keys = cc;
      behind = cc;
      present = ltb-false (length f - n) 64 a;
    }))
    (λ d. rw (a, b, d) (λ e. absurd (refused_never HeaderTag k p e))))
    (λ b. rw (a, b) (λ e. absurd (refused_never HeaderHash k p e))))

start_in-begun : (t f : List ℕ) (z : Result Header Refusal) (k : Keys) (p : ℕ) → header f ≡ z → start_in t f z ≡ begun k p → Starts t f k p
unfolding start_in
start_in-begun t f (Err r) k p e h = absurd (refused_never r k p h)
start_in-begun t f (Ok said) k p e h =
    let x = start_at-begun f said.length (keys_of t f said) k p h in
    let l = (header_stands f said e).length_le in
    let b = x.behind in
    let c = x.present in
    record { said = said; reads = e; keys_are = x.same_keys; place_is = b; inside = omega arith }

pub start-begun : (t f : List ℕ) (k : Keys) (p : ℕ) → start t f ≡ begun k p → Starts t f k p
unfolding start
start-begun t f k p h = start_in-begun t f (header f) k p refl h

-- what demand 3 asks of keys, file and place
pub record BegunStands (f : List ℕ) (k : Keys) (p : ℕ) : Type 0 where
  pub nonce_is : length k.nonce ≡ 16
  pub limit : length f ≤ file_limit
  pub positive : 0 < p
  pub inside : p ≤ length f

pub begun_stands : (t f : List ℕ) (k : Keys) (p : ℕ) → start t f ≡ begun k p → BegunStands f k p
begun_stands t f k p e =
    let s = start-begun t f k p e in
    record {
      nonce_is = ap (λ (x : Keys). length x.nonce) s.keys_are ∙ nonce-keys_of t f s.said s.reads;
      limit = (header_stands f s.said s.reads).file_le;
      positive = omega (arith, s.place_is);
      inside = s.inside;
    }
