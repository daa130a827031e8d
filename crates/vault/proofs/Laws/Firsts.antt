-- Two starts with equal header and equal keys.
--
-- In order:
--   alike_front         two files with the same first bytes are alike there
--   SameKeys            the same cipher key, in the form that the cipher takes, and the same tag base
--   begun_same          two accepted starts with such keys and equal header, hash and tag have all keys and the place alike
--   same_keys_given      the cipher key and tag base of document 01 are enough
-- Assumes nothing.
use mathlib.Core.Path.{◌≡◌, refl, sym, ap, ◌∙◌}
use mathlib.Core.List.{List, ◌++◌}
use Prim.Native.Nat.{ℕ, ◌≤◌}
use native.Mathlib.Omega.{arith}
use lib.ListN.{length, take, drop, take-append-drop}
use lib.Seq.{take-take, length-take-le}
use Rattle.ciphers.specs.declared.Cipher.{Cipher}
use Rattle.ciphers.specs.declared.Cipher.TheVariants.{Aes256, ChaCha20}
use Rattle.fields.specs.Fields.{bytes_at}
use Rattle.keys.specs.Kdbx4Keys.{cipher_key, tag_base}
use Rattle.outer_header.specs.Kdbx4Header.{header}
use Rattle.outer_header.specs.declared.Header.{Header}
use Rattle.std.specs.Prelude.{Ok}
use Rattle.outer_header.proofs.Laws.Accepted.{header_stands}
use Rattle.outer_header.proofs.Laws.Behind.{Alike, append_alike, header_alike}
use Rattle.opening.specs.declared.Keys.{Keys}
use Rattle.opening.specs.Steps.{padded}
use Rattle.vault_keys.specs.VaultKeys.{keys_for, keys_with}
use Rattle.vault_keys.proofs.Laws.{keys_with-cipher, keys_with-nonce}
use Rattle.vault.specs.Vault.{keys_of, start, begun}
use Rattle.vault.specs.Agreement.{EqualKeys}
use Rattle.vault.proofs.Laws.Start.{Starts, start-begun}

alike_front : (n : ℕ) (s t : List ℕ) → n ≤ length s → take n s ≡ take n t → Alike n s t
alike_front n s t h e =
    let j : take n s ++ drop n t ≡ t = ap (λ (x : List ℕ). x ++ drop n t) e ∙ take-append-drop n t in
    rw j at (append_alike n s (drop n t) h)

-- the keys of a header have its cipher and its nonce
keys_of-cipher : (t f : List ℕ) (h : Header) → (keys_of t f h).cipher ≡ h.cipher
unfolding keys_of
keys_of-cipher t f h = keys_with-cipher h.cipher (bytes_at f h.seed) (padded (bytes_at f h.nonce)) t

keys_of-nonce : (t f : List ℕ) (h : Header) → (keys_of t f h).nonce ≡ padded (bytes_at f h.nonce)
unfolding keys_of
keys_of-nonce t f h = keys_with-nonce h.cipher (bytes_at f h.seed) (padded (bytes_at f h.nonce)) t

-- keys whose parts but for cipher and nonce are the same: the cipher key in the form that the cipher takes, the tag base
pub record SameKeys (k l : Keys) : Type 0 where
  pub key_is : k.key ≡ l.key
  pub round_keys_are : k.round_keys ≡ l.round_keys
  pub base_is : k.base ≡ l.base

-- keys are the same where each part is
keys_same : (k l : Keys) → k.cipher ≡ l.cipher → k.nonce ≡ l.nonce → SameKeys k l → k ≡ l
keys_same k l c n s =
    λ i. record {
      cipher = c i;
      key = s.key_is i;
      round_keys = s.round_keys_are i;
      nonce = n i;
      base = s.base_is i;
    }

pub record SameStart (k l : Keys) (p q : ℕ) : Type 0 where
  pub keys_are : k ≡ l
  pub place_is : p ≡ q

module _ (t f u g : List ℕ) (k l : Keys) (p q : ℕ) (a : Starts t f k p) (b : Starts u g l q) (e : take p f ≡ take q g)
  where
    places : p ≡ q
    places = sym (length-take-le p f a.inside) ∙ ap length e ∙ length-take-le q g b.inside

    front : take a.said.length f ≡ take a.said.length g
    front =
        let n : ℕ = a.said.length in
        let i = a.place_is in
        let j = places in
        sym (take-take n p f (omega arith)) ∙ ap (take n) e ∙ take-take n q g (omega arith)

    alike : Alike a.said.length f g
    alike = alike_front a.said.length f g (header_stands f a.said a.reads).length_le front

    -- the second file's header is the first's
    reads_same : header g ≡ Ok a.said
    reads_same =
        header_alike f g a.said alike (header_stands g b.said b.reads).file_le a.reads

    said_same : b.said ≡ a.said
    said_same = let z : Ok b.said ≡ Ok a.said = sym b.reads ∙ reads_same in cc z

    second_keys : l ≡ keys_of u g a.said
    second_keys = b.keys_are ∙ ap (keys_of u g) said_same

    nonce_bytes : bytes_at g a.said.nonce ≡ bytes_at f a.said.nonce
    nonce_bytes =
        alike.part a.said.nonce.start a.said.nonce.length
        (header_stands f a.said a.reads).nonce_within

    cipher_same : k.cipher ≡ l.cipher
    cipher_same =
        ap (λ (x : Keys). x.cipher) a.keys_are ∙ keys_of-cipher t f a.said
        ∙ sym (ap (λ (x : Keys). x.cipher) second_keys ∙ keys_of-cipher u g a.said)

    nonce_same : k.nonce ≡ l.nonce
    nonce_same =
        ap (λ (x : Keys). x.nonce) a.keys_are ∙ keys_of-nonce t f a.said ∙ ap padded (sym nonce_bytes)
        ∙ sym (ap (λ (x : Keys). x.nonce) second_keys ∙ keys_of-nonce u g a.said)

    pub begun_same : SameKeys k l → SameStart k l p q
    begun_same s = record { keys_are = keys_same k l cipher_same nonce_same s; place_is = places }

-- the cipher key and the tag base of document 01 decide
keys_for_same : (c : Cipher) (x y m n v w : List ℕ) → x ≡ y → v ≡ w → SameKeys (keys_for c x m v) (keys_for c y n w)
unfolding keys_for
keys_for_same Aes256 x y m n v w e d = record { key_is = refl; round_keys_are = rw e; base_is = d }
keys_for_same ChaCha20 x y m n v w e d = record { key_is = e; round_keys_are = refl; base_is = d }

module _ (t f u g : List ℕ) (k l : Keys) (p q : ℕ) (a : start t f ≡ begun k p) (b : start u g ≡ begun l q)
    (e : take p f ≡ take q g) (h : Header) (i : header f ≡ Ok h) where
  x : Starts t f k p
  x = start-begun t f k p a

  y : Starts u g l q
  y = start-begun u g l q b

  read_is : x.said ≡ h
  read_is = let z : Ok x.said ≡ Ok h = sym x.reads ∙ i in cc z

  -- the master seed's bytes in both files
  seed_bytes : bytes_at g h.seed ≡ bytes_at f h.seed
  seed_bytes =
      rw read_is at ((alike t f u g k l p q x y e).part x.said.seed.start x.said.seed.length
      (header_stands f x.said x.reads).seed_within)

  pub same_keys_given : EqualKeys (bytes_at f h.seed) t u → SameKeys k l
  unfolding keys_of keys_with
  same_keys_given same =
      let k-is : k ≡ keys_of t f h = x.keys_are ∙ ap (keys_of t f) read_is in
      let l-is : l ≡ keys_of u g h = second_keys t f u g k l p q x y e ∙ ap (keys_of u g) read_is in
      rw (k-is, l-is, seed_bytes)
      (keys_for_same h.cipher (cipher_key (bytes_at f h.seed) t) (cipher_key (bytes_at f h.seed) u)
      (padded (bytes_at f h.nonce)) (padded (bytes_at g h.nonce))
      (tag_base (bytes_at f h.seed) t) (tag_base (bytes_at f h.seed) u) same.same_cipher_key same.same_tag_base)
