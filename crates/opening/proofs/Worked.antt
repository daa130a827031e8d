-- Document 01, "Numbers to meet": the numbers of the steps.
--
--   "AES c = 16: 0 handed over; c = 17: 16"      handed_16, handed_17
--   "padding 1 adds 15, padding 16 adds 0"       last_by_padding_1, last_by_padding_16: from any state
--                                                closing_31, closing_16: of a payload that was encrypted
--   "AES blocks of 5 and 27: 0 then 16"          steps_5_27: of the code's steps over any such file
--   both in one run                              closing_padding_1, closing_padding_16: the same file's closing block
-- Assumes nothing.
use Rattle.std.specs.Prelude.{Ok}
use mathlib.Core.Path.{◌≡◌, refl, ap, ◌∙◌}
use mathlib.Core.Logic.{◌≢◌}
use mathlib.Core.List.{List, [], ◌∷◌, ◌++◌}
use Prim.Native.Nat.{ℕ, suc, ◌+◌, ◌-◌, ◌*◌, ◌/◌, ◌%◌, ◌≤◌}
use native.Mathlib.Omega.{arith}
use borrow.Author.Tests.{eq-eqb, ne_eqb, le-ltb}
use lib.ListN.{length, take, drop, length-append, length-drop}
use lib.Seq.{length-take-le}
use Rattle.words.specs.Endian.{Bytes}
use Rattle.words.specs.Block.{IsBlock}
use Rattle.pkcs7.specs.Pkcs7.{padding, strip}
use Rattle.pkcs7.proofs.Laws.Padding.{padding-le}
use Rattle.ciphers.specs.declared.Cipher.{Cipher}
use Rattle.ciphers.specs.declared.Cipher.TheVariants.{Aes256}
use Rattle.block_stream.specs.Blocks.{judge, data_at}
use Rattle.block_stream.specs.declared.Block.TheVariants as block
use Rattle.opening.specs.declared.Keys.{Keys}
use Rattle.opening.specs.declared.Phase.TheVariants.{Open, Ended}
use Rattle.opening.specs.Decryption.{opened, aes_from, decryption_by, handed, stripped, payload_by, payload}
use Rattle.opening.specs.Whole.{close_of}
use Rattle.opening.specs.Runs.{Reply, answers}
use Rattle.opening.specs.Plain.{plain, plain_start, due, plain_close, plain_on, plain_in, plain_step}
use Rattle.opening.specs.Steps.{last_by}
use Rattle.opening.specs.Agreement.{step_answers}
use Rattle.opening.specs.Worked.{OpenedBytes, closing_adds, writtens, Blocks5And27, ClosingBehind, ciphertext}
use Rattle.opening.proofs.Laws.Replies.{hand_enough}
use Rattle.opening.proofs.Laws.Judge.{judge_data, length-data_at}
use Rattle.opening.proofs.Laws.Pieces.{length-aes_from}
use Rattle.opening.proofs.Laws.Strip.{dropped}
use Rattle.opening.proofs.Laws.Given.{length-due}
use Rattle.opening.proofs.Laws.Payload.{encrypted, length-encrypted, payload_aes}
use Rattle.opening.proofs.Laws.Blocks.{last_by-standing}
use Rattle.opening.proofs.Theorem.{agrees}

pub handed_16 : handed Aes256 16 ≡ 0
unfolding handed
handed_16 = refl

pub handed_17 : handed Aes256 17 ≡ 16
unfolding handed
handed_17 = refl

-- bytes that end in a padding of q bytes
stripped-padding : (x : List ℕ) (q : ℕ) → padding x ≡ q → 1 ≤ q → stripped (strip x) ≡ opened (take (length x - q) x)
unfolding stripped strip
stripped-padding x q e l = rw (e, ne_eqb q 0 (λ z. omega arith))

-- the closing block adds 16 - q bytes, from any state whose last piece decrypts to a padding of q bytes
pub last_by-padding : (k : Keys) (c : ℕ) (v h : List ℕ) (q : ℕ) → length v ≡ 16 → length h ≡ 16 → c ≢ 0 → c % 16 ≡ 0
    → padding (aes_from k v h) ≡ q → 1 ≤ q → OpenedBytes (last_by Aes256 k c v h) (16 - q)
unfolding last_by
last_by-padding k c v h q lv lh n z e l =
    let x : List ℕ = aes_from k v h in
    let s : length (aes_from k v h) ≡ 16 = length-aes_from k v lv h ∙ (omega arith) in
    record {
      bytes = take (length x - q) x;
      opened_is = rw (ne_eqb c 0 n, eq-eqb (c % 16) 0 z) (stripped-padding x q e l);
      count_is = length-take-le (length x - q) x (omega arith) ∙ (omega arith);
    }

pub last_by_padding_1 : (k : Keys) (c : ℕ) (v h : List ℕ) → length v ≡ 16 → length h ≡ 16 → c ≢ 0 → c % 16 ≡ 0
    → padding (aes_from k v h) ≡ 1 → OpenedBytes (last_by Aes256 k c v h) 15
last_by_padding_1 k c v h lv lh n z e = last_by-padding k c v h 1 lv lh n z e (omega arith)

pub last_by_padding_16 : (k : Keys) (c : ℕ) (v h : List ℕ) → length v ≡ 16 → length h ≡ 16 → c ≢ 0 → c % 16 ≡ 0
    → padding (aes_from k v h) ≡ 16 → OpenedBytes (last_by Aes256 k c v h) 0
last_by_padding_16 k c v h lv lh n z e = last_by-padding k c v h 16 lv lh n z e (omega arith)

-- of a payload that was padded and encrypted, the bytes behind its last whole piece
pub closing_encrypted : (k : Keys) → IsBlock k.nonce → (m : List ℕ) → Bytes m
    → closing_adds k (encrypted k m) ≡ opened (drop (16 * (length m / 16)) m)
unfolding dropped handed
closing_encrypted k h m b =
    let l = length-encrypted k h.size m in
    let e : 16 * ((length (encrypted k m) - 1) / 16) ≡ 16 * (length m / 16) = omega arith in
    last_by-standing Aes256 k h.size (encrypted k m) ∙ rw (payload_aes k h m b, e)

closing_count : (k : Keys) → IsBlock k.nonce → (m : List ℕ) → Bytes m
    → OpenedBytes (closing_adds k (encrypted k m)) (length m % 16)
closing_count k h m b =
    record {
      bytes = drop (16 * (length m / 16)) m;
      opened_is = closing_encrypted k h m b;
      count_is = length-drop (16 * (length m / 16)) m ∙ (omega arith);
    }

-- a payload of 31 bytes has a padding of 1, one of 16 bytes a padding of 16
pub closing_31 : (k : Keys) → IsBlock k.nonce → (m : List ℕ) → Bytes m → length m ≡ 31
    → OpenedBytes (closing_adds k (encrypted k m)) 15
closing_31 k h m b e = rw e at (closing_count k h m b)

pub closing_16 : (k : Keys) → IsBlock k.nonce → (m : List ℕ) → Bytes m → length m ≡ 16
    → OpenedBytes (closing_adds k (encrypted k m)) 0
closing_16 k h m b e = rw e at (closing_count k h m b)

-- a plain step with room at a data block, and at the closing block
abbrev wrote : {A : Type 0} → List ℕ → A → Reply A
wrote b next = record { answer = record { written = Ok (length b); bytes = b }; next = next }

plain_step_data : (k : Keys) (f : List ℕ) (i p : ℕ) (t : List ℕ) (n s : ℕ) → judge k.base f i p ≡ block.Data s
    → length (due k t (data_at f p s)) ≤ n
    → plain_step k f (plain Open i p t) n
    ≡ wrote (due k t (data_at f p s)) (plain Open (suc i) (p + 36 + s) (t ++ data_at f p s))
unfolding plain_step plain_in plain_on plain
plain_step_data k f i p t n s e l =
    rw e
    (hand_enough n (due k t (data_at f p s)) (plain Open i p t) (plain Open (suc i) (p + 36 + s) (t ++ data_at f p s)) l)

plain_step_closing : (k : Keys) (f : List ℕ) (i p : ℕ) (t : List ℕ) (n : ℕ) (b : List ℕ)
    → judge k.base f i p ≡ block.Closing → close_of k f p t ≡ opened b
    → length (drop (handed k.cipher (length t)) b) ≤ n
    → plain_step k f (plain Open i p t) n
    ≡ wrote (drop (handed k.cipher (length t)) b) (plain Ended (suc i) (p + 36) t)
unfolding plain_step plain_in plain_on plain_close plain
plain_step_closing k f i p t n b e c l =
    rw (e, c)
    (hand_enough n (drop (handed k.cipher (length t)) b) (plain Open i p t) (plain Ended (suc i) (p + 36) t) l)

-- how many bytes d adds behind t
length_due_aes : (k : Keys) → k.cipher ≡ Aes256 → length k.nonce ≡ 16 → (t d : List ℕ) (a b : ℕ) → length t ≡ a
    → length d ≡ b → length (due k t d) ≡ handed Aes256 (a + b) - handed Aes256 a
length_due_aes k z w t d a b g h =
    length-due k w t d ∙ ap (λ (x : Cipher). handed x (length t + length d) - handed x (length t)) z ∙ rw (g, h)

module _ (k : Keys) (f : List ℕ) (p : ℕ) (h : Blocks5And27 k f p) where
  length_first : length (data_at f p 5) ≡ 5
  length_first = length-data_at (judge_data k.base f 0 p 5 h.first)

  length_second : length (data_at f (p + 36 + 5) 27) ≡ 27
  length_second = length-data_at (judge_data k.base f 1 (p + 36 + 5) 27 h.second)

  inside : p ≤ length f
  inside = let l = (judge_data k.base f 0 p 5 h.first).present in omega arith

  due_first : length (due k [] (data_at f p 5)) ≡ 0
  unfolding handed
  due_first = length_due_aes k h.aes h.nonce_is [] (data_at f p 5) 0 5 refl length_first

  due_second : length (due k (data_at f p 5) (data_at f (p + 36 + 5) 27)) ≡ 16
  unfolding handed
  due_second =
      length_due_aes k h.aes h.nonce_is (data_at f p 5) (data_at f (p + 36 + 5) 27) 5 27 length_first length_second

  -- two steps, the first with any room at all
  plain_5_27 : (n m : ℕ) (ns : List ℕ) → 16 ≤ m
      → writtens (answers (plain_step k f) (plain_start p) (n ∷ m ∷ ns))
      ≡ Ok 0
      ∷ Ok 16
      ∷ writtens (answers (plain_step k f) (plain Open 2 (p + 36 + 5 + 36 + 27) (ciphertext f p)) ns)
  unfolding answers plain_start
  plain_5_27 n m ns l =
      let a = due_first in
      let b = due_second in
      rw (
        plain_step_data k f 0 p [] n 5 h.first (omega arith),
        plain_step_data k f 1 (p + 36 + 5) (data_at f p 5) m 27 h.second (omega arith),
        a,
        b,
      )

  pub steps_5_27 : (n m : ℕ) → 16 ≤ m → writtens (step_answers k f p (n ∷ m ∷ [])) ≡ Ok 0 ∷ Ok 16 ∷ []
  unfolding answers
  steps_5_27 n m l =
      ap writtens (agrees k h.nonce_is f p h.within h.behind_header inside (n ∷ m ∷ [])).answers_are
      ∙ plain_5_27 n m [] l

  length-ciphertext : length (ciphertext f p) ≡ 32
  length-ciphertext =
      length-append (data_at f p 5) (data_at f (p + 36 + 5) 27) ∙ (omega (arith, length_first, length_second))

  length-plaintext : length (decryption_by Aes256 k (ciphertext f p)) ≡ 32
  unfolding decryption_by
  length-plaintext = length-aes_from k k.nonce h.nonce_is (ciphertext f p) ∙ (omega (arith, length-ciphertext))

  -- the payload, where the plaintext ends in a padding of q bytes
  payload_5_27 : (q : ℕ) → padding (decryption_by Aes256 k (ciphertext f p)) ≡ q → 1 ≤ q
      → payload k (ciphertext f p) ≡ opened (take (32 - q) (decryption_by Aes256 k (ciphertext f p)))
  unfolding payload_by
  payload_5_27 q e l =
      let x : List ℕ = decryption_by Aes256 k (ciphertext f p) in
      ap (λ (z : Cipher). payload_by z k (ciphertext f p)) h.aes
      ∙ rw length-ciphertext (rw length-plaintext at (stripped-padding x q e l))

  -- what is left of it
  rest_5_27 : (q : ℕ) → q ≤ 16
      → length
      (drop (handed k.cipher (length (ciphertext f p))) (take (32 - q) (decryption_by Aes256 k (ciphertext f p))))
      ≡ 16 - q
  unfolding handed
  rest_5_27 q l =
      let x : List ℕ = decryption_by Aes256 k (ciphertext f p) in
      let e = length-take-le (32 - q) x (let z = length-plaintext in omega arith) in
      ap (λ (z : Cipher). length (drop (handed z (length (ciphertext f p))) (take (32 - q) x))) h.aes
      ∙ rw length-ciphertext (length-drop 16 (take (32 - q) x) ∙ (omega arith))

  pub closing_padding : ClosingBehind k f p → (q : ℕ) → padding (decryption_by Aes256 k (ciphertext f p)) ≡ q → 1 ≤ q
      → (n m r : ℕ) → 16 ≤ m → 16 - q ≤ r
      → writtens (step_answers k f p (n ∷ m ∷ r ∷ [])) ≡ Ok 0 ∷ Ok 16 ∷ Ok (16 - q) ∷ []
  unfolding answers close_of
  closing_padding c q e l n m r lm lr =
      let at : ℕ = p + 36 + 5 + 36 + 27 in
      let t : List ℕ = ciphertext f p in
      let b : List ℕ = take (32 - q) (decryption_by Aes256 k t) in
      let high : q ≤ 16 = rw e at (padding-le (decryption_by Aes256 k t)) in
      let left = rest_5_27 q high in
      let close : close_of k f at t ≡ opened b =
      rw (le-ltb (at + 36) (length f) c.nothing_behind) (payload_5_27 q e l) in
      ap writtens (agrees k h.nonce_is f p h.within h.behind_header inside (n ∷ m ∷ r ∷ [])).answers_are
      ∙ plain_5_27 n m (r ∷ []) lm
      ∙ rw (plain_step_closing k f 2 at t r b c.third close (omega arith), left)

  pub closing_padding_1 : ClosingBehind k f p → padding (decryption_by Aes256 k (ciphertext f p)) ≡ 1
      → (n m r : ℕ) → 16 ≤ m → 15 ≤ r
      → writtens (step_answers k f p (n ∷ m ∷ r ∷ [])) ≡ Ok 0 ∷ Ok 16 ∷ Ok 15 ∷ []
  closing_padding_1 c e n m r lm lr = closing_padding c 1 e (omega arith) n m r lm lr

  pub closing_padding_16 : ClosingBehind k f p → padding (decryption_by Aes256 k (ciphertext f p)) ≡ 16
      → (n m r : ℕ) → 16 ≤ m → writtens (step_answers k f p (n ∷ m ∷ r ∷ [])) ≡ Ok 0 ∷ Ok 16 ∷ Ok 0 ∷ []
  closing_padding_16 c e n m r lm = closing_padding c 16 e (omega arith) n m r lm (omega arith)
