-- A step's replies, case by case, in the order in which the code finds them.
--
-- In order:
--   refuse_does, close_does              a refusal writes nothing; one that closes the state
--   does_by                              of two equal replies
--   hand_short, hand_does                bytes that do not fit, and bytes that do
--   length_data, data_short, data_does   a data block, with too little room and with enough
--   closing_behind, closing_last         bytes behind the closing block, and none
--   last_none, last_odd, last_wrong      AES: no ciphertext, no whole pieces, no padding
--   last_short, last_does                AES: the last piece, with too little room and with enough
--   chacha_last                          ChaCha20: nothing is added
--   step_unsound, step_closed, step_ended, step_sound    the state's mark
-- Not here: how many bytes are due (Due).
-- Assumes nothing.
use mathlib.Core.Path.{◌≡◌, refl, sym, ap, subst, ◌∙◌}
use mathlib.Core.Bool.{true, false}
use mathlib.Core.List.{List, []}
use Prim.Native.Nat.{ℕ, ◌+◌, ◌-◌, ◌%◌, ◌≤◌, ◌<◌}
use native.Mathlib.Omega.{arith}
use lib.ListN.{length, take, drop, length-drop}
use lib.Seq.{length-take-le}
use borrow.Author.Tests.{lt-ltb, le-ltb, eq-eqb, ne_eqb}
use Rattle.slices.specs.Over.{over}
use Rattle.slices.proofs.Laws.Over.{over_nil, over_fits}
use Rattle.refusals.specs.declared.Refusal.{Refusal}
use Rattle.refusals.specs.declared.Refusal.TheVariants.{TrailingBytes, WrongPadding, NoRoom, OutOfSequence}
use Rattle.ciphers.specs.declared.Cipher.{Cipher}
use Rattle.ciphers.specs.declared.Cipher.TheVariants.{Aes256, ChaCha20}
use Rattle.fips197.specs.Fips197.{inv_cipher}
use Rattle.cbc.proofs.Laws.Mode.{length-decrypt}
use Rattle.aes_cbc.proofs.RoundTrip.{inv_cipher-keeps}
use Rattle.std.specs.Prelude.{Option, Some, Ok}
use Rattle.pkcs7.specs.Pkcs7.{padding, strip}
use Rattle.pkcs7.specs.Answer.{answer}
use Rattle.pkcs7.proofs.Laws.Check.{answer_of}
use Rattle.block_stream.specs.declared.Block.TheVariants.{Data, Closing}
use Rattle.block_stream.specs.Blocks.{data_at}
use Rattle.opening.specs.declared.Keys.{Keys}
use Rattle.opening.specs.declared.Opener.{Opener}
use Rattle.opening.specs.declared.Phase.{Phase}
use Rattle.opening.specs.declared.Phase.TheVariants.{Open, Closed, Ended}
use Rattle.opening.specs.declared.Stepped.{Stepped}
use Rattle.opening.specs.Decryption.{aes_from, stripped}
use Rattle.opening.specs.Runs.{Reply, refuse, hand}
use Rattle.opening.specs.Steps.{blank, sound, mark_of, bytes_by, last_by, close_by, taking, step_on, step_in, step_of}
use Rattle.opener.specs.Counts.{due_by}
use Rattle.opener.specs.Replies.{stepped, Does}
use Rattle.opener.proofs.Laws.Due.{length-due}

pub refuse_does : (why : Refusal) (a : Opener) (r : Stepped) (d : List ℕ) → r ≡ stepped (refuse why a)
    → Does (refuse why a) r d d
unfolding refuse
refuse_does why a r d e = record { gives = e; leaves = sym (over_nil d) }

pub close_does : (why : Refusal) (a : Opener) (r : Stepped) (d : List ℕ) → a ≡ blank Closed
    → r ≡ stepped (refuse why a) → Does (refuse why (blank Closed)) r d d
close_does why a r d e h =
    refuse_does why (blank Closed) r d (h ∙ ap (λ (b : Opener). stepped (refuse why b)) e)

pub does_by : (q p : Reply Opener) (r : Stepped) (d x : List ℕ) → q ≡ p → Does p r d x → Does q r d x
does_by q p r d x e h = subst (λ (y : Reply Opener). Does y r d x) (sym e) h

-- b is due, n bytes are lent
pub hand_short : (n : ℕ) (b : List ℕ) (o a : Opener) → n < length b → hand n b o a ≡ refuse NoRoom o
unfolding hand
hand_short n b o a h = rw (lt-ltb n (length b) h)

pub hand_does : (b d x : List ℕ) (n : ℕ) (o a : Opener) (r : Stepped) → length b ≡ n → n ≤ length d
    → r ≡ record { answer = Ok n; next = a } → x ≡ over b d
    → Does (hand (length d) b o a) r d x
unfolding hand
hand_does b d x n o a r e l g h =
    let k : length b ≤ length d = omega arith in
    rw (le-ltb (length d) (length b) k)
    (record { gives = g ∙ ap (λ (m : ℕ). record { answer = Ok m; next = a }) (sym e); leaves = h })

pub length_data : (f : List ℕ) (o : Opener) (n : ℕ) → o.at + 36 + n ≤ length f → length (data_at f o.at n) ≡ n
length_data f o n h = length-take-le n (drop (o.at + 36) f) (simp length-drop (omega arith))

-- a data block of n bytes, the state's arrays being of sixteen
module _ (f : List ℕ) (o : Opener) (n : ℕ) (fits : o.at + 36 + n ≤ length f) (lv : length o.prev ≡ 16)
    (lx : length o.held ≡ 16) where
  length_bytes : length (bytes_by o.keys.cipher o.keys o.taken o.prev o.held (data_at f o.at n))
      ≡ due_by o.keys.cipher o.taken n
  length_bytes = length-due o.keys.cipher o.keys o.taken o.prev o.held (data_at f o.at n) lv lx
      ∙ ap (due_by o.keys.cipher o.taken) (length_data f o n fits)

  pub data_short : (m : ℕ) → m < due_by o.keys.cipher o.taken n → step_on (Data n) f o m ≡ refuse NoRoom o
  unfolding step_on
  data_short m h = hand_short m _ o (taking o (data_at f o.at n)) (omega (arith, length_bytes))

  pub data_does : (d x : List ℕ) (k : ℕ) (r : Stepped) → k ≡ due_by o.keys.cipher o.taken n → k ≤ length d
      → r ≡ record { answer = Ok k; next = taking o (data_at f o.at n) }
      → x ≡ over (bytes_by o.keys.cipher o.keys o.taken o.prev o.held (data_at f o.at n)) d
      → Does (step_on (Data n) f o (length d)) r d x
  unfolding step_on
  data_does d x k r e l g h =
      hand_does (bytes_by o.keys.cipher o.keys o.taken o.prev o.held (data_at f o.at n)) d x k o
      (taking o (data_at f o.at n)) r (length_bytes ∙ sym e) l g h

module _ (f : List ℕ) (o : Opener) (m : ℕ) where
  pub closing_behind : o.at + 36 < length f → step_on Closing f o m ≡ refuse TrailingBytes (blank Closed)
  unfolding step_on close_by
  closing_behind h = rw (lt-ltb _ _ h)

  pub closing_last : length f ≤ o.at + 36 → (y : Cipher) → o.keys.cipher ≡ y
      → step_on Closing f o m ≡ close_by (last_by y o.keys o.taken o.prev o.held) o m
  unfolding step_on
  closing_last h y e =
      rw (le-ltb (o.at + 36) (length f) h)
      (ap (λ (z : Cipher). close_by (last_by z o.keys o.taken o.prev o.held) o m) e)

-- the closing block behind c bytes of AES ciphertext, m bytes being lent
module _ (k : Keys) (c : ℕ) (v x : List ℕ) (o : Opener) (m : ℕ) where
  pub last_none : c ≡ 0 → close_by (last_by Aes256 k c v x) o m ≡ refuse WrongPadding (blank Closed)
  unfolding last_by close_by
  last_none h = rw (eq-eqb c 0 h)

  pub last_odd : (c ≡ 0 → ⊥) → (c % 16 ≡ 0 → ⊥)
      → close_by (last_by Aes256 k c v x) o m ≡ refuse WrongPadding (blank Closed)
  unfolding last_by close_by
  last_odd h g = rw (ne_eqb c 0 h, ne_eqb (c % 16) 0 g)

  pub last_wrong : (c ≡ 0 → ⊥) → c % 16 ≡ 0 → padding (aes_from k v x) ≡ 0
      → close_by (last_by Aes256 k c v x) o m ≡ refuse WrongPadding (blank Closed)
  unfolding last_by close_by strip stripped
  last_wrong h g e = rw (ne_eqb c 0 h, eq-eqb (c % 16) 0 g, eq-eqb (padding (aes_from k v x)) 0 e)

  last_padded : (c ≡ 0 → ⊥) → c % 16 ≡ 0 → (p : ℕ) → padding (aes_from k v x) ≡ p → 1 ≤ p
      → length (aes_from k v x) ≡ 16
      → close_by (last_by Aes256 k c v x) o m ≡ hand m (take (16 - p) (aes_from k v x)) o (blank Ended)
  unfolding last_by close_by strip stripped
  last_padded h g p e l lb =
      let n : padding (aes_from k v x) ≡ 0 → ⊥ = λ z. omega arith in
      rw (ne_eqb c 0 h, eq-eqb (c % 16) 0 g, ne_eqb (padding (aes_from k v x)) 0 n, lb, e)

-- y is the last piece decrypted, z what its check finds: p bytes of padding. d is lent.
module _ (k : Keys) (c : ℕ) (v x : List ℕ) (o : Opener) (d : List ℕ) (some-text : c ≡ 0 → ⊥) (whole : c % 16 ≡ 0)
    (lv : length v ≡ 16) (lx : length x ≡ 16) (y : List ℕ) (ey : y ≡ aes_from k v x) (z : Option ℕ)
    (ez : z ≡ answer (padding y)) (p : ℕ) (ep : z ≡ Some p) where
  length_piece : length (aes_from k v x) ≡ 16
  length_piece =
      length-decrypt (λ b. inv_cipher b k.round_keys.words) (inv_cipher-keeps k.round_keys.words) v lv x
      ∙ omega arith

  length_left : length (take (16 - p) (aes_from k v x)) ≡ 16 - p
  length_left = length-take-le (16 - p) (aes_from k v x) (omega (arith, length_piece))

  padded_is : close_by (last_by Aes256 k c v x) o (length d)
      ≡ hand (length d) (take (16 - p) (aes_from k v x)) o (blank Ended)
  padded_is =
      let found = answer_of (padding y) p (sym ez ∙ ep) in
      last_padded k c v x o (length d) some-text whole p (ap padding (sym ey) ∙ found.0) found.1 length_piece

  pub last_short : (r : Stepped) → length d < 16 - p → r ≡ stepped (refuse NoRoom o)
      → Does (close_by (last_by Aes256 k c v x) o (length d)) r d d
  last_short r h e =
      let l : length d < length (take (16 - p) (aes_from k v x)) = omega (arith, length_left) in
      does_by _ (refuse NoRoom o) r d d
      (padded_is ∙ hand_short (length d) (take (16 - p) (aes_from k v x)) o (blank Ended) l)
      (refuse_does NoRoom o r d e)

  pub last_does : (a : Opener) (w : List ℕ) → 16 - p ≤ length d → a ≡ blank Ended
      → w ≡ over (take (length d) (take (16 - p) y)) d
      → Does (close_by (last_by Aes256 k c v x) o (length d)) (record { answer = Ok (16 - p); next = a }) d w
  last_does a w h e g =
      let b = take (16 - p) (aes_from k v x) in
      let l : length b ≤ length d = omega (arith, length_left) in
      does_by _ (hand (length d) b o (blank Ended)) (record { answer = Ok (16 - p); next = a }) d w padded_is
      (hand_does b d w (16 - p) o (blank Ended) (record { answer = Ok (16 - p); next = a }) length_left h
      (ap (λ (q : Opener). record { answer = Ok (16 - p); next = q }) e)
      (g ∙ ap (λ (q : List ℕ). over (take (length d) (take (16 - p) q)) d) ey ∙ over_fits b d l))

pub chacha_last : (k : Keys) (c : ℕ) (v x : List ℕ) (o : Opener) (m : ℕ)
    → close_by (last_by ChaCha20 k c v x) o m ≡ hand m [] o (blank Ended)
unfolding last_by close_by
chacha_last k c v x o m = refl

-- the state's mark
module _ (f : List ℕ) (o : Opener) (m : ℕ) where
  pub step_sound : o.phase ≡ Open → sound o.number o.at o.taken ≡ true
      → step_of f o m ≡ step_in Open f o m
  unfolding step_of mark_of
  step_sound e s = ap (λ (z : Phase). step_in (mark_of (sound o.number o.at o.taken) z) f o m) e ∙ rw s

  pub step_unsound : o.phase ≡ Open → sound o.number o.at o.taken ≡ false
      → step_of f o m ≡ refuse OutOfSequence o
  unfolding step_of mark_of step_in
  step_unsound e s = ap (λ (z : Phase). step_in (mark_of (sound o.number o.at o.taken) z) f o m) e ∙ rw s

  pub step_closed : o.phase ≡ Closed → step_of f o m ≡ refuse OutOfSequence o
  unfolding step_of mark_of step_in
  step_closed e = ap (λ (z : Phase). step_in (mark_of (sound o.number o.at o.taken) z) f o m) e

  pub step_ended : o.phase ≡ Ended → step_of f o m ≡ refuse OutOfSequence o
  unfolding step_of mark_of step_in
  step_ended e = ap (λ (z : Phase). step_in (mark_of (sound o.number o.at o.taken) z) f o m) e
