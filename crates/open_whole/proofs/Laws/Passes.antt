-- One pass over all blocks: its loop, and that it stands for the walk of the definition.
--
-- In order:
--   survey_more, survey-refused, survey_trailing, survey-text    a turn of the loop, and its ends
--   length-text                                                  the count is the ciphertext's length
--   whole_refused, whole_text                                    the walk of the definition, by the answer of the pass
-- Assumes nothing.
use mathlib.Core.Path.{◌≡◌, refl, sym, ap, ap₂, ◌∙◌}
use mathlib.Core.List.{List, [], ◌++◌, append_assoc, append-nil}
use Prim.Native.Nat.{ℕ, zero, suc, ◌+◌, ◌-◌, ◌≤◌, ◌<◌}
use native.Mathlib.Numerals.{add-one}
use native.Mathlib.Nat.{add_assoc, add-zero, zero-add}
use native.Mathlib.Omega.{arith}
use lib.Dec.{ltb}
use lib.ListN.{length, drop, length-append, length-drop}
use lib.Seq.{length-take-le}
use borrow.Author.Tests.{lt-ltb, le-ltb}
use Rattle.words.proofs.Laws.Cases.{by_bool}
use Rattle.refusals.specs.declared.Refusal.{Refusal}
use Rattle.refusals.specs.declared.Refusal.TheVariants.{TrailingBytes}
use Rattle.block_stream.specs.Blocks.{judge, data_at}
use Rattle.block_stream.specs.declared.Block.{Block}
use Rattle.block_stream.specs.declared.Block.TheVariants as block
use Rattle.opening.specs.declared.Keys.{Keys}
use Rattle.opening.specs.Decryption.{refused, payload}
use Rattle.opening.specs.Whole.{close_of, walk_in, walk, whole}
use Rattle.std.specs.Prelude.{Ok, Err}
use Rattle.open_whole.specs.Ciphertext.{text_of, text}
use Rattle.open_whole.specs.Checks.{survey_close, survey_in, survey, settled}
use Rattle.open_whole.proofs.Laws.Sizes.{Standing, judge_data, judge_closing, text_of_more, text_of_end}

-- behind i of at most l blocks
module _ (l : ℕ) (base f : List ℕ) (i p c : ℕ) (h : i ≤ l) where
  turn : survey (suc l - i) base f i p c
      ≡ survey_in (judge base f i p) (λ (n : ℕ). survey (l - i) base f (suc i) (p + 36 + n) (c + n)) (survey_close f p c)
  unfolding survey
  turn = let e : suc l - i ≡ suc (l - i) = omega arith in rw e

  pub survey_more : (n : ℕ) → judge base f i p ≡ block.Data n
      → survey (suc l - (i + 1)) base f (i + 1) (p + (36 + n)) (c + n) ≡ survey (suc l - i) base f i p c
  unfolding survey_in
  survey_more n e =
      let a : suc l - (i + 1) ≡ l - i = omega arith in
      let b : p + (36 + n) ≡ p + 36 + n = omega arith in
      rw (turn, e, a, b, add-one)

  pub survey-refused : (r : Refusal) → judge base f i p ≡ block.Refused r → Err r ≡ survey (suc l - i) base f i p c
  unfolding survey_in
  survey-refused r e = rw (turn, e)

  pub survey_trailing : judge base f i p ≡ block.Closing → p + 36 < length f
      → Err TrailingBytes ≡ survey (suc l - i) base f i p c
  unfolding survey_in survey_close
  survey_trailing e g = rw (turn, e, lt-ltb _ _ g)

  pub survey-text : judge base f i p ≡ block.Closing → length f ≤ p + 36 → Ok c ≡ survey (suc l - i) base f i p c
  unfolding survey_in survey_close
  survey-text e g = rw (turn, e, le-ltb _ _ g)

-- how long a block's data is
length_data : (f : List ℕ) (p n : ℕ) → Standing f p n → length (data_at f p n) ≡ n
length_data f p n s =
    let w = s.within in
    length-take-le n (drop (p + 36) f) (simp length-drop (omega arith))

-- the count, by what the block is
module _ (base f : List ℕ) where
  length_step : (m i p c d : ℕ) (b : Block) → judge base f i p ≡ b
      → ((n : ℕ) → survey m base f (suc i) (p + 36 + n) (c + n) ≡ Ok d → d ≡ c + n + length (text_of m f (p + 36 + n)))
      → survey_in b (λ (n : ℕ). survey m base f (suc i) (p + 36 + n) (c + n)) (survey_close f p c) ≡ Ok d
      → d ≡ c + length (text_of (suc m) f p)
  unfolding survey_in survey_close
  length_step m i p c d (block.Refused r) e more h = let z : ◌≡◌ {A = ℕ} 0 1 = cc in absurd (omega arith)
  length_step m i p c d (block.Data n) e more h =
      let s = judge_data base f i p n e in
      let l = length_data f p n s.0 in
      let z : n ≡ 0 → ⊥ = λ a. omega (arith, s.1) in
      more n h
      ∙ rw (text_of_more m f p n s.0.size z, length-append, l) (add_assoc c n (length (text_of m f (p + 36 + n))))
  length_step m i p c d block.Closing e more h =
      rw (text_of_end (suc m) f p (judge_closing base f i p e).size, add-zero)
      (by_bool (ltb (p + 36) (length f))
      (λ t. let a = rw t at h in let z : ◌≡◌ {A = ℕ} 0 1 = cc in absurd (omega arith))
      (λ t. let a = rw t at h in cc))

  length-survey : (m i p c d : ℕ) → survey m base f i p c ≡ Ok d → d ≡ c + length (text_of m f p)
  unfolding survey
  length-survey zero i p c d h = let z : ◌≡◌ {A = ℕ} 0 1 = cc in absurd (omega arith)
  length-survey (suc m) i p c d h =
      length_step m i p c d (judge base f i p) refl (λ n. length-survey m (suc i) (p + 36 + n) (c + n) d) h

  pub length-text : (p c : ℕ) → survey (suc (length f)) base f 0 p 0 ≡ Ok c → c ≡ length (text f p)
  unfolding text
  length-text p c e = length-survey (suc (length f)) 0 p 0 c e ∙ zero-add (length (text f p))

-- the walk and the pass, by what the block is
module _ (k : Keys) (f : List ℕ) where
  walk_step : (m i p : ℕ) (t : List ℕ) (b : Block) → judge k.base f i p ≡ b
      → ((n : ℕ) → walk m k f (suc i) (p + 36 + n) (t ++ data_at f p n)
      ≡ settled (survey m k.base f (suc i) (p + 36 + n) (length (t ++ data_at f p n)))
      (payload k ((t ++ data_at f p n) ++ text_of m f (p + 36 + n))))
      → walk_in b (λ (n : ℕ). walk m k f (suc i) (p + 36 + n) (t ++ data_at f p n)) (close_of k f p t)
      ≡ settled
      (survey_in b (λ (n : ℕ). survey m k.base f (suc i) (p + 36 + n) (length t + n)) (survey_close f p (length t)))
      (payload k (t ++ text_of (suc m) f p))
  unfolding walk_in survey_in close_of survey_close settled
  walk_step m i p t (block.Refused r) e more = refl
  walk_step m i p t (block.Data n) e more =
      let s = judge_data k.base f i p n e in
      let d = data_at f p n in
      let l : length (t ++ d) ≡ length t + n =
      length-append t d ∙ ap (λ (j : ℕ). length t + j) (length_data f p n s.0) in
      let z : n ≡ 0 → ⊥ = λ a. omega (arith, s.1) in
      more n
      ∙ ap₂ (λ (c : ℕ) (w : List ℕ). settled (survey m k.base f (suc i) (p + 36 + n) c) (payload k w)) l
      (append_assoc t d (text_of m f (p + 36 + n))
      ∙ ap (λ (w : List ℕ). t ++ w) (sym (text_of_more m f p n s.0.size z)))
  walk_step m i p t block.Closing e more =
      rw (text_of_end (suc m) f p (judge_closing k.base f i p e).size, append-nil)
      (by_bool (ltb (p + 36) (length f)) (λ u. rw u) (λ u. rw u))

  walk-survey : (m i p : ℕ) (t : List ℕ)
      → walk m k f i p t ≡ settled (survey m k.base f i p (length t)) (payload k (t ++ text_of m f p))
  unfolding walk survey settled
  walk-survey zero i p t = refl
  walk-survey (suc m) i p t =
      walk_step m i p t (judge k.base f i p) refl (λ n. walk-survey m (suc i) (p + 36 + n) (t ++ data_at f p n))

  whole_survey : (p : ℕ) → whole k f p ≡ settled (survey (suc (length f)) k.base f 0 p 0) (payload k (text f p))
  unfolding whole text
  whole_survey p = walk-survey (suc (length f)) 0 p []

  -- the whole opener, where the pass refuses, and where it does not
  pub whole_refused : (p : ℕ) (r : Refusal) → survey (suc (length f)) k.base f 0 p 0 ≡ Err r
      → whole k f p ≡ refused r
  unfolding settled
  whole_refused p r e = whole_survey p ∙ rw e

  pub whole_text : (p c : ℕ) → survey (suc (length f)) k.base f 0 p 0 ≡ Ok c → whole k f p ≡ payload k (text f p)
  unfolding settled
  whole_text p c e = whole_survey p ∙ rw e
