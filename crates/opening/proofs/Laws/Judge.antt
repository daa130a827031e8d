-- What a block's checks say of the file, and which refusals they give.
--
-- In order:
--   closing_is                   refusals that close
--   int32_of                     a size that is not negative is the number itself
--   Passed, length-data_at        a block that passes
--   judge_data, judge_closing    a data block and the closing block pass
--   judge_some                   a data block has a byte at least
--   judge-refused                a refusal of the checks closes an opening
-- Not here: bytes behind the closing block and padding (Refusals).
-- Assumes nothing.
use mathlib.Core.Path.{◌≡◌, refl, sym, ap, ◌∙◌}
use mathlib.Core.Bool.{Bool, true, false, cond}
use mathlib.Core.List.{List}
use Prim.Native.Nat.{ℕ, ◌+◌, ◌-◌, ◌^◌, ◌≤◌}
use native.Mathlib.Omega.{arith}
use borrow.Author.Tests.{leb-true, eqb-true, eqb-false}
use lib.Dec.{eqb, leb, ltb}
use lib.ListN.{length, drop, length-drop}
use lib.Seq.{length-take-le}
use Rattle.words.specs.Size.{int32}
use Rattle.std.specs.Prelude.{Option, Some, None}
use Rattle.words.proofs.Laws.Cases.{by_bool}
use Rattle.refusals.specs.declared.Refusal.{Refusal}
use Rattle.refusals.specs.declared.Refusal.TheVariants.{
  TooLong,
  CutShort,
  WrongSize,
  BlockTag,
  TrailingBytes,
  WrongPadding,
}
use Rattle.refusals.specs.Limits.{file_limit}
use Rattle.block_stream.specs.Blocks.{holds, found, judge_size, judge, data_at}
use Rattle.block_stream.specs.declared.Block.{Block}
use Rattle.block_stream.specs.declared.Block.TheVariants as block
use Rattle.opening.specs.Agreement.{Closing, size_at}
use Rattle.opening.proofs.Laws.Replies.{never}

-- the refusals that close
pub closing_too_long : Closing TooLong
closing_too_long = record { no_room = λ e. never (cc); no_step = λ e. never (cc) }

pub closing_cut_short : Closing (CutShort 0)
closing_cut_short = record { no_room = λ e. never (cc); no_step = λ e. never (cc) }

pub closing_wrong_size : Closing (WrongSize 0)
closing_wrong_size = record { no_room = λ e. never (cc); no_step = λ e. never (cc) }

pub closing_block_tag : Closing BlockTag
closing_block_tag = record { no_room = λ e. never (cc); no_step = λ e. never (cc) }

pub closing_trailing_bytes : Closing TrailingBytes
closing_trailing_bytes = record { no_room = λ e. never (cc); no_step = λ e. never (cc) }

pub closing_wrong_padding : Closing WrongPadding
closing_wrong_padding = record { no_room = λ e. never (cc); no_step = λ e. never (cc) }

pub closing_is : {r s : Refusal} → r ≡ s → Closing r → Closing s
closing_is e c = record { no_room = λ h. c.no_room (e ∙ h); no_step = λ h. c.no_step (e ∙ h) }

pub int32_of : (n m : ℕ) → int32 n ≡ Some m → n ≡ m
unfolding int32
int32_of n m h = by_bool (ltb n (2 ^ 31)) (λ t. let e = rw t at h in cc e) (λ t. let e = rw t at h in never (cc e))

-- a block that passes as block i, with a size of n
pub record Passed (base f : List ℕ) (i p n : ℕ) : Type 0 where
  pub size_is : size_at f p ≡ n
  pub present : p + 36 + n ≤ length f
  pub tag_does_hold : holds base f i p n ≡ true

pub length-data_at : {base f : List ℕ} {i p n : ℕ} → Passed base f i p n → length (data_at f p n) ≡ n
length-data_at {f = f} {p = p} {n = n} h =
    let l = h.present in
    let m : n ≤ length (drop (p + 36) f) = simp length-drop (omega arith) in
    length-take-le n (drop (p + 36) f) m

-- the tests behind a size that is not negative
abbrev verdict : Bool → Bool → Bool → ℕ → Block
verdict fits tagged empty n =
    cond fits (cond tagged (cond empty block.Closing (block.Data n)) (block.Refused BlockTag)) (block.Refused (CutShort 0))

record Tests (fits tagged empty expected : Bool) (m n : ℕ) : Type 0 where
  fits_is : fits ≡ true
  tagged_is : tagged ≡ true
  empty_is : empty ≡ expected
  same : m ≡ n

verdict_data : (a b c : Bool) (m n : ℕ) → verdict a b c m ≡ block.Data n → Tests a b c false m n
verdict_data true true true m n h = never (cc)
verdict_data true true false m n h = record { fits_is = refl; tagged_is = refl; empty_is = refl; same = cc }
verdict_data true false c m n h = never (cc)
verdict_data false b c m n h = never (cc)

verdict_closing : (a b c : Bool) (m : ℕ) → verdict a b c m ≡ block.Closing → Tests a b c true m m
verdict_closing true true true m h = record { fits_is = refl; tagged_is = refl; empty_is = refl; same = refl }
verdict_closing true true false m h = never (cc)
verdict_closing true false c m h = never (cc)
verdict_closing false b c m h = never (cc)

verdict-refused : (a b c : Bool) (m : ℕ) (r : Refusal) → verdict a b c m ≡ block.Refused r → Closing r
verdict-refused true true true m r h = never (cc)
verdict-refused true true false m r h = never (cc)
verdict-refused true false c m r h = closing_is (cc) closing_block_tag
verdict-refused false b c m r h = closing_is (cc) closing_cut_short

-- the tests before the size
record Sized (f : List ℕ) (p : ℕ) (found expected : Block) : Type 0 where
  header_present : p + 36 ≤ length f
  found_is : found ≡ expected

before_size : (base f : List ℕ) (i p : ℕ) (b : Block) → ((r : Refusal) → b ≡ block.Refused r → ⊥) → judge base f i p ≡ b
    → Sized f p (judge_size base f i p (int32 (size_at f p))) b
unfolding judge
before_size base f i p b n h =
    by_bool (leb (length f) file_limit)
    (λ t.
    by_bool (leb (p + 36) (length f))
    (λ u. record { header_present = leb-true (p + 36) (length f) u; found_is = rw (t, u) at h })
    (λ u. let e = rw (t, u) at h in absurd (n (CutShort 0) (sym e))))
    (λ t. let e = rw t at h in absurd (n TooLong (sym e)))

judge_size_data : (base f : List ℕ) (i p n : ℕ) (s : Option ℕ) → int32 (size_at f p) ≡ s → p + 36 ≤ length f
    → judge_size base f i p s ≡ block.Data n → Passed base f i p n
unfolding judge_size found
judge_size_data base f i p n None e l h = never (cc)
judge_size_data base f i p n (Some m) e l h =
    let t = verdict_data (leb m (length f - (p + 36))) (holds base f i p m) (eqb m 0) m n h in
    let fits = leb-true m (length f - (p + 36)) t.fits_is in
    let same = t.same in
    record {
      size_is = int32_of (size_at f p) m e ∙ same;
      present = omega arith;
      tag_does_hold = ap (λ (x : ℕ). holds base f i p x) (sym same) ∙ t.tagged_is;
    }

judge_size_closing : (base f : List ℕ) (i p : ℕ) (s : Option ℕ) → int32 (size_at f p) ≡ s → p + 36 ≤ length f
    → judge_size base f i p s ≡ block.Closing → Passed base f i p 0
unfolding judge_size found
judge_size_closing base f i p None e l h = never (cc)
judge_size_closing base f i p (Some m) e l h =
    let t = verdict_closing (leb m (length f - (p + 36))) (holds base f i p m) (eqb m 0) m h in
    let same = eqb-true m 0 t.empty_is in
    record {
      size_is = int32_of (size_at f p) m e ∙ same;
      present = omega arith;
      tag_does_hold = ap (λ (x : ℕ). holds base f i p x) (sym same) ∙ t.tagged_is;
    }

judge_size-refused : (base f : List ℕ) (i p : ℕ) (r : Refusal) (s : Option ℕ) → judge_size base f i p s ≡ block.Refused r
    → Closing r
unfolding judge_size found
judge_size-refused base f i p r None h = closing_is (cc) closing_wrong_size
judge_size-refused base f i p r (Some m) h =
    verdict-refused (leb m (length f - (p + 36))) (holds base f i p m) (eqb m 0) m r h

pub judge_data : (base f : List ℕ) (i p n : ℕ) → judge base f i p ≡ block.Data n → Passed base f i p n
judge_data base f i p n h =
    let s = before_size base f i p (block.Data n) (λ r e. never (cc)) h in
    judge_size_data base f i p n (int32 (size_at f p)) refl s.header_present s.found_is

judge_size_some : (base f : List ℕ) (i p n : ℕ) (s : Option ℕ) → judge_size base f i p s ≡ block.Data n → (n ≡ 0 → ⊥)
unfolding judge_size found
judge_size_some base f i p n None h = never (cc)
judge_size_some base f i p n (Some m) h =
    let t = verdict_data (leb m (length f - (p + 36))) (holds base f i p m) (eqb m 0) m n h in
    λ z. eqb-false m 0 t.empty_is (t.same ∙ z)

pub judge_some : (base f : List ℕ) (i p n : ℕ) → judge base f i p ≡ block.Data n → (n ≡ 0 → ⊥)
judge_some base f i p n h =
    let s = before_size base f i p (block.Data n) (λ r e. never (cc)) h in
    judge_size_some base f i p n (int32 (size_at f p)) s.found_is

pub judge_closing : (base f : List ℕ) (i p : ℕ) → judge base f i p ≡ block.Closing → Passed base f i p 0
judge_closing base f i p h =
    let s = before_size base f i p block.Closing (λ r e. never (cc)) h in
    judge_size_closing base f i p (int32 (size_at f p)) refl s.header_present s.found_is

pub judge-refused : (base f : List ℕ) (i p : ℕ) (r : Refusal) → judge base f i p ≡ block.Refused r → Closing r
unfolding judge
judge-refused base f i p r h =
    by_bool (leb (length f) file_limit)
    (λ t.
    by_bool (leb (p + 36) (length f))
    (λ u. judge_size-refused base f i p r (int32 (size_at f p)) (rw (t, u) at h))
    (λ u. let e = rw (t, u) at h in closing_is (cc e) closing_cut_short))
    (λ t. let e = rw t at h in closing_is (cc e) closing_too_long)
