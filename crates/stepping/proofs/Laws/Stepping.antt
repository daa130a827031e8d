-- Steps one after the other, as code goes through them.
--
-- In order:
--   step_of_room           a step hands over no more than it is lent
--   Going, going_start    what is handed over so far, and what the steps to come make of it
--   after-…               what a step's answer makes of the steps
--   on_refusal, on_closing, on_data    the same of the slice that the code writes into
--   going_none            no step left
--   ran_refused, ran_accepted          the start before them
--   no_ended_tag          of two tags, neither is the ended mark's
-- Not here: one step (crate opening).
-- Assumes nothing.
use Rattle.std.specs.Prelude.{Ok, Err}
use mathlib.Core.Path.{◌≡◌, refl, sym, ap, ◌∙◌}
use mathlib.Core.Logic.{◌≢◌, ◌⊎◌, inl, inr}
use mathlib.Core.List.{List, [], ◌++◌, append_assoc, append-nil}
use Prim.Native.Nat.{ℕ, zero, suc, ◌+◌, ◌-◌, ◌≤◌, ◌<◌}
use native.Mathlib.Nat.{sub-zero}
use native.Mathlib.Numerals.{sub-one}
use native.Mathlib.Omega.{arith}
use borrow.Author.Tests.{ltb-false}
use lib.Dec.{ltb}
use lib.ListN.{length, take, drop, length-append, length-drop}
use lib.Seq.{length-take-le}
use Rattle.words.proofs.Laws.Cases.{by_bool}
use Rattle.slices.specs.Over.{over}
use Rattle.slices.proofs.Laws.Over.{over_nil, over_tail, take_over, length_over}
use Rattle.refusals.specs.Numbers.{count_of}
use Rattle.refusals.specs.declared.Refusal.{Refusal}
use Rattle.refusals.specs.declared.Refusal.TheVariants.{CutShort}
use Rattle.refusals.specs.Numbers.{Outcome}
use Rattle.refusals.specs.Numbers.{Written}
use Rattle.opening.specs.declared.Phase.{Phase}
use Rattle.opening.specs.declared.Phase.TheVariants.{Open, Closed, Ended}
use Rattle.opening.specs.declared.Opener.{Opener}
use Rattle.block_stream.specs.Blocks.{judge}
use Rattle.block_stream.specs.declared.Block.{Block}
use Rattle.block_stream.specs.declared.Block.TheVariants as block
use Rattle.opening.specs.Decryption.{Opened, refused, opened}
use Rattle.opening.specs.Runs.{refuse, hand}
use Rattle.opening.specs.Steps.{sound, mark_of, close_by, step_on, step_in, step_of}
use Rattle.opening.proofs.Laws.Kept.{step_of_kept}
use Rattle.vault.specs.Vault.{start, outcome_of, state_of}
use Rattle.stepping.specs.Stepping.{Ran, go_on, stepping, ran_by, ran_from, written_by, written_of}

room_hand : (n : ℕ) (b : List ℕ) (same next : Opener) → length (hand n b same next).answer.bytes ≤ n
unfolding hand refuse
room_hand n b same next =
    by_bool (ltb n (length b)) (λ t. rw t (omega arith)) (λ t. rw t (ltb-false n (length b) t))

room_close : (v : Opened) (o : Opener) (n : ℕ) → length (close_by v o n).answer.bytes ≤ n
unfolding close_by refuse
room_close (refused r) o n = omega arith
room_close (opened b) o n = room_hand n b o _

room_on : (x : Block) (f : List ℕ) (o : Opener) (n : ℕ) → length (step_on x f o n).answer.bytes ≤ n
unfolding step_on refuse
room_on (block.Refused r) f o n = omega arith
room_on (block.Data s) f o n = room_hand n _ o _
room_on block.Closing f o n = room_close _ o n

room_in : (m : Phase) (f : List ℕ) (o : Opener) (n : ℕ) → length (step_in m f o n).answer.bytes ≤ n
unfolding step_in refuse
room_in Open f o n = room_on (judge o.keys.base f o.number o.at) f o n
room_in Closed f o n = omega arith
room_in Ended f o n = omega arith

pub step_of_room : (f : List ℕ) (o : Opener) (n : ℕ) → length (step_of f o n).answer.bytes ≤ n
unfolding step_of
step_of_room f o n = room_in (mark_of (sound o.number o.at o.taken) o.phase) f o n

pub record Going (f d : List ℕ) (all : Ran) (o : Opener) (at left : ℕ) (out : List ℕ) : Type 0 where
  pub out_is : out ≡ over (take at out) d
  pub outcome_is : (stepping left f o (length d - at)).outcome ≡ all.outcome
  pub bytes_are : take at out ++ (stepping left f o (length d - at)).bytes ≡ all.bytes
  pub long : length out ≡ length d
  pub within : at ≤ length d

pub going_start : (f d : List ℕ) (o : Opener) → Going f d (stepping (length f) f o (length d)) o 0 (length f) d
going_start f d o =
    record {
      out_is = sym (over_nil d);
      outcome_is = rw sub-zero;
      bytes_are = rw sub-zero;
      long = refl;
      within = omega arith;
    }

-- a step's part in the steps
pub after_refused : (f : List ℕ) (o : Opener) (left n : ℕ) (r : Refusal) → 0 < left
    → (step_of f o n).answer.written ≡ Err r
    → stepping left f o n ≡ record { outcome = Err r; bytes = [] }
unfolding stepping go_on
after_refused f o zero n r h e = absurd (omega arith)
after_refused f o (suc m) n r h e = rw e

pub after_closing : (f : List ℕ) (o : Opener) (left n c : ℕ) → 0 < left
    → (step_of f o n).answer.written ≡ Ok c → (step_of f o n).next.phase ≡ Ended
    → stepping left f o n ≡ record { outcome = Ok tt; bytes = (step_of f o n).answer.bytes }
unfolding stepping go_on
after_closing f o zero n c h e g = absurd (omega arith)
after_closing f o (suc m) n c h e g = rw (e, g)

going_on : (c : ℕ) (p : Phase) (b : List ℕ) (more : Ran) → p ≢ Ended
    → go_on (Ok c) p b more ≡ record { outcome = more.outcome; bytes = b ++ more.bytes }
unfolding go_on
going_on c Open b more g = refl
going_on c Closed b more g = refl
going_on c Ended b more g = absurd (g refl)

pub after_data : (f : List ℕ) (o : Opener) (left n c : ℕ) → 0 < left
    → (step_of f o n).answer.written ≡ Ok c → (step_of f o n).next.phase ≢ Ended
    → stepping left f o n
    ≡ record {
      outcome = (stepping (left - 1) f (step_of f o n).next (n - length (step_of f o n).answer.bytes)).outcome;
      bytes = (step_of f o n).answer.bytes
          ++ (stepping (left - 1) f (step_of f o n).next (n - length (step_of f o n).answer.bytes)).bytes;
    }
unfolding stepping
after_data f o zero n c h e g = absurd (omega arith)
after_data f o (suc m) n c h e g = rw (e, sub-one) (going_on c (step_of f o n).next.phase _ _ g)

-- bytes before those of the steps that follow
abbrev joined : List ℕ → Ran → Ran
joined b more = record { outcome = more.outcome; bytes = b ++ more.bytes }

module _ (f d : List ℕ) (all : Ran) (o : Opener) (at left : ℕ) (out : List ℕ) (y : Going f d all o at left out)
    (k : ℕ) (ys b : List ℕ) (q : k ≡ length out - at) (v : ys ≡ over b (take k (drop at out))) where
  front : length (take at out) ≡ at
  front = let l = y.long in let w = y.within in length-take-le at out (omega arith)

  written_behind : take at out ++ (ys ++ drop k (drop at out)) ≡ over (take at out ++ b) d
  written_behind =
      let l = y.long in over_tail (take at out) b d out ys at k y.out_is front y.within (omega arith) v

  as_long : length (take at out ++ b) ≤ length d → length (take at out ++ (ys ++ drop k (drop at out))) ≡ length d
  as_long i = ap (λ (x : List ℕ). length x) written_behind ∙ length_over (take at out ++ b) d i

  going_ends : (x : Outcome) → stepping left f o (length d - at) ≡ record { outcome = x; bytes = b }
      → record {
        value : written_by x (length (take at out ++ b)) ≡ written_of all;
        out_after : take at out ++ (ys ++ drop k (drop at out)) ≡ over all.bytes d;
      }
  going_ends x e =
      let i : x ≡ all.outcome = sym (ap (λ (z : Ran). z.outcome) e) ∙ y.outcome_is in
      let j : take at out ++ b ≡ all.bytes =
      ap (λ (z : Ran). take at out ++ z.bytes) (sym e) ∙ y.bytes_are in
      record {
        value =
            ap (λ (z : Outcome). written_by z (length (take at out ++ b))) i
            ∙ ap (λ (z : List ℕ). written_by all.outcome (length z)) j;
        out_after = written_behind ∙ ap (λ (z : List ℕ). over z d) j;
      }

  going_more : (o' : Opener) (left' c : ℕ) → length b ≡ c → at + c ≤ length d
      → stepping left f o (length d - at)
      ≡ record {
        outcome = (stepping left' f o' (length d - at - length b)).outcome;
        bytes = b ++ (stepping left' f o' (length d - at - length b)).bytes;
      }
      → Going f d all o' (at + c) left' (take at out ++ (ys ++ drop k (drop at out)))
  going_more o' left' c m w e =
      let t = front in
      let n : length (take at out ++ b) ≡ at + c = simp length-append (omega (arith, m, t)) in
      let g : take (at + c) (take at out ++ (ys ++ drop k (drop at out))) ≡ take at out ++ b =
      rw written_behind (take_over (take at out ++ b) d (at + c) n) in
      let r : length d - at - length b ≡ length d - (at + c) = omega (arith, m) in
      let i : length (take at out ++ b) ≤ length d = omega (arith, n, w) in
      record {
        out_is = rw g written_behind;
        outcome_is = rw (sym r) (sym (ap (λ (x : Ran). x.outcome) e) ∙ y.outcome_is);
        bytes_are =
            rw (g, sym r, append_assoc) (ap (λ (x : Ran). take at out ++ x.bytes) (sym e) ∙ y.bytes_are);
        long = as_long i;
        within = w;
      }

-- what is lent to a step, and how much
abbrev pub tail : ℕ → List ℕ → List ℕ
tail at out = take (length out - at) (drop at out)

abbrev pub lent : ℕ → List ℕ → ℕ
lent at out = length (tail at out)

module _ (f d : List ℕ) (all : Ran) (o : Opener) (at left : ℕ) (out : List ℕ) (y : Going f d all o at left out)
    (h : 0 < left) (ys : List ℕ) (v : ys ≡ over (step_of f o (lent at out)).answer.bytes (tail at out)) where
  lent_is : lent at out ≡ length d - at
  lent_is =
      let l = y.long in
      length-take-le (length out - at) (drop at out) (simp length-drop (omega arith)) ∙ omega (arith, l)

  pub handed-fits : at + length (step_of f o (lent at out)).answer.bytes ≤ length d
  handed-fits =
      let l = lent_is in
      let w = y.within in
      let r = step_of_room f o (lent at out) in
      omega (arith, l, w, r)

  pub same_long : length (take at out ++ (ys ++ drop (length out - at) (drop at out))) ≡ length d
  same_long =
      let l = y.long in
      let w = y.within in
      let t = length-take-le at out (omega (arith, l, w)) in
      let g = handed-fits in
      as_long f d all o at left out y (length out - at) ys _ refl v (simp length-append (omega (arith, t, g)))

  pub on_refusal : (r : Refusal) → (step_of f o (lent at out)).answer.written ≡ Err r
      → record {
        value : Err r ≡ written_of all;
        out_after : take at out ++ (ys ++ drop (length out - at) (drop at out)) ≡ over all.bytes d;
      }
  unfolding written_by
  on_refusal r e =
      let n = (step_of_kept f o (lent at out)).nothing r e in
      let x = after_refused f o left (lent at out) r h e in
      going_ends f d all o at left out y (length out - at) ys [] refl
      (v ∙ ap (λ (b : List ℕ). over b (tail at out)) n)
      (Err r) (ap (λ (m : ℕ). stepping left f o m) (sym lent_is) ∙ x)

  counted_is : (c : ℕ) → (step_of f o (lent at out)).answer.written ≡ Ok c
      → length (step_of f o (lent at out)).answer.bytes ≡ c
  counted_is c e = sym (step_of_kept f o (lent at out)).counted ∙ ap count_of e

  pub count_fits : (c : ℕ) → (step_of f o (lent at out)).answer.written ≡ Ok c → at + c ≤ length d
  count_fits c e =
      let m = counted_is c e in
      let g = handed-fits in
      omega (arith, m, g)

  pub on_closing : (c : ℕ) → (step_of f o (lent at out)).answer.written ≡ Ok c
      → (step_of f o (lent at out)).next.phase ≡ Ended
      → record {
        value : Ok (at + c) ≡ written_of all;
        out_after : take at out ++ (ys ++ drop (length out - at) (drop at out)) ≡ over all.bytes d;
      }
  unfolding written_by
  on_closing c e g =
      let l = y.long in
      let w = y.within in
      let t = length-take-le at out (omega (arith, l, w)) in
      let m = counted_is c e in
      let b = (step_of f o (lent at out)).answer.bytes in
      let n : length (take at out ++ b) ≡ at + c = simp length-append (omega (arith, m, t)) in
      let x = going_ends f d all o at left out y (length out - at) ys _ refl v (Ok tt)
      (ap (λ (z : ℕ). stepping left f o z) (sym lent_is) ∙ after_closing f o left (lent at out) c h e g) in
      record { value = ap (λ (z : ℕ). Ok z) (sym n) ∙ x.value; out_after = x.out_after }

  pub on_data : (c : ℕ) (next : Opener) → (step_of f o (lent at out)).answer.written ≡ Ok c
      → next ≡ (step_of f o (lent at out)).next → next.phase ≢ Ended
      → Going f d all next (at + c) (left - 1) (take at out ++ (ys ++ drop (length out - at) (drop at out)))
  on_data c next e i g =
      let j : (step_of f o (lent at out)).next.phase ≢ Ended = λ z. g (ap (λ (x : Opener). x.phase) i ∙ z) in
      let x = after_data f o left (lent at out) c h e j in
      let b = (step_of f o (lent at out)).answer.bytes in
      let k : lent at out - length b ≡ length d - at - length b = ap (λ (m : ℕ). m - length b) lent_is in
      going_more f d all o at left out y (length out - at) ys b refl v next (left - 1) c (counted_is c e)
      (count_fits c e)
      (ap (λ (m : ℕ). stepping left f o m) (sym lent_is) ∙ x
      ∙ ap (λ (m : ℕ). joined b (stepping (left - 1) f (step_of f o (lent at out)).next m)) k
      ∙ ap (λ (z : Opener). joined b (stepping (left - 1) f z (length d - at - length b))) (sym i))

pub going_none : (f d : List ℕ) (all : Ran) (o : Opener) (at left : ℕ) (out : List ℕ) → Going f d all o at left out
    → left ≡ 0
    → record {
      value : Err (CutShort 0) ≡ written_of all;
      out_after : out ≡ over all.bytes d;
    }
unfolding stepping written_by
going_none f d all o at zero out y e = record {
  value = ap (λ (x : Outcome). written_by x (length all.bytes)) y.outcome_is;
  out_after = y.out_is ∙ ap (λ (x : List ℕ). over x d) (sym (append-nil (take at out)) ∙ y.bytes_are);
}
going_none f d all o at (suc m) out y e = absurd (omega arith)

pub ran_refused : (t f had : List ℕ) (n : ℕ) (o : Outcome) (r : Refusal) → o ≡ outcome_of (start t f)
    → o ≡ Err r
    → record {
      value : Err r ≡ written_of (ran_from t f n);
      out_after : had ≡ over (ran_from t f n).bytes had;
    }
unfolding ran_from ran_by written_by
ran_refused t f had n o r e h = rw (sym e ∙ h) (record { value = refl; out_after = sym (over_nil had) })

pub ran_accepted : (t f had out : List ℕ) (n : ℕ) (w : Written) (o : Outcome) (first : Opener)
    → o ≡ outcome_of (start t f) → first ≡ state_of (start t f) → o ≡ Ok tt
    → w ≡ written_of (stepping (length f) f first n)
    → out ≡ over (stepping (length f) f first n).bytes had
    → record {
      value : w ≡ written_of (ran_from t f n);
      out_after : out ≡ over (ran_from t f n).bytes had;
    }
unfolding ran_from ran_by
ran_accepted t f had out n w o first e i h g q = rw (sym e ∙ h, sym i) (record { value = g; out_after = q })

-- the tag of a mark that is open or closed is not that of an ended one
pub no_ended_tag : (x : ℕ) → (x ≡ 0) ⊎ (x ≡ 1) → x ≡ 2 → ⊥
no_ended_tag x (inl e) h = omega arith
no_ended_tag x (inr e) h = omega arith
