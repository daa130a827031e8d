-- The steps one after the other agree with the whole opener: what they open it opens, and what closes them it refuses.
--
-- In order:
--   rooms           the lengths that the steps are lent
--   Run, run        the steps l a list of that many (crate opening, Runs)
--   steps_open      a vault that the steps open is opened whole to the same payload, given room
--   steps_refuse    a refusal of the steps that is neither 17 nor 19 is the whole opener's, whatever is lent to it
-- Not here: the agreement after any list of steps (crate vault, Theorem), on which this rests.
-- Assumes nothing.
use Rattle.std.specs.Prelude.{Ok, Err}
use mathlib.Core.Path.{◌≡◌, refl, sym, ap, subst, ◌∙◌}
use mathlib.Core.Logic.{◌≢◌, ◌⊎◌, inl, inr}
use mathlib.Core.List.{List, [], ◌∷◌, ◌++◌, append-nil}
use Prim.Native.Nat.{ℕ, zero, suc, ◌-◌, ◌≤◌}
use native.Mathlib.Numerals.{sub-one}
use native.Mathlib.Omega.{arith}
use lib.ListN.{length}
use Rattle.refusals.specs.declared.Refusal.{Refusal}
use Rattle.refusals.specs.declared.Refusal.TheVariants.{CutShort, NoRoom}
use Rattle.refusals.specs.Numbers.{Outcome}
use Rattle.refusals.specs.Numbers.{Written}
use Rattle.opening.specs.declared.Phase.{Phase}
use Rattle.opening.specs.declared.Phase.TheVariants.{Open, Closed, Ended}
use Rattle.opening.specs.declared.Keys.{Keys}
use Rattle.opening.specs.declared.Opener.{Opener}
use Rattle.opening.specs.Decryption.{refused, opened}
use Rattle.opening.specs.Runs.{Answer, answers, after, bytes_of, Each, none, both, Some, here, there}
use Rattle.opening.specs.Steps.{step_of, opener, open_start}
use Rattle.opening.specs.Whole.{whole_in}
use Rattle.opening.specs.Agreement.{Closing, RunAgrees, Finished, by_closing, by_refusal}
use Rattle.opening.proofs.Laws.Kept.{step_of_kept}
use Rattle.opening.proofs.Theorem.{all_room}
use Rattle.vault.specs.Vault.{Begun, start_refused, begun, start, outcome_of, state_of, opened_in}
use Rattle.vault.proofs.Theorem.{agrees}
use Rattle.stepping.specs.Stepping.{stepping, ran_by, ran_from}
use Rattle.stepping.proofs.Laws.Stepping.{after_refused, after_closing, after_data}

rooms_by : Written → Phase → List ℕ → List ℕ
rooms_by (Err r) m more = []
rooms_by (Ok c) Ended more = []
rooms_by (Ok c) Open more = more
rooms_by (Ok c) Closed more = more

rooms : ℕ → List ℕ → Opener → ℕ → List ℕ
rooms zero f o n = []
rooms (suc m) f o n =
    n ∷ rooms_by (step_of f o n).answer.written (step_of f o n).next.phase
    (rooms m f (step_of f o n).next (n - length (step_of f o n).answer.bytes))

-- every answer is a count
Taking : List Answer → Type 0
Taking l = Each (λ (a : Answer). (r : Refusal) → a.written ≢ Err r) l

-- the end of the steps: the closing block, a refusal, or no step left
data End (m : ℕ) (rs : List ℕ) (l : List Answer) (p : Phase) : Outcome → Type 0 where
  closed : p ≡ Ended → End m rs l p (Ok tt)
  told : (r : Refusal) → Some (λ (a : Answer). a.written ≡ Err r) l → End m rs l p (Err r)
  spent : length rs ≡ m → Taking l → p ≢ Ended → End m rs l p (Err (CutShort 0))

record Run (m : ℕ) (f : List ℕ) (o : Opener) (n : ℕ) : Type 0 where
  pub bytes_are : bytes_of (answers (step_of f) o (rooms m f o n)) ≡ (stepping m f o n).bytes
  pub end_is : End m (rooms m f o n) (answers (step_of f) o (rooms m f o n))
      (after (step_of f) o (rooms m f o n)).phase (stepping m f o n).outcome

-- marks and answers that differ
open_not_ended : Open ≢ Ended
open_not_ended e = let z : ◌≡◌ {A = ℕ} 0 1 = cc in absurd (omega arith)

closed_not_ended : Closed ≢ Ended
closed_not_ended e = let z : ◌≡◌ {A = ℕ} 0 1 = cc in absurd (omega arith)

wrote-not-refused : (w : Written) (c : ℕ) → w ≡ Ok c → (r : Refusal) → w ≢ Err r
wrote-not-refused w c e r g = let z : ◌≡◌ {A = ℕ} 0 1 = cc in absurd (omega arith)

accepted-not-refused : (x : Outcome) (r : Refusal) → x ≡ (Ok tt) → x ≢ Err r
accepted-not-refused x r e g = let z : ◌≡◌ {A = ℕ} 0 1 = cc in absurd (omega arith)

rooms_by_on : (c : ℕ) (p : Phase) (l : List ℕ) → p ≢ Ended → rooms_by (Ok c) p l ≡ l
unfolding rooms_by
rooms_by_on c Open l g = refl
rooms_by_on c Closed l g = refl
rooms_by_on c Ended l g = absurd (g refl)

end_more : (m n : ℕ) (rs : List ℕ) (a : Answer) (l : List Answer) (p : Phase) (x : Outcome)
    → ((r : Refusal) → a.written ≢ Err r) → End m rs l p x → End (suc m) (n ∷ rs) (a ∷ l) p x
unfolding Taking
end_more m n rs a l p x h (closed g) = closed g
end_more m n rs a l p x h (told r s) = told r (there s)
end_more m n rs a l p x h (spent k t q) = spent (ap suc k) (both h t) q

module _ (m : ℕ) (f : List ℕ) (o : Opener) (n : ℕ) where
  rooms_refused : (r : Refusal) → (step_of f o n).answer.written ≡ Err r → rooms (suc m) f o n ≡ n ∷ []
  unfolding rooms rooms_by
  rooms_refused r e = rw e

  rooms_closing : (c : ℕ) → (step_of f o n).answer.written ≡ Ok c → (step_of f o n).next.phase ≡ Ended
      → rooms (suc m) f o n ≡ n ∷ []
  unfolding rooms rooms_by
  rooms_closing c e g = rw (e, g)

  rooms_data : (c : ℕ) → (step_of f o n).answer.written ≡ Ok c → (step_of f o n).next.phase ≢ Ended
      → rooms (suc m) f o n ≡ n ∷ rooms m f (step_of f o n).next (n - length (step_of f o n).answer.bytes)
  unfolding rooms
  rooms_data c e g = rw e (ap (λ (l : List ℕ). n ∷ l) (rooms_by_on c (step_of f o n).next.phase _ g))

  run-refused : (r : Refusal) → (step_of f o n).answer.written ≡ Err r → Run (suc m) f o n
  unfolding answers after bytes_of
  run-refused r e =
      let b = (step_of_kept f o n).nothing r e in
      let s = after_refused f o (suc m) n r (omega arith) e in
      record {
        bytes_are = rw (rooms_refused r e, s) (append-nil _ ∙ b);
        end_is = rw (rooms_refused r e, s) (told r (here e));
      }

  run_closing : (c : ℕ) → (step_of f o n).answer.written ≡ Ok c → (step_of f o n).next.phase ≡ Ended
      → Run (suc m) f o n
  unfolding answers after bytes_of
  run_closing c e g =
      let s = after_closing f o (suc m) n c (omega arith) e g in
      record {
        bytes_are = rw (rooms_closing c e g, s) (append-nil _);
        end_is = rw (rooms_closing c e g, s) (closed g);
      }

  run_data : (c : ℕ) → (step_of f o n).answer.written ≡ Ok c → (step_of f o n).next.phase ≢ Ended
      → Run m f (step_of f o n).next (n - length (step_of f o n).answer.bytes) → Run (suc m) f o n
  unfolding answers after bytes_of
  run_data c e g y =
      let s = after_data f o (suc m) n c (omega arith) e g in
      let h = wrote-not-refused (step_of f o n).answer.written c e in
      record {
        bytes_are =
            rw (rooms_data c e g, s, sub-one) (ap (λ (b : List ℕ). (step_of f o n).answer.bytes ++ b) y.bytes_are);
        end_is = rw (rooms_data c e g, s, sub-one) (end_more m n _ _ _ _ _ h y.end_is);
      }

  run_cases : ((step_of f o n).next.phase ≢ Ended
      → Run m f (step_of f o n).next (n - length (step_of f o n).answer.bytes))
      → (w : Written) (p : Phase) → (step_of f o n).answer.written ≡ w → (step_of f o n).next.phase ≡ p
      → Run (suc m) f o n
  run_cases more (Err r) p e g = run-refused r e
  run_cases more (Ok c) Ended e g = run_closing c e g
  run_cases more (Ok c) Open e g =
      let q : (step_of f o n).next.phase ≢ Ended = λ z. open_not_ended (sym g ∙ z) in
      run_data c e q (more q)
  run_cases more (Ok c) Closed e g =
      let q : (step_of f o n).next.phase ≢ Ended = λ z. closed_not_ended (sym g ∙ z) in
      run_data c e q (more q)

run : (m : ℕ) (f : List ℕ) (o : Opener) (n : ℕ) → o.phase ≢ Ended → Run m f o n
unfolding answers after bytes_of rooms stepping Taking
run zero f o n h = record { bytes_are = refl; end_is = spent refl none h }
run (suc m) f o n h =
    run_cases m f o n (λ g. run m f (step_of f o n).next (n - length (step_of f o n).answer.bytes) g) _ _ refl refl

-- what an end says of its outcome
end_accepted : (m : ℕ) (rs : List ℕ) (l : List Answer) (p : Phase) (x : Outcome) → End m rs l p x
    → x ≡ (Ok tt) → p ≡ Ended
end_accepted m rs l p x (closed g) e = g
end_accepted m rs l p x (told r s) e = absurd (accepted-not-refused _ r e refl)
end_accepted m rs l p x (spent k t q) e = absurd (accepted-not-refused _ (CutShort 0) e refl)

end_refused : (m : ℕ) (rs : List ℕ) (l : List Answer) (p : Phase) (x : Outcome) → End m rs l p x
    → (r : Refusal) → x ≡ Err r
    → Some (λ (a : Answer). a.written ≡ Err r) l ⊎ ((length rs ≡ m) × Taking l × (p ≢ Ended))
end_refused m rs l p x (closed g) r e = absurd (accepted-not-refused _ r refl e)
end_refused m rs l p x (told r s) q e =
    let d : r ≡ q = cc in inl (subst (λ (z : Refusal). Some (λ (a : Answer). a.written ≡ Err z) l) d s)
end_refused m rs l p x (spent k t q) r e = inr (k, t, q)

taken_none : (l : List Answer) (r : Refusal) → Taking l
    → Some (λ (a : Answer). a.written ≡ Err r) l → ⊥
unfolding Taking
taken_none _ r none i = elim i [ ]
taken_none _ r (both h t) (here e) = h r e
taken_none _ r (both h t) (there s) = taken_none _ r t s

taken_room : (l : List Answer) → Taking l → Each (λ (a : Answer). a.written ≢ Err NoRoom) l
unfolding Taking
taken_room _ none = none
taken_room _ (both h t) = both (h NoRoom) (taken_room _ t)

each_some : (X : Refusal → Type 0) (l : List Answer) (r : Refusal)
    → Each (λ (a : Answer). (q : Refusal) → a.written ≡ Err q → Closing q → X q) l
    → Some (λ (a : Answer). a.written ≡ Err r) l → Closing r → X r
each_some X _ r none i c = elim i [ ]
each_some X _ r (both h t) (here e) c = h r e c
each_some X _ r (both h t) (there s) c = each_some X _ r t s c

module _ (t f : List ℕ) (n : ℕ) (k : Keys) (p : ℕ) (e : start t f ≡ begun k p) where
  ran_is : ran_from t f n ≡ stepping (length f) f (open_start k p) n
  unfolding ran_from ran_by outcome_of state_of
  ran_is = rw e

  starts_open : (open_start k p).phase ≢ Ended
  unfolding open_start opener
  starts_open = open_not_ended

  ran : Run (length f) f (open_start k p) n
  ran = run (length f) f (open_start k p) n starts_open

  agreed : RunAgrees k f p (rooms (length f) f (open_start k p) n)
  agreed = (agrees t f).after_start k p e (rooms (length f) f (open_start k p) n)

  begun_open : (stepping (length f) f (open_start k p) n).outcome ≡ Ok tt
      → (m : ℕ) → length (stepping (length f) f (open_start k p) n).bytes ≤ m
      → whole_in k f p m ≡ opened (stepping (length f) f (open_start k p) n).bytes
  begun_open g m h =
      let q = end_accepted _ _ _ _ _ ran.end_is g in
      let b = ran.bytes_are in
      agreed.whole_gives (sym agreed.phase_is ∙ q) m (rw b h) ∙ ap (λ (x : List ℕ). opened x) b

  -- no step left, with none refused, cannot be
  never_spent : length (rooms (length f) f (open_start k p) n) ≡ length f
      → Taking (answers (step_of f) (open_start k p) (rooms (length f) f (open_start k p) n))
      → (after (step_of f) (open_start k p) (rooms (length f) f (open_start k p) n)).phase ≢ Ended
      → Finished k f p (rooms (length f) f (open_start k p) n) → ⊥
  never_spent l g q (by_closing z) = q (agreed.phase_is ∙ z)
  never_spent l g q (by_refusal z r c s w) = taken_none _ r g s

  by_end : (r : Refusal) → Closing r → (m : ℕ)
      → Some (λ (a : Answer). a.written ≡ Err r)
      (answers (step_of f) (open_start k p) (rooms (length f) f (open_start k p) n))
      ⊎ ((length (rooms (length f) f (open_start k p) n) ≡ length f)
      × Taking (answers (step_of f) (open_start k p) (rooms (length f) f (open_start k p) n))
      × ((after (step_of f) (open_start k p) (rooms (length f) f (open_start k p) n)).phase ≢ Ended))
      → whole_in k f p m ≡ refused r
  by_end r c m (inl s) = each_some (λ (q : Refusal). (m : ℕ) → whole_in k f p m ≡ refused q) _ r agreed.refusals s c m
  by_end r c m (inr (l, g, q)) =
      absurd (never_spent l g q (agreed.ends (all_room k f p (rooms (length f) f (open_start k p) n) (length f) (omega (arith, l)) (taken_room _ g))))

  begun-refuse : (r : Refusal) → (stepping (length f) f (open_start k p) n).outcome ≡ Err r → Closing r
      → (m : ℕ) → whole_in k f p m ≡ refused r
  begun-refuse r g c m = by_end r c m (end_refused _ _ _ _ _ ran.end_is r g)

module _ (t f : List ℕ) (n : ℕ) where
  start_refused_refused : (r : Refusal) → start t f ≡ start_refused r → (ran_from t f n).outcome ≡ Err r
  unfolding ran_from ran_by outcome_of
  start_refused_refused r e = rw e

  open_by : (b : Begun) → start t f ≡ b → (ran_from t f n).outcome ≡ Ok tt
      → (m : ℕ) → length (ran_from t f n).bytes ≤ m → opened_in t f m ≡ opened (ran_from t f n).bytes
  open_by (start_refused r) e g m h = absurd (accepted-not-refused _ r g (start_refused_refused r e))
  open_by (begun k p) e g m h =
      let i = ran_is t f n k p e in
      (agrees t f).whole_is k p e m
      ∙ rw i (begun_open t f n k p e (rw (sym i) g) m (rw (sym i) h))

  refuse_by : (b : Begun) → start t f ≡ b → (r : Refusal) → (ran_from t f n).outcome ≡ Err r → Closing r
      → (m : ℕ) → opened_in t f m ≡ refused r
  refuse_by (start_refused q) e r g c m =
      let d : Err q ≡ Err r = sym (start_refused_refused q e) ∙ g in
      let z : q ≡ r = cc in
      (agrees t f).at_start q e m ∙ ap (λ (x : Refusal). refused x) z
  refuse_by (begun k p) e r g c m =
      let i = ran_is t f n k p e in
      (agrees t f).whole_is k p e m ∙ begun-refuse t f n k p e r (rw (sym i) g) c m

-- THE THEOREMS
pub steps_open : (t f : List ℕ) (n : ℕ) → (ran_from t f n).outcome ≡ Ok tt
    → (m : ℕ) → length (ran_from t f n).bytes ≤ m → opened_in t f m ≡ opened (ran_from t f n).bytes
steps_open t f n = open_by t f n (start t f) refl

pub steps_refuse : (t f : List ℕ) (n : ℕ) (r : Refusal) → (ran_from t f n).outcome ≡ Err r → Closing r
    → (m : ℕ) → opened_in t f m ≡ refused r
steps_refuse t f n = refuse_by t f n (start t f) refl
