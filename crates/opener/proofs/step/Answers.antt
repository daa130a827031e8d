-- `opener::step` meets its contract. Assumes nothing.
use mathlib.Core.Path.{◌≡◌, sym, ap, ◌∙◌}
use mathlib.Core.List.{List}
use Prim.Native.Nat.{ℕ}
use lib.ListN.{length}
use Rattle.slices.specs.Over.{over}
use Rattle.refusals.specs.declared.Refusal.TheVariants.{OutOfSequence}
use Rattle.opening.specs.declared.Opener.{Opener}
use Rattle.opening.specs.declared.Stepped.{Stepped}
use Rattle.opening.specs.Runs.{Reply, refuse}
use Rattle.opening.specs.Steps.{step_of}
use Rattle.opener.specs.Replies.{Does}
use Rattle.opener.proofs.Laws.Sound.{sound-fits}
use Rattle.opener.proofs.Laws.Replies.{refuse_does, does_by, step_sound, step_unsound, step_closed, step_ended}
use Rattle.opener.proofs.step.Goals as goal

-- a reply's three parts
parts : (q : Reply Opener) (r : Stepped) (d x : List ℕ) → Does q r d x
    → record {
      answer_value : r.answer ≡ q.answer.written;
      next_value : r.next ≡ q.next;
      out_after : x ≡ over q.answer.bytes d;
    }
parts q r d x h = record {
  answer_value = ap (λ (s : Stepped). s.answer) h.gives;
  next_value = ap (λ (s : Stepped). s.next) h.gives;
  out_after = h.leaves;
}

-- a refusal with 19
out_of_sequence : (f d : List ℕ) (o : Opener) (r : Stepped) → step_of f o (length d) ≡ refuse OutOfSequence o
    → r ≡ record { answer = (refuse OutOfSequence o).answer.written; next = (refuse OutOfSequence o).next }
    → record {
      answer_value : r.answer ≡ (step_of f o (length d)).answer.written;
      next_value : r.next ≡ (step_of f o (length d)).next;
      out_after : d ≡ over (step_of f o (length d)).answer.bytes d;
    }
out_of_sequence f d o r e g =
    parts (step_of f o (length d)) r d d
    (does_by (step_of f o (length d)) (refuse OutOfSequence o) r d d e (refuse_does OutOfSequence o r d g))

pub step_open-requires : goal.step_open-requires
step_open-requires c =
    let a = c.args in
    sound-fits a.o.number a.o.at a.o.taken (sym c.is_sound.ensures ∙ c.if-is_sound.true)

pub returns-then-is_sound : goal.returns-then-is_sound
returns-then-is_sound c =
    let a = c.args in
    let d = a.out.now in
    parts (step_of a.f.now a.o (length d)) _ d _
    (does_by _ _ _ d _
    (step_sound a.f.now a.o (length d) c.in-Open.is
    (sym c.is_sound.ensures ∙ c.if-is_sound.true))
    c.step_open.ensures)

pub returns-in-Open : goal.returns-in-Open
returns-in-Open c =
    let a = c.args in
    let d = a.out.now in
    out_of_sequence a.f.now d a.o _
    (step_unsound a.f.now a.o (length d) c.in-Open.is
    (sym c.is_sound.ensures ∙ c.if-is_sound.false))
    c.refuse.ensures

pub returns-in-Closed : goal.returns-in-Closed
returns-in-Closed c =
    let a = c.args in
    let d = a.out.now in
    out_of_sequence a.f.now d a.o _
    (step_closed a.f.now a.o (length d) c.in-Closed.is) c.refuse-in-Closed.ensures

pub returns-in-Ended : goal.returns-in-Ended
returns-in-Ended c =
    let a = c.args in
    let d = a.out.now in
    out_of_sequence a.f.now d a.o _
    (step_ended a.f.now a.o (length d) c.in-Ended.is) c.refuse-in-Ended.ensures
