-- The frames of an accepted header: joined they are the header.
--
-- In order:
--   field_here-sized     a field that is found has its value's size in its four bytes
--   fields_end-le        the fields end behind the place where they begin
--   walk-fields_end      a walk up to the end field ends where the frames end
--   header-fields_end    .. and so does an accepted header
--   flatten-field_frames, flatten-frames    the frames joined, of any bytes
--   header-frames       "the frames joined are the header"
-- Not here: what else an accepted header keeps to (Laws.Accepted).
-- Assumes nothing.
use mathlib.Core.Path.{◌≡◌, refl, sym, ap, ◌∙◌}
use mathlib.Core.Bool.{Bool}
use mathlib.Core.List.{List, ◌++◌, append-nil, flatten}
use Prim.Native.Nat.{ℕ, zero, suc, ◌+◌, ◌-◌, ◌^◌, ◌≤◌}
use native.Mathlib.Omega.{arith}
use lib.Dec.{eqb, leb, ltb}
use lib.ListN.{length, get_or, take, drop}
use lib.Seq.{take-add, drop-drop}
use Rattle.words.specs.Endian.{le}
use Rattle.words.specs.Size.{int32}
use Rattle.std.specs.Prelude.{Option, Some, None, Result, Ok, Err}
use Rattle.words.proofs.Laws.Cases.{by_bool}
use Rattle.fields.specs.Fields.{end_of, fits, value_at, field_at}
use Rattle.fields.specs.declared.Place.{Place}
use Rattle.fields.specs.declared.SizeRule.{SizeRule}
use Rattle.refusals.specs.declared.Refusal.{Refusal}
use Rattle.words.proofs.Laws.Pairs.{ok_second}
use Rattle.outer_header.specs.declared.walk.Fields.{Fields}
use Rattle.outer_header.specs.declared.Header.{Header}
use Rattle.outer_header.specs.Kdbx4Header.{
  listed,
  size_rule,
  seen,
  put,
  field_here,
  ends_right,
  walk_in,
  walk,
  header,
}
use Rattle.outer_header.specs.Frames.{frame_length, field_frames, frames, fields_end}
use Rattle.outer_header.proofs.Laws.Walk.{field_here_stands}
use Rattle.outer_header.proofs.Laws.Accepted.{header-accepts}
use Rattle.outer_header.proofs.Laws.Behind.{walked_never}

-- a size that is not negative is the number itself; nothing is said of a negative one
abbrev Unsigned : ℕ → Option ℕ → Type 0
Unsigned n (Some m) = m ≡ n
Unsigned n None = 0 ≤ 0

int32_unsigned : (n : ℕ) → Unsigned n (int32 n)
unfolding int32
int32_unsigned n = by_bool (ltb n (2 ^ 31)) (λ t. rw t refl) (λ t. rw t (omega arith))

-- the value's size stands behind the ID; nothing is said of a refusal
abbrev Sized : ℕ → Result (ℕ × Place) Refusal → Type 0
Sized n (Ok (id, p)) = p.length ≡ n
Sized n (Err r) = 0 ≤ 0

value_at-sized : (rule : SizeRule) (s : List ℕ) (at n : ℕ) (z : Option ℕ) → Unsigned n z → Sized n (value_at rule s at z)
unfolding value_at
value_at-sized rule s at n None h = omega arith
value_at-sized rule s at n (Some m) h =
    by_bool (fits rule m)
    (λ t. by_bool (leb m (length s - (at + 5))) (λ u. rw (t, u) h) (λ u. rw (t, u) (omega arith)))
    (λ t. rw t (omega arith))

field_at-sized : (l r : Bool) (rule : SizeRule) (s : List ℕ) (at : ℕ) → Sized (le 4 s (at + 1)) (field_at l r rule s at)
unfolding field_at
field_at-sized l r rule s at =
    by_bool (leb (at + 5) (length s))
    (λ t. by_bool l
    (λ u. by_bool r
    (λ v. rw (t, u, v) (omega arith))
    (λ v. rw (t, u, v)
    (value_at-sized rule s at (le 4 s (at + 1)) (int32 (le 4 s (at + 1))) (int32_unsigned (le 4 s (at + 1))))))
    (λ u. rw (t, u) (omega arith)))
    (λ t. rw t (omega arith))

pub field_here-sized : (f : Fields) (s : List ℕ) (at id : ℕ) (p : Place) → field_here f s at ≡ Ok (id, p)
    → p.length ≡ le 4 s (at + 1)
unfolding field_here
field_here-sized f s at id p e =
    rw e at (field_at-sized (listed (get_or s at 0)) (seen f (get_or s at 0)) (size_rule (get_or s at 0)) s at)

pub fields_end-le : (k : ℕ) (s : List ℕ) (at : ℕ) → at ≤ fields_end k s at
unfolding fields_end
fields_end-le zero s at = omega arith
fields_end-le (suc k) s at =
    by_bool (eqb (get_or s at 0) 0)
    (λ t. rw t (omega arith))
    (λ t. rw t (omega (arith, fields_end-le k s (at + frame_length s at))))

walk_in-fields_end : (k : ℕ) (f : Fields) (s : List ℕ) (at : ℕ) (e : Result (ℕ × Place) Refusal) (rest : Fields → ℕ → Result (Fields × ℕ) Refusal) (g : Fields)
    (end : ℕ) → field_here f s at ≡ e
    → ((f₁ : Fields) (n : ℕ) → rest f₁ n ≡ Ok (g, end) → fields_end k s n ≡ end)
    → walk_in f s e rest ≡ Ok (g, end)
    → fields_end (suc k) s at ≡ end
unfolding walk_in fields_end
walk_in-fields_end k f s at (Err r) rest g end q on = λ e. absurd (walked_never r g end e)
walk_in-fields_end k f s at (Ok (id, p)) rest g end q on =
    let x = field_here_stands f s at id p q in
    let l = field_here-sized f s at id p q in
    let m : end_of p ≡ at + frame_length s at = omega arith in
    rw (← x.id_is)
    (by_bool (eqb id 0)
    (λ t. by_bool (ends_right s p)
    (λ u. rw (t, u) (λ e. let n : end_of p ≡ end = ok_second e in sym m ∙ n))
    (λ u. rw (t, u) (λ e. absurd (walked_never _ g end e))))
    (λ t. rw t (λ e. ap (λ (n : ℕ). fields_end k s n) (sym m) ∙ on (put f id p) (end_of p) e)))

pub walk-fields_end : (k : ℕ) (f : Fields) (s : List ℕ) (at : ℕ) (g : Fields) (end : ℕ)
    → walk k f s at ≡ Ok (g, end)
    → fields_end k s at ≡ end
unfolding walk
walk-fields_end zero f s at g end e = absurd (walked_never _ g end e)
walk-fields_end (suc k) f s at g end e =
    walk_in-fields_end k f s at (field_here f s at) (λ (f₁ : Fields) (n : ℕ). walk k f₁ s n) g end refl
    (λ f₁ n e₁. walk-fields_end k f₁ s n g end e₁) e

pub header-fields_end : (s : List ℕ) (h : Header) → header s ≡ Ok h → fields_end (length s) s 12 ≡ h.length
header-fields_end s h e =
    let i = header-accepts s h e in
    walk-fields_end (length s) _ s 12 i.fields h.length i.walk_is

pub flatten-field_frames : (k : ℕ) (s : List ℕ) (at : ℕ)
    → flatten (field_frames k s at) ≡ take (fields_end k s at - at) (drop at s)
unfolding field_frames fields_end flatten
flatten-field_frames zero s at = let e : at - at ≡ 0 = omega arith in rw e
flatten-field_frames (suc k) s at =
    by_bool (eqb (get_or s at 0) 0)
    (λ t. let e : at + frame_length s at - at ≡ frame_length s at = omega arith in
    rw (t, e) (append-nil (take (frame_length s at) (drop at s))))
    (λ t. let b = fields_end-le k s (at + frame_length s at) in
    let e : fields_end k s (at + frame_length s at) - at
    ≡ frame_length s at + (fields_end k s (at + frame_length s at) - (at + frame_length s at)) = omega arith in
    rw (
      t,
      e,
      flatten-field_frames k s (at + frame_length s at),
      take-add (frame_length s at) (fields_end k s (at + frame_length s at) - (at + frame_length s at)) (drop at s),
      drop-drop (frame_length s at) at s,
    ))

pub flatten-frames : (s : List ℕ) → flatten (frames s) ≡ take (fields_end (length s) s 12) s
unfolding frames flatten
flatten-frames s =
    let b = fields_end-le (length s) s 12 in
    let e : 12 + (fields_end (length s) s 12 - 12) ≡ fields_end (length s) s 12 = omega arith in
    ap (λ (x : List ℕ). take 12 s ++ x) (flatten-field_frames (length s) s 12)
    ∙ sym (take-add 12 (fields_end (length s) s 12 - 12) s) ∙ ap (λ (n : ℕ). take n s) e

-- "the frames joined are the header"
pub header-frames : (s : List ℕ) (h : Header) → header s ≡ Ok h → flatten (frames s) ≡ take h.length s
header-frames s h e = flatten-frames s ∙ ap (λ (n : ℕ). take n s) (header-fields_end s h e)
