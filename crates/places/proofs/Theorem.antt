-- Document 02, Item 8: where the place of a refusal lies.
--
-- In order: lone_lies, check_broken, check_repeated (a lone dictionary), start_says, whole_says (the openers), places
-- (the sentence).
-- Not here: which field or item begins at the place (Begins).
-- Assumes nothing.
use mathlib.Core.Path.{◌≡◌, refl, sym}
use mathlib.Core.List.{List, []}
use Prim.Native.Nat.{ℕ, zero, suc, ◌≤◌, ◌<◌}
use native.Mathlib.Omega.{arith}
use lib.ListN.{length}
use Rattle.words.proofs.Laws.Cases.{by_bool}
use Rattle.slices.specs.Same.{same}
use Rattle.refusals.specs.declared.Refusal.{Refusal}
use Rattle.refusals.specs.declared.Refusal.TheVariants.{Repeated, BrokenDictionary}
use Rattle.dictionary.specs.Dictionary.{entry_at, name_of, next, verdict, search_from, search_in, find_in, find}
use Rattle.dictionary.specs.declared.Item.{Item}
use Rattle.dictionary.specs.declared.Fault.TheVariants as fault
use Rattle.dictionary.specs.declared.Fault.{Fault}
use Rattle.dictionary.specs.declared.Value.{Value}
use Rattle.dictionary.proofs.Laws.Within.{verdict-placed}
use Rattle.outer_header.specs.Kdbx4Header.{header}
use Rattle.outer_header.specs.declared.Header.{Header}
use Rattle.std.specs.Prelude.{Ok, Err, Option, Some, None, Result}
use Rattle.opening.specs.Decryption.{refused}
use Rattle.vault.specs.Vault.{Begun, start_refused, begun, keys_of, start_in, start, opened_by, opened_in}
use Rattle.writer.specs.Written.{sizes, writing_with}
use Rattle.places.specs.Places.{LiesIn, Places}
use Rattle.places.proofs.Laws.Header.{header_lies}
use Rattle.places.proofs.Laws.Inner.{inner_lies, attachment_lies}
use Rattle.places.proofs.Laws.Zero.{ZeroOpened, ZeroBegun, whole_zero, step_zero, start_at-zero, writing-zero, inner-zero}

-- nothing is said of what is found, or is not there
abbrev FoundLies : ℕ → Result (Option Value) Refusal → Type 0
FoundLies n (Ok (Some v)) = 0 ≤ 0
FoundLies n (Ok None) = 0 ≤ 0
FoundLies n (Err r) = LiesIn n r

-- a search refuses nothing
search_in_lies : (s name : List ℕ) (n : ℕ) (e : Result (Option Item) ℕ) (rest : ℕ → Result (Option Value) Refusal) → ((m : ℕ) → FoundLies n (rest m))
    → FoundLies n (search_in s name e rest)
unfolding search_in
search_in_lies s name n (Ok (Some i)) rest h =
    by_bool (same (name_of s i) name) (λ t. rw t (omega arith)) (λ t. rw t (h (next i)))
search_in_lies s name n (Ok None) rest h = omega arith
search_in_lies s name n (Err at) rest h = omega arith

search_lies : (k : ℕ) (s : List ℕ) (at : ℕ) (name : List ℕ) (n : ℕ) → FoundLies n (search_from k s at name)
unfolding search_from
search_lies zero s at name n = omega arith
search_lies (suc k) s at name n =
    search_in_lies s name n (entry_at s at) (λ (m : ℕ). search_from k s m name) (λ m. search_lies k s m name n)

find_in_lies : (d name : List ℕ) (v : Result Unit Fault) → 0 < length d → v ≡ verdict d → FoundLies (length d) (find_in v d name)
unfolding find_in
find_in_lies d name (Ok tt) h e = search_lies (length d) d 2 name (length d)
find_in_lies d name (Err (fault.Broken at)) h e = let w = rw (sym e) at (verdict-placed d) in omega arith
find_in_lies d name (Err (fault.Repeated at)) h e = let w = rw (sym e) at (verdict-placed d) in omega arith

lone_lies : (d name : List ℕ) → 0 < length d → FoundLies (length d) (find d name)
unfolding find
lone_lies d name h = find_in_lies d name (verdict d) h refl

lone_empty : (name : List ℕ) → find [] name ≡ Err (BrokenDictionary 0)
unfolding find find_in verdict
lone_empty name = refl

check_broken : (d name : List ℕ) (at : ℕ) → verdict d ≡ Err (fault.Broken at)
    → find d name ≡ Err (BrokenDictionary at)
unfolding find find_in
check_broken d name at e = rw e

check_repeated : (d name : List ℕ) (at : ℕ) → verdict d ≡ Err (fault.Repeated at)
    → find d name ≡ Err (Repeated at)
unfolding find find_in
check_repeated d name at e = rw e

start_says : (t f : List ℕ) (r : Refusal) → header f ≡ Err r → start t f ≡ start_refused r
unfolding start start_in
start_says t f r e = rw e

start_behind : (t f : List ℕ) (h : Header) → header f ≡ Ok h → ZeroBegun (start t f)
unfolding start start_in
start_behind t f h e = rw e (start_at-zero f h.length (keys_of t f h))

opened_behind : (f : List ℕ) (n : ℕ) (b : Begun) → ZeroBegun b → ZeroOpened (opened_by b f n)
unfolding opened_by
opened_behind f n (start_refused r) z = z
opened_behind f n (begun k p) z = whole_zero k f p n

whole_behind : (t f : List ℕ) (n : ℕ) (h : Header) → header f ≡ Ok h → ZeroOpened (opened_in t f n)
unfolding opened_in
whole_behind t f n h e = opened_behind f n (start t f) (start_behind t f h e)

whole_says : (t f : List ℕ) (n : ℕ) (r : Refusal) → header f ≡ Err r → opened_in t f n ≡ refused r
unfolding opened_in opened_by
whole_says t f n r e = rw (start_says t f r e)

-- THE SENTENCE
pub places : Places
unfolding writing_with
places =
    record {
      header_lies = λ f r e. rw e at (header_lies f);
      inner_lies = λ p r e. rw e at (inner_lies p);
      attachment_lies = λ p i r e. rw e at (attachment_lies p i);
      dictionary_lies = λ d name r h e. rw e at (lone_lies d name h);
      dictionary_empty = lone_empty;
      check_broken = check_broken;
      check_repeated = check_repeated;
      start_header = start_says;
      start_zero = λ t f h r g e. rw e at (start_behind t f h g);
      whole_header = whole_says;
      whole_zero = λ t f n h r g e. rw e at (whole_behind t f n h g);
      step_zero = λ f o n r e. rw e at (step_zero f o n);
      writer_zero = λ g t b n r e. rw e at (writing-zero sizes g t b n);
      inner_writer_zero = λ a k l d n r e. rw e at (inner-zero a k l d n);
    }
