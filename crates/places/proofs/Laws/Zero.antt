-- Where the place is zero: hash, tag, blocks, writers.
--
-- In order:
--   judge-zero                       a block
--   whole_zero, step_zero            all blocks; one step
--   start_at-zero                     hash and tag behind an accepted header
--   checked_zero, writing-zero       a header's figures; a vault
--   unplaced-zero, inner-zero        a payload
-- Assumes nothing.
use mathlib.Core.Path.{◌≡◌, refl}
use mathlib.Core.Bool.{cond}
use mathlib.Core.List.{List, [], ◌++◌}
use mathlib.Core.Option.{Option as Maybe, none, some}
use Prim.Native.Nat.{ℕ, zero, suc, ◌+◌, ◌-◌, ◌%◌, ◌≤◌}
use native.Mathlib.Omega.{arith}
use lib.Dec.{eqb, leb, ltb}
use lib.ListN.{length}
use Rattle.words.specs.Endian.{le}
use Rattle.words.specs.Size.{int32}
use Rattle.std.specs.Prelude.{Option, Some, None, Result, Ok, Err}
use Rattle.words.proofs.Laws.Cases.{by_bool}
use Rattle.refusals.specs.declared.Refusal.{Refusal}
use Rattle.refusals.specs.declared.Refusal.TheVariants.{TooLong, CutShort, WrongSignature, WrongVersion, WrongSize, Repeated, UnknownField, Absent, Unlisted, BrokenDictionary, TooManyRounds, HeaderHash, HeaderTag, BlockTag, TrailingBytes, WrongPadding, NoRoom, WrongCredential, OutOfSequence, TooFewRounds, FigureOutside}
use Rattle.refusals.specs.Numbers.{Written}
use Rattle.refusals.specs.Numbers.{place_of, unplaced}
use Rattle.refusals.specs.Limits.{file_limit, payload_limit, rounds_limit, rounds_least, argon2_fits}
use Rattle.ciphers.specs.Ciphers.{cipher_of, nonce_length}
use Rattle.ciphers.specs.declared.Cipher.{Cipher}
use Rattle.ciphers.specs.declared.Cipher.TheVariants.{Aes256, ChaCha20}
use Rattle.dictionary.specs.Dictionary.{verdict}
use Rattle.dictionary.specs.declared.Fault.TheVariants as fault
use Rattle.dictionary.specs.declared.Fault.{Fault}
use Rattle.kdf_dictionary.specs.declared.writer.Figures.{Figures as KdfFigures}
use Rattle.kdf_dictionary.specs.declared.writer.Figures.TheVariants as figures
use Rattle.header_writer.specs.Written.{custom_in, custom_verdict, checked_custom, salt_sized, checked_figures, checked_sizes, checked_cipher, checked}
use Rattle.inner_header.specs.InnerHeader.{algorithm_listed}
use Rattle.inner_header.specs.Writer as inner
use Rattle.block_stream.specs.Blocks.{holds, found, judge_size, judge, data_at}
use Rattle.block_stream.specs.declared.Block.{Block}
use Rattle.block_stream.specs.declared.Block.TheVariants.{Data, Closing, Refused}
use Rattle.pkcs7.specs.Pkcs7.{strip}
use Rattle.opening.specs.declared.Keys.{Keys}
use Rattle.opening.specs.declared.Opener.{Opener}
use Rattle.opening.specs.declared.Phase.{Phase}
use Rattle.opening.specs.declared.Phase.TheVariants as phase
use Rattle.opening.specs.Decryption.{Opened, refused, opened, decryption_by, aes_from, stripped, payload_by}
use Rattle.opening.specs.Runs.{refuse, hand}
use Rattle.opening.specs.Steps.{mark_of, sound, blank, bytes_by, last_by, close_by, taking, step_on, step_in, step_of}
use Rattle.opening.specs.Whole.{close_of, walk_in, walk, whole, roomed, whole_in}
use Rattle.vault.specs.Vault.{Begun, start_refused, begun, hash_holds, tag_holds, start_at}
use Rattle.writer.specs.Written.{Sizes, Figures, settled, writing_by, checked_of, file_cut}

-- nothing is said of what is accepted
abbrev ZeroBlock : Block → Type 0
ZeroBlock (Data n) = 0 ≤ 0
ZeroBlock Closing = 0 ≤ 0
ZeroBlock (Refused r) = place_of r ≡ 0

found_zero : (n : ℕ) → ZeroBlock (found n)
unfolding found
found_zero n = by_bool (eqb n 0) (λ t. rw t (omega arith)) (λ t. rw t (omega arith))

judge_size-zero : (base f : List ℕ) (i p : ℕ) (z : Option ℕ) → ZeroBlock (judge_size base f i p z)
unfolding judge_size
judge_size-zero base f i p None = refl
judge_size-zero base f i p (Some n) =
    by_bool (leb n (length f - (p + 36)))
    (λ t. by_bool (holds base f i p n) (λ u. rw (t, u) (found_zero n)) (λ u. rw (t, u) refl))
    (λ t. rw t refl)

judge-zero : (base f : List ℕ) (i p : ℕ) → ZeroBlock (judge base f i p)
unfolding judge
judge-zero base f i p =
    by_bool (leb (length f) file_limit)
    (λ t. by_bool (leb (p + 36) (length f))
    (λ u. rw (t, u) (judge_size-zero base f i p (int32 (le 4 f (p + 32)))))
    (λ u. rw (t, u) refl))
    (λ t. rw t refl)

abbrev pub ZeroOpened : Opened → Type 0
ZeroOpened (refused r) = place_of r ≡ 0
ZeroOpened (opened b) = 0 ≤ 0

stripped-zero : (o : Maybe (List ℕ)) → ZeroOpened (stripped o)
unfolding stripped
stripped-zero none = refl
stripped-zero (some b) = omega arith

payload-zero : (c : Cipher) (k : Keys) (t : List ℕ) → ZeroOpened (payload_by c k t)
unfolding payload_by
payload-zero Aes256 k t =
    by_bool (eqb (length t) 0)
    (λ u. rw u refl)
    (λ u. by_bool (eqb (length t % 16) 0)
    (λ v. rw (u, v) (stripped-zero (strip (decryption_by Aes256 k t))))
    (λ v. rw (u, v) refl))
payload-zero ChaCha20 k t = omega arith

close_zero : (k : Keys) (f : List ℕ) (p : ℕ) (t : List ℕ) → ZeroOpened (close_of k f p t)
unfolding close_of
close_zero k f p t =
    by_bool (ltb (p + 36) (length f)) (λ u. rw u refl) (λ u. rw u (payload-zero k.cipher k t))

walk_in-zero : (b : Block) (more : ℕ → Opened) (end : Opened) → ZeroBlock b → ((n : ℕ) → ZeroOpened (more n))
    → ZeroOpened end
    → ZeroOpened (walk_in b more end)
unfolding walk_in
walk_in-zero (Refused r) more end z m e = z
walk_in-zero (Data n) more end z m e = m n
walk_in-zero Closing more end z m e = e

walk-zero : (m : ℕ) (k : Keys) (f : List ℕ) (i p : ℕ) (t : List ℕ) → ZeroOpened (walk m k f i p t)
unfolding walk
walk-zero zero k f i p t = refl
walk-zero (suc m) k f i p t =
    walk_in-zero (judge k.base f i p) (λ (n : ℕ). walk m k f (suc i) (p + 36 + n) (t ++ data_at f p n))
    (close_of k f p t) (judge-zero k.base f i p)
    (λ n. walk-zero m k f (suc i) (p + 36 + n) (t ++ data_at f p n)) (close_zero k f p t)

roomed-zero : (n : ℕ) (o : Opened) → ZeroOpened o → ZeroOpened (roomed n o)
unfolding roomed
roomed-zero n (refused r) z = z
roomed-zero n (opened b) z = by_bool (ltb n (length b)) (λ t. rw t refl) (λ t. rw t (omega arith))

pub whole_zero : (k : Keys) (f : List ℕ) (p n : ℕ) → ZeroOpened (whole_in k f p n)
unfolding whole_in whole
whole_zero k f p n = roomed-zero n (whole k f p) (walk-zero (suc (length f)) k f 0 p [])

abbrev pub ZeroWritten : Written → Type 0
ZeroWritten (Ok n) = 0 ≤ 0
ZeroWritten (Err r) = place_of r ≡ 0

hand-zero : (n : ℕ) (b : List ℕ) (o q : Opener) → ZeroWritten (hand n b o q).answer.written
unfolding hand refuse
hand-zero n b o q = by_bool (ltb n (length b)) (λ t. rw t refl) (λ t. rw t (omega arith))

close_by-zero : (x : Opened) (o : Opener) (n : ℕ) → ZeroOpened x → ZeroWritten (close_by x o n).answer.written
unfolding close_by refuse
close_by-zero (refused r) o n z = z
close_by-zero (opened b) o n z = hand-zero n b o (blank phase.Ended)

last_zero : (c : Cipher) (k : Keys) (m : ℕ) (v h : List ℕ) → ZeroOpened (last_by c k m v h)
unfolding last_by
last_zero Aes256 k m v h =
    by_bool (eqb m 0)
    (λ u. rw u refl)
    (λ u. by_bool (eqb (m % 16) 0)
    (λ w. rw (u, w) (stripped-zero (strip (aes_from k v h))))
    (λ w. rw (u, w) refl))
last_zero ChaCha20 k m v h = omega arith

closing_zero : (f : List ℕ) (o : Opener)
    → ZeroOpened
    (cond (ltb (o.at + 36) (length f)) (refused TrailingBytes)
    (last_by o.keys.cipher o.keys o.taken o.prev o.held))
closing_zero f o =
    by_bool (ltb (o.at + 36) (length f))
    (λ u. rw u refl)
    (λ u. rw u (last_zero o.keys.cipher o.keys o.taken o.prev o.held))

step_on-zero : (b : Block) (f : List ℕ) (o : Opener) (n : ℕ) → ZeroBlock b → ZeroWritten (step_on b f o n).answer.written
unfolding step_on refuse
step_on-zero (Refused r) f o n z = z
step_on-zero (Data s) f o n z =
    hand-zero n (bytes_by o.keys.cipher o.keys o.taken o.prev o.held (data_at f o.at s)) o
    (taking o (data_at f o.at s))
step_on-zero Closing f o n z =
    close_by-zero
    (cond (ltb (o.at + 36) (length f)) (refused TrailingBytes)
    (last_by o.keys.cipher o.keys o.taken o.prev o.held))
    o n (closing_zero f o)

step_in-zero : (m : Phase) (f : List ℕ) (o : Opener) (n : ℕ) → ZeroWritten (step_in m f o n).answer.written
unfolding step_in refuse
step_in-zero phase.Open f o n =
    step_on-zero (judge o.keys.base f o.number o.at) f o n (judge-zero o.keys.base f o.number o.at)
step_in-zero phase.Closed f o n = refl
step_in-zero phase.Ended f o n = refl

pub step_zero : (f : List ℕ) (o : Opener) (n : ℕ) → ZeroWritten (step_of f o n).answer.written
unfolding step_of
step_zero f o n = step_in-zero (mark_of (sound o.number o.at o.taken) o.phase) f o n

abbrev pub ZeroBegun : Begun → Type 0
ZeroBegun (start_refused r) = place_of r ≡ 0
ZeroBegun (begun k p) = 0 ≤ 0

pub start_at-zero : (f : List ℕ) (n : ℕ) (k : Keys) → ZeroBegun (start_at f n k)
unfolding start_at
start_at-zero f n k =
    by_bool (ltb (length f - n) 64)
    (λ t. rw t refl)
    (λ t. by_bool (hash_holds f n)
    (λ u. by_bool (tag_holds k.base f n) (λ v. rw (t, u, v) (omega arith)) (λ v. rw (t, u, v) refl))
    (λ u. rw (t, u) refl))

abbrev ZeroChecked : Result Cipher Refusal → Type 0
ZeroChecked (Ok c) = 0 ≤ 0
ZeroChecked (Err r) = place_of r ≡ 0

custom_in-zero : (c : Cipher) (v : Result Unit Fault) → ZeroChecked (checked_custom c (custom_in v))
unfolding checked_custom custom_in
custom_in-zero c (Ok tt) = omega arith
custom_in-zero c (Err (fault.Broken at)) = refl
custom_in-zero c (Err (fault.Repeated at)) = refl

custom_zero : (c : Cipher) (custom : List ℕ) → ZeroChecked (checked_custom c (custom_verdict custom))
unfolding custom_verdict checked_custom
custom_zero c custom =
    by_bool (eqb (length custom) 0)
    (λ t. rw t (omega arith))
    (λ t. rw t (custom_in-zero c (verdict custom)))

figures-zero : (c : Cipher) (k : KdfFigures) (salt custom : List ℕ) → ZeroChecked (checked_figures c k salt custom)
unfolding checked_figures
figures-zero c (figures.AesKdf rounds) salt custom =
    by_bool (leb rounds rounds_limit)
    (λ t. by_bool (leb rounds_least rounds) (λ u. rw (t, u) (custom_zero c custom)) (λ u. rw (t, u) refl))
    (λ t. rw t refl)
figures-zero c (figures.Argon2d passes memory lanes) salt custom =
    by_bool (argon2_fits (length salt) passes memory lanes) (λ t. rw t (custom_zero c custom)) (λ t. rw t refl)
figures-zero c (figures.Argon2id passes memory lanes) salt custom =
    by_bool (argon2_fits (length salt) passes memory lanes) (λ t. rw t (custom_zero c custom)) (λ t. rw t refl)

sizes-zero : (c : Cipher) (seed nonce : List ℕ) (k : KdfFigures) (salt custom : List ℕ)
    → ZeroChecked (checked_sizes c seed nonce k salt custom)
unfolding checked_sizes
sizes-zero c seed nonce k salt custom =
    by_bool (eqb (length seed) 32)
    (λ t. by_bool (eqb (length nonce) (nonce_length c))
    (λ u. by_bool (salt_sized k (length salt))
    (λ v. rw (t, u, v) (figures-zero c k salt custom))
    (λ v. rw (t, u, v) refl))
    (λ u. rw (t, u) refl))
    (λ t. rw t refl)

cipher-zero : (i : Option Cipher) (seed nonce : List ℕ) (k : KdfFigures) (salt custom : List ℕ)
    → ZeroChecked (checked_cipher i seed nonce k salt custom)
unfolding checked_cipher
cipher-zero None seed nonce k salt custom = refl
cipher-zero (Some c) seed nonce k salt custom = sizes-zero c seed nonce k salt custom

checked_zero : (minor : ℕ) (id seed nonce : List ℕ) (k : KdfFigures) (salt custom : List ℕ)
    → ZeroChecked (checked minor id seed nonce k salt custom)
unfolding checked
checked_zero minor id seed nonce k salt custom =
    by_bool (leb minor 1)
    (λ t. rw t (cipher-zero (cipher_of id) seed nonce k salt custom))
    (λ t. rw t refl)

settled-zero : (s : Sizes) (b f n : ℕ) → ZeroWritten (settled s b f n)
unfolding settled
settled-zero s b f n =
    by_bool (leb b s.payload)
    (λ t. by_bool (leb f s.file)
    (λ u. by_bool (ltb n f) (λ v. rw (t, u, v) refl) (λ v. rw (t, u, v) (omega arith)))
    (λ u. rw (t, u) refl))
    (λ t. rw t refl)

writing_by-zero : (s : Sizes) (c : Result Cipher Refusal) (g : Figures) (t b : List ℕ) (n : ℕ) → ZeroChecked c
    → ZeroWritten (writing_by s c g t b n)
unfolding writing_by
writing_by-zero s (Err r) g t b n z = z
writing_by-zero s (Ok c) g t b n z = settled-zero s (length b) (length (file_cut s.block g c t b)) n

pub writing-zero : (s : Sizes) (g : Figures) (t b : List ℕ) (n : ℕ) → ZeroWritten (writing_by s (checked_of g) g t b n)
unfolding checked_of
writing-zero s g t b n =
    writing_by-zero s (checked_of g) g t b n
    (checked_zero g.minor g.cipher g.seed g.nonce g.kdf g.salt g.custom)

unplaced-zero : (r : Refusal) → place_of (unplaced r) ≡ 0
unplaced-zero TooLong = refl
unplaced-zero (CutShort at) = refl
unplaced-zero (WrongSignature at) = refl
unplaced-zero (WrongVersion at) = refl
unplaced-zero (WrongSize at) = refl
unplaced-zero (Repeated at) = refl
unplaced-zero (UnknownField at) = refl
unplaced-zero (Absent at) = refl
unplaced-zero (Unlisted at) = refl
unplaced-zero (BrokenDictionary at) = refl
unplaced-zero (TooManyRounds at) = refl
unplaced-zero HeaderHash = refl
unplaced-zero HeaderTag = refl
unplaced-zero BlockTag = refl
unplaced-zero TrailingBytes = refl
unplaced-zero WrongPadding = refl
unplaced-zero NoRoom = refl
unplaced-zero WrongCredential = refl
unplaced-zero OutOfSequence = refl
unplaced-zero (TooFewRounds at) = refl
unplaced-zero (FigureOutside at) = refl

run-zero : (x : inner.Run) (n room : ℕ) → ZeroWritten (inner.run_then (inner.verdict x) (inner.sized n room))
unfolding inner.run_then inner.verdict inner.sized
run-zero (inner.all_fine l) n room =
    by_bool (leb n payload_limit)
    (λ t. by_bool (leb n room) (λ u. rw (t, u) (omega arith)) (λ u. rw (t, u) refl))
    (λ t. rw t refl)
run-zero (inner.refused r) n room = unplaced-zero r

pub inner-zero : (algorithm : ℕ) (key run document : List ℕ) (n : ℕ) → ZeroWritten (inner.writing algorithm key run document n)
unfolding inner.writing inner.planned
inner-zero algorithm key run document n =
    by_bool (algorithm_listed algorithm)
    (λ t. rw t (run-zero (inner.run run) (inner.payload_length (length key) (length run) (length document)) n))
    (λ t. rw t refl)
