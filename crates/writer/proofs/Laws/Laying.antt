-- What the code lays down, one part behind the other.
--
-- In order:
--   text-padded              a payload's last bytes and their padding
--   sums-laid                a header's hash and tag behind it
--   block_closed             bytes encrypted at 36, and their block sealed
--   block-laid               whole pieces laid at 36, encrypted and sealed
--   laid_behind              the tail behind the first 36 bytes lent
--   closed_behind            the closing block behind the last
-- Assumes nothing.
use mathlib.Core.Path.{◌≡◌, refl, sym, ap, ap₂, ◌∙◌}
use mathlib.Core.List.{List, [], ◌++◌, append_assoc}
use Prim.Native.Nat.{ℕ, ◌+◌, ◌-◌, ◌≤◌}
use native.Mathlib.Omega.{arith}
use lib.ListN.{length, take, drop, length-append, length-drop}
use lib.Seq.{take_all, take_at, drop_at, drop-drop, length-take-le}
use Rattle.slices.specs.Over.{over, laid, put_at}
use Rattle.slices.proofs.Laws.Over.{length_over, over_own, over_over, over_fits, over_all, take_over, drop_over, over_tail}
use Rattle.slices.proofs.Laws.Put.{laid_more}
use Rattle.refusals.specs.Limits.{file_limit}
use Rattle.pkcs7.specs.Pkcs7.{pad, padding_string}
use Rattle.pkcs7.specs.Answer as pkcs7
use Rattle.block_stream.specs.Blocks.{block_bytes, sealed}
use Rattle.block_stream.proofs.Laws.Sealed.{sealed-fits}
use Rattle.block_stream.proofs.Laws.Judged.{length-block_bytes}
use Rattle.ciphers.specs.declared.Cipher.{Cipher}
use Rattle.opening.specs.declared.Keys.{Keys}
use Rattle.vault_keys.specs.VaultKeys.{header_hash, header_tag}
use Rattle.writer.specs.Stretches.{stretch_by, encrypted_over, summed}
use Rattle.writer.proofs.Laws.Stretches.{length_stretch_le}

-- d with b over its front, and then with b's padding behind it
pub text-padded : (b d x : List ℕ) → length (pad b) ≤ length d → x ≡ over (take (length d) b) d
    → pkcs7.padded (length b) x ≡ over (pad b) d
unfolding pkcs7.padded pad
text-padded b d x h e =
    let p = padding_string (length b) in
    let l : length b ≤ length d = omega (arith, length-append b p) in
    let f : x ≡ over b d = e ∙ over_fits b d l in
    rw (f, take_over b d (length b) refl, length_over b d l, take_all (length d) (b ++ p) h) (over_over b p d)

-- the first h bytes are a header m
pub sums-laid : (base d m x y sum tag : List ℕ) (h : ℕ) → m ≡ take h d → h + 64 ≤ length d → length sum ≡ 32
    → length tag ≡ 32 → sum ≡ header_hash m → tag ≡ header_tag base m → x ≡ put_at h sum d → y ≡ put_at (h + 32) tag x
    → y ≡ over (summed base m) d
sums-laid base d m x y sum tag h em l ls lt es et ex ey =
    let a : h ≤ length d = omega arith in
    let lm : length m ≡ h = ap length em ∙ length-take-le h d a in
    let b : length m ≤ length d = omega arith in
    let own : d ≡ laid m d =
    sym (over_fits m d b ∙ ap (λ (w : List ℕ). over w d) em ∙ over_own h d a) in
    let l₁ : length (m ++ sum) ≡ h + 32 = omega (arith, length-append m sum) in
    let l₂ : length (m ++ sum ++ tag) ≤ length d = omega (arith, length-append (m ++ sum) tag) in
    let x₁ = laid_more m sum d d x h lm own ex in
    let y₁ = laid_more (m ++ sum) tag d x y (h + 32) l₁ x₁ ey in
    y₁ ∙ over_fits (m ++ sum ++ tag) d l₂
    ∙ ap₂ (λ (s t : List ℕ). over (m ++ s ++ t) d) es et

-- s with the n bytes at 36 changed to w
module _ (s w : List ℕ) (n k : ℕ) (ek : k ≡ n) (lw : length w ≡ n) (ls : 36 + n ≤ length s) where
  abbrev changed : List ℕ
  changed = take 36 s ++ (w ++ drop k (drop 36 s))

  front : length (take 36 s) ≡ 36
  front = length-take-le 36 s (omega arith)

  rest : drop (36 + n) changed ≡ drop (36 + n) s
  rest =
      let l : length (take 36 s ++ w) ≡ 36 + n = omega (arith, length-append (take 36 s) w, front) in
      rw (ek, drop-drop, ← append_assoc (take 36 s) w (drop (36 + n) s))
      (drop_at (take 36 s ++ w) (drop (36 + n) s) (36 + n) l)

  middle : take n (drop 36 changed) ≡ w
  middle =
      ap (take n) (drop_at (take 36 s) (w ++ drop k (drop 36 s)) 36 front) ∙ take_at w (drop k (drop 36 s)) n lw

  long : length changed ≡ length s
  long = rw (length-append, length-append, front, length-drop, length-drop, lw) (omega arith)

  sealed_behind : (base : List ℕ) (i : ℕ) → n ≤ file_limit → sealed base i n changed ≡ over (block_bytes base i w) s
  unfolding over
  sealed_behind base i l =
      let f : 36 + n ≤ length changed = omega (arith, long) in
      let e : length (block_bytes base i w) ≡ 36 + n = omega (arith, length-block_bytes base w i) in
      sealed-fits base changed i n f l ∙ rw (middle, e, rest)

-- the n bytes at 36 encrypted, and their block sealed
pub block_closed : (c : Cipher) (ks : Keys) (v : List ℕ) (p : ℕ) (base s w y : List ℕ) (i n k : ℕ) → k ≡ n
    → 36 + n ≤ length s → n ≤ file_limit → length v ≡ 16 → w ≡ encrypted_over c ks v p (take k (drop 36 s))
    → y ≡ sealed base i n (take 36 s ++ (w ++ drop k (drop 36 s)))
    → y ≡ over (block_bytes base i (encrypted_over c ks v p (take n (drop 36 s)))) s
block_closed c ks v p base s w y i n k ek ls l lv ew ey =
    let x = take n (drop 36 s) in
    let f : w ≡ encrypted_over c ks v p x = rw ek at ew in
    let lx : length x ≡ n = length-take-le n (drop 36 s) (simp length-drop (omega arith)) in
    let lw : length w ≡ n = ap length f ∙ length_over (stretch_by c ks v p x) x (length_stretch_le c ks v p x lv) ∙ lx in
    ey ∙ sealed_behind s w n k ek lw ls base i l ∙ ap (λ (z : List ℕ). over (block_bytes base i z) s) f

-- b laid at 36 of d: it stands there, and a block over it hides it
module _ (b d x : List ℕ) (n : ℕ) (lb : length b ≡ n) (ld : 36 + n ≤ length d) (ex : x ≡ over (take 36 d ++ b) d) where
  head : length (take 36 d) ≡ 36
  head = length-take-le 36 d (omega arith)

  pub laid_data : take n (drop 36 x) ≡ b
  unfolding over
  laid_data =
      rw (ex, append_assoc (take 36 d) b (drop (length (take 36 d ++ b)) d))
      (ap (take n) (drop_at (take 36 d) (b ++ drop (length (take 36 d ++ b)) d) 36 head)
      ∙ take_at b (drop (length (take 36 d ++ b)) d) n lb)

  laid_hidden : (w : List ℕ) → length w ≡ 36 + n → over w x ≡ over w d
  unfolding over
  laid_hidden w lw =
      let l : length (take 36 d ++ b) ≡ 36 + n = omega (arith, length-append (take 36 d) b, head) in
      rw lw (ap (λ (z : List ℕ). w ++ z) (ap (drop (36 + n)) ex ∙ drop_over (take 36 d ++ b) d (36 + n) l))

  -- whole pieces b, encrypted and sealed where they stand
  pub block-laid : (c : Cipher) (ks : Keys) (v : List ℕ) (p : ℕ) (base y : List ℕ) (i : ℕ)
      → length (stretch_by c ks v p b) ≡ length b
      → y ≡ over (block_bytes base i (encrypted_over c ks v p (take n (drop 36 x)))) x
      → y ≡ over (block_bytes base i (stretch_by c ks v p b)) d
  block-laid c ks v p base y i ls ey =
      let t = stretch_by c ks v p b in
      let e : encrypted_over c ks v p (take n (drop 36 x)) ≡ t =
      ap (encrypted_over c ks v p) laid_data ∙ over_all t b (omega arith) in
      let l : length (block_bytes base i t) ≡ 36 + n = omega (arith, length-block_bytes base t i) in
      ey ∙ ap (λ (z : List ℕ). over (block_bytes base i z) x) e ∙ laid_hidden (block_bytes base i t) l

-- the tail of a slice lent to lay b over it: b stands behind the first 36 bytes
pub laid_behind : (b d ys : List ℕ) (k : ℕ) → 36 ≤ length d → k ≡ length d - 36 → ys ≡ over b (take k (drop 36 d))
    → take 36 d ++ (ys ++ drop k (drop 36 d)) ≡ over (take 36 d ++ b) d
laid_behind b d ys k h e g =
    over_tail (take 36 d) b d d ys 36 k (sym (over_own 36 d h)) (length-take-le 36 d h) h e g

-- the closing block behind w
pub closed_behind : (base w d y ys : List ℕ) (i at k : ℕ) → y ≡ over w d → length w ≡ at → at + 36 ≤ length d
    → k ≡ length y - at → ys ≡ sealed base i 0 (take k (drop at y))
    → take at y ++ (ys ++ drop k (drop at y)) ≡ over (w ++ block_bytes base i []) d
closed_behind base w d y ys i at k ey lw l ek es =
    let ly : length y ≡ length d = ap length ey ∙ length_over w d (omega arith) in
    let lt : length (take k (drop at y)) ≡ k = length-take-le k (drop at y) (simp length-drop (omega arith)) in
    let f : 36 + 0 ≤ length (take k (drop at y)) = omega arith in
    let z : 0 ≤ file_limit = omega arith in
    over_tail w (block_bytes base i []) d y ys at k ey lw (omega arith) (omega arith)
    (es ∙ sealed-fits base (take k (drop at y)) i 0 f z)
