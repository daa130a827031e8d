-- `aes_cbc::encrypt_run` meets its contract. The invariant: i blocks are encrypted where they stood, and before is the
-- last of them.
-- Assumes nothing.
use mathlib.Core.Path.{◌≡◌, refl, sym, ap, ◌∙◌}
use mathlib.Core.List.{List}
use Prim.Native.Nat.{ℕ, ◌+◌, ◌*◌, ◌-◌, ◌/◌, ◌≤◌}
use native.Mathlib.Omega.{arith}
use lib.ListN.{length, take}
use Rattle.slices.specs.Over.{over}
use Rattle.slices.proofs.Laws.Parts.{part-tail}
use Rattle.aes.specs.Columns.{columns}
use Rattle.aes.proofs.Laws.Tabled.{columns-block, cipher_by-te}
use Rattle.fips197.proofs.Laws.Inverse.{length-cipher}
use Rattle.cbc.proofs.Laws.Turns.{encrypted_to-zero, encrypted_to_all, encrypted_last-zero, encrypted_last_all, length-encrypted_over, encrypt-turn}
use borrow.Author.Rules.{rules}
use Rattle.aes_cbc.proofs.encrypt_run.Invariants.{under}
use Rattle.aes_cbc.proofs.encrypt_run.Goals as goal

keeps : (w x : List ℕ) → length x ≡ 16 → length (under w x) ≡ 16
keeps w x e = length-cipher w x

pub loop-i-init : goal.loop-i-init
loop-i-init c =
    let a = c.args in (
      search rules,
      sym (encrypted_last-zero (under a.w.now) (columns a.prev) a.out.now),
      encrypted_to-zero (under a.w.now) (columns a.prev) a.out.now a.out.now,
    )

pub loop-i-preserved : goal.loop-i-preserved
loop-i-preserved c =
    let l = c.loop-i in
    let d = c.args.out.now in
    let w = c.args.w.now in
    let prev = columns c.args.prev in
    let fits : 16 * l.i ≤ length d = omega arith in
    let more : 16 * (l.i + 1) ≤ length d = omega arith in
    let block = c.load_front-p.ensures ∙ ap (take 16) (part-tail (16 * l.i) l.out) in
    let x = c.xor.result in
    let by-te = cipher_by-te c.requires w (columns x) (columns-block x.a x.b x.c x.d) in
    let turn =
    encrypt-turn (under w) (keeps w) prev refl d l.i fits l.out l.invariant.2
    (columns c.load_front-p.result) (columns l.before) (columns c.xor.result) (columns c.encrypt-c.result)
    c.store_front.new.out (length l.out - 16 * l.i)
    block l.invariant.1 c.xor.ensures (c.encrypt-c.ensures ∙ by-te)
    (omega arith) c.store_front.ensures in (
      ap length turn.1 ∙ length-encrypted_over (under w) (keeps w) prev refl d (l.i + 1) more,
      turn.0,
      turn.1,
    )

pub returns : goal.returns
returns c =
    let a = c.args in
    let l = c.loop-i in
    let d = a.out.now in
    let w = a.w.now in
    let e : l.i ≡ length d / 16 = omega arith in
    record {
      result_value = l.invariant.1 ∙ encrypted_last_all (under w) (keeps w) (columns a.prev) refl d l.i e;
      out_after = l.invariant.2 ∙ ap (λ (t : List ℕ). over t d) (encrypted_to_all (under w) (columns a.prev) d l.i e);
    }
