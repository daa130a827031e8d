-- `aes_cbc::decrypt_run` meets its contract. The invariant: i blocks are decrypted where they stood, and before is the
-- last ciphertext block among them. Assumes nothing.
use mathlib.Core.Path.{◌≡◌, refl, sym, ap, ◌∙◌}
use mathlib.Core.List.{List}
use Prim.Native.Nat.{ℕ, ◌+◌, ◌*◌, ◌-◌, ◌/◌, ◌≤◌}
use native.Mathlib.Omega.{arith}
use lib.ListN.{length, take}
use Rattle.slices.specs.Over.{over}
use Rattle.slices.proofs.Laws.Parts.{part-tail}
use Rattle.aes.specs.Columns.{columns}
use Rattle.aes.proofs.Laws.Tabled.{columns-block, eq_inv_cipher_by-td}
use Rattle.fips197.proofs.Laws.Equivalent.{length-eq_inv_cipher}
use Rattle.cbc.proofs.Laws.Turns.{cipher_block-zero, cipher_block_more, cipher_block_all, decrypted_to-zero, decrypted_to_all, length_decrypted_over, decrypt-block, decrypt-turn}
use borrow.Author.Rules.{rules}
use Rattle.aes_cbc.proofs.decrypt_run.Invariants.{under}
use Rattle.aes_cbc.proofs.decrypt_run.Goals as goal

keeps : (v x : List ℕ) → length x ≡ 16 → length (under v x) ≡ 16
keeps v x e = length-eq_inv_cipher x v

pub loop-i-init : goal.loop-i-init
loop-i-init c =
    let a = c.args in (
      search rules,
      sym (cipher_block-zero (columns a.prev) a.out.now),
      decrypted_to-zero (under a.v.now) (columns a.prev) a.out.now a.out.now,
    )

pub loop-i-preserved : goal.loop-i-preserved
loop-i-preserved c =
    let l = c.loop-i in
    let d = c.args.out.now in
    let v = c.args.v.now in
    let prev = columns c.args.prev in
    let fits : 16 * l.i ≤ length d = omega arith in
    let more : 16 * (l.i + 1) ≤ length d = omega arith in
    let block = c.load_front-x.ensures ∙ ap (take 16) (part-tail (16 * l.i) l.out) in
    let x = c.load_front-x.result in
    let by-td = eq_inv_cipher_by-td c.requires.0 c.requires.1 v (columns x) (columns-block x.a x.b x.c x.d) in
    let whole =
    decrypt-turn (under v) (keeps v) prev refl d l.i fits l.out l.invariant.2
    (columns c.load_front-x.result) (columns c.decrypt-p.result) (columns l.before) (columns c.xor.result)
    c.store_front.new.out (length l.out - 16 * l.i)
    block (c.decrypt-p.ensures ∙ by-td) l.invariant.1 c.xor.ensures
    (omega arith) c.store_front.ensures in (
      ap length whole ∙ length_decrypted_over (under v) (keeps v) prev refl d (l.i + 1) more,
      block ∙ decrypt-block (under v) (keeps v) prev refl d l.i fits l.out l.invariant.2 ∙ sym (cipher_block_more prev d l.i),
      whole,
    )

pub returns : goal.returns
returns c =
    let a = c.args in
    let l = c.loop-i in
    let d = a.out.now in
    let e : l.i ≡ length d / 16 = omega arith in
    record {
      result_value = l.invariant.1 ∙ cipher_block_all (columns a.prev) d l.i e;
      out_after = l.invariant.2 ∙ ap (λ (w : List ℕ). over w d) (decrypted_to_all (under a.v.now) (columns a.prev) d l.i e);
    }
