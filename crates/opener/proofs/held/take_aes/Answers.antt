-- `opener::held::take_aes` meets its contract. Assumes nothing.
use mathlib.Core.Path.{◌≡◌, sym, ap, ◌∙◌}
use mathlib.Core.List.{◌++◌}
use Prim.Native.Nat.{ℕ, ◌+◌, ◌≤◌}
use native.Mathlib.Omega.{arith}
use lib.ListN.{length, take}
use lib.Seq.{length-take-le}
use Rattle.cbc.specs.Sp80038a.{previous}
use Rattle.ciphers.specs.declared.Cipher.TheVariants.{Aes256}
use Rattle.opener.specs.Counts.{held_count, due_count, due_by}
use Rattle.opener.proofs.Laws.Due.{due_count-le, due_count_rest, prev_is, held_is, aes_over}
use borrow.Author.Rules.{rules}
use Rattle.opener.proofs.held.take_aes.Goals as goal

-- n is the due count, and there is room for it
room : (c m l h n : ℕ) → due_by Aes256 c m ≤ l → h ≡ held_count c → n ≡ due_count (h + m) → n ≤ l
unfolding due_by
room c m l h n r eh en = rw (en, eh) r

pub slice_bounds-decrypt_run-end : goal.slice_bounds-decrypt_run-end
slice_bounds-decrypt_run-end c =
    let n = c.due_count-n in
    let h = c.held_count-h in
    room _ _ _ h.result n.result c.requires h.ensures.0 n.ensures

pub slice_bounds-decrypt_run-end-2 : goal.slice_bounds-decrypt_run-end-2
slice_bounds-decrypt_run-end-2 c =
    let n = c.due_count-n in
    let h = c.held_count-h in
    sym (length-take-le n.result c.args.out.now
    (room _ _ _ h.result n.result c.requires h.ensures.0 n.ensures))

pub decrypt_run-v-requires : goal.decrypt_run-v-requires
decrypt_run-v-requires c =
    let n = c.due_count-n in
    let h = c.held_count-h in
    let l = length-take-le n.result c.args.out.now
    (room _ _ _ h.result n.result c.requires h.ensures.0 n.ensures) in
    let m = due_count-le (h.result + length c.args.d.now) in
    let e = n.ensures in
    record {
      h_bound = h.ensures.1;
      out_len_bound = omega (arith, l, m, e);
    }

pub keep-k-requires : goal.keep-k-requires
keep-k-requires c =
    let n = c.due_count-n in
    let h = c.held_count-h in
    let m = due_count-le (h.result + length c.args.d.now) in
    let r = due_count_rest (h.result + length c.args.d.now) in
    let e = n.ensures in
    record {
      h_bound = h.ensures.1;
      at_bound = omega (arith, m, e);
      d_bound = omega (arith, r, e);
    }

pub returns : goal.returns
returns c =
    let long_held : length c.args.held ≡ 16 = search rules in
    let long_prev : length c.args.prev ≡ 16 = search rules in
    let n = c.due_count-n in
    let h = c.held_count-h in
    let a = c.args in
    let x = a.held in
    let d = a.d.now in
    let out = a.out.now in
    let eh = h.ensures.0 in
    let en = n.ensures in
    let lx = long_held in
    let lv = long_prev in
    let lm : length (take n.result out) ≡ n.result =
    length-take-le n.result out (room _ _ _ h.result n.result c.requires eh en) in
    let run = c.decrypt_run-v.ensures in
    record {
      prev_value = run.value
          ∙ ap (λ (j : ℕ). previous a.prev (take j (take h.result x ++ d))) lm
          ∙ sym (prev_is a.c h.result n.result x d eh lx en a.prev);
      held_value = c.keep-k.ensures ∙ sym (held_is a.c h.result n.result x d eh lx en);
      out_after = aes_over a.c h.result n.result x d eh lx en a.keys a.prev out _ _ lv lm run.out_after;
    }
