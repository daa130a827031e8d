-- `exports::streams::kdbx4_inner_stream_start` meets its contract. Assumes nothing.
use mathlib.Core.Path.{ap, ◌∙◌}
use Rattle.refusals.specs.Numbers.{number_of}
use Rattle.inner_stream.specs.declared.Started.{Started}
use Rattle.states.specs.InnerStreamState.{packed}
use Rattle.exports.proofs.streams.kdbx4_inner_stream_start.Goals as goal

pub returns : goal.returns
returns c =
    let e = c.start-started.ensures in
    record {
      value = c.number.ensures ∙ ap (λ (x : Started). number_of x.outcome) e;
      state_after = c.pack.ensures ∙ ap (λ (x : Started). packed x.next) e;
    }
