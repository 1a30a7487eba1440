use Rattle.std.proofs.Common.{ap, ◌∙◌}
use Rattle.sm4.specs.Sm4.{linear_key, step}
use Rattle.sm4.specs.Sm4Laws.{table-at}
use Rattle.sm4.proofs.round.next_key.Goals as goal

pub returns-clause-value : goal.returns-clause-value
returns-clause-value c = c.step-next.ensures ∙ ap (λ k. step linear_key k c.args.q) (table-at c.args.i c.requires.i_bound)
