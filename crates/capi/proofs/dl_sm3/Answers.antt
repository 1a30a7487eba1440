use Rattle.std.proofs.Common.{◌∙◌, ap}
use Rattle.words.specs.Output.{answer_left}
use Rattle.capi.specs.StoredLaws.{left_answer}
use Rattle.capi.proofs.dl_sm3.Goals as goal

pub returns : goal.returns
returns c = left_answer c.sm3.result c.args.out.now c.store.ensures.code c.store.ensures.out_after ∙ ap (λ made. answer_left made c.args.out.now) c.sm3.ensures
