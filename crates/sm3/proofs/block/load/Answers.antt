use Rattle.std.proofs.Common.{refl, arith, length-set}
use Rattle.sm3.specs.Sm3.{words_at}
use Rattle.sm3.specs.Sm3Laws.{load_more}
use Rattle.sm3.proofs.block.load.Goals as goal

pub loop-j-init : goal.loop-j-init
unfolding words_at
loop-j-init c = record { size = refl; words = refl }

pub loop-j-preserved : goal.loop-j-preserved
loop-j-preserved c =
    record {
      size = rw length-set c.loop-j.invariant.size;
      words = load_more c.args.m.now c.args.at c.loop-j.j c.loop-j.w (omega arith) c.loop-j.invariant.words c.word_at.ensures;
    }
