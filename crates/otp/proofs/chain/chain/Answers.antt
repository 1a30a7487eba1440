use Rattle.std.proofs.Common.{◌≡◌, arith}
use Rattle.otp.specs.ChainLaws.{encrypted_ok, chain_more, block_part, block_length}
use Rattle.otp.proofs.chain.chain.Goals as goal

pub unwrap-out-requires : goal.unwrap-out-requires
unwrap-out-requires c = encrypted_ok c.args.keys.now _ c.requires.keys_len c.encrypt_words.ensures

pub loop-i-preserved : goal.loop-i-preserved
loop-i-preserved c =
    chain_more _ _ c.loop-i.i (omega arith) c.requires.keys_len c.loop-i.invariant c.words_of.ensures c.block_sum-sum.ensures c.encrypt_words.ensures c.unwrap-out.ensures

pub returns : goal.returns
returns c = let e : c.loop-i.i ≡ c.args.blocks = omega arith in rw e at c.loop-i.invariant
