use Rattle.std.proofs.Common.{◌≡◌, length, arith}
use Rattle.sm4.specs.Sm4.{encrypt_answer}
use Rattle.vectors.proofs.encrypted.Goals as goal

pub unwrap-block-requires : goal.unwrap-block-requires
unfolding encrypt_answer
unwrap-block-requires c =
    let keys : length c.args.keys ≡ 32 = omega arith in
    let block : length c.loop.block ≡ 16 = omega arith in
    rw (c.encrypt.ensures, keys, block)
