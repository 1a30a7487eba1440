use Rattle.std.proofs.Common.{length, ap, ◌∙◌, arith}
use Rattle.otp.specs.Password.{id_of}
use Rattle.otp.specs.IdLaws.{id-length}
use Rattle.otp.specs.ChainLaws.{length-prepared, first_ok, first_output, ciphered_of}
use Rattle.otp.proofs.once.ciphered_once.Goals as goal

pub unwrap-first-requires : goal.unwrap-first-requires
unwrap-first-requires c = first_ok c.args.key.now c.put_id-end.new.out c.requires.in_bounds (omega (arith, c.put_id-end.auto.out)) c.first_block.ensures

pub chain-requires : goal.chain-requires
chain-requires c = let l = id-length c.args.time c.args.count c.args.challenge.now in
    let first = first_output c.args.key.now c.put_id-end.new.out c.requires.in_bounds (omega (arith, c.put_id-end.auto.out)) c.first_block.ensures c.unwrap-first.ensures in
    record { keys_len = ap length first.0 ∙ length-prepared c.args.key.now; blocks_nonzero = omega (arith, c.put_id-end.ensures.value); blocks_in_bounds = omega (arith, c.put_id-end.ensures.value, c.put_id-end.auto.out); first_value = first.1 }

pub returns : goal.returns
returns c =
    let l = id-length c.args.time c.args.count c.args.challenge.now in
    let first = first_output c.args.key.now c.put_id-end.new.out c.requires.in_bounds (omega (arith, c.put_id-end.auto.out)) c.first_block.ensures c.unwrap-first.ensures in
    ciphered_of c.args.key.now (id_of c.args.time c.args.count c.args.challenge.now) (omega arith) first.0 c.put_id-end.ensures.out_after c.put_id-end.ensures.value c.chain.ensures c.cut_words.ensures
