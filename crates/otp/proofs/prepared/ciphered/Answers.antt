use Rattle.std.proofs.Common.{length, ap, ◌∙◌, arith}
use Rattle.otp.specs.Password.{id_of}
use Rattle.otp.specs.IdLaws.{id-length}
use Rattle.otp.specs.ChainLaws.{length-prepared, encrypted_ok, chain_first, ciphered_of}
use Rattle.otp.proofs.prepared.ciphered.Goals as goal

pub unwrap-first-requires : goal.unwrap-first-requires
unwrap-first-requires c = encrypted_ok c.args.keys.now _ (ap length c.requires.keys_value ∙ length-prepared c.args.key.now) c.encrypt_words.ensures

pub chain-requires : goal.chain-requires
chain-requires c = let l = id-length c.args.time c.args.count c.args.challenge.now in
    let k = ap length c.requires.keys_value ∙ length-prepared c.args.key.now in
    record { keys_len = k; blocks_nonzero = omega (arith, c.put_id-end.ensures.value); blocks_in_bounds = omega (arith, c.put_id-end.ensures.value, c.put_id-end.auto.out); first_value = chain_first c.args.keys.now c.put_id-end.new.out k c.words_of.ensures c.encrypt_words.ensures c.unwrap-first.ensures }

pub returns : goal.returns
returns c =
    let l = id-length c.args.time c.args.count c.args.challenge.now in
    ciphered_of _ (id_of c.args.time c.args.count c.args.challenge.now) (omega (arith, c.requires.challenge_len_bound)) c.requires.keys_value c.put_id-end.ensures.out_after c.put_id-end.ensures.value c.chain.ensures c.cut_words.ensures
