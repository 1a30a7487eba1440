use Rattle.std.proofs.Common.{refl, arith}
use Rattle.otp.specs.StepLaws.{key-behind, key-shared, cuts_of}
use Rattle.otp.proofs.steps.hashed_cuts.Goals as goal

pub pad-requires : goal.pad-requires
pad-requires c = record { len_bound = omega (arith, c.put_bytes-at.ensures.value); m_value = key-behind c.args.key.now c.requires.key_len_bound c.put_bytes-at.ensures.value c.put_bytes-at.ensures.out_after }

pub returns : goal.returns
returns c =
    let key = c.args.key.now in
    let block = key-shared key c.requires.key_len_bound c.put_bytes-at.ensures.value c.put_bytes-at.ensures.out_after c.pad.ensures.value c.pad.ensures.m_after in
    cuts_of key (λ i. (c.type_inv.key i).fits) c.requires.key_len_bound c.args.timed c.args.s c.args.n _ _ _ c.requires.s_bound c.requires.n_bound refl c.put_bytes-at.ensures.value block
    c.put_steps.ensures c.add_block.ensures c.four_sums.ensures
