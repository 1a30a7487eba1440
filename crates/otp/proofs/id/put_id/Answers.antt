use Rattle.std.proofs.Common.{arith}
use Rattle.otp.specs.IdLaws.{put_id, factor_length}
use Rattle.otp.proofs.id.put_id.Goals as goal

pub put_factor-after_count-requires : goal.put_factor-after_count-requires
put_factor-after_count-requires c =
    omega (arith, c.put_factor-after_time.ensures.value, factor_length 8 c.args.time, c.put_factor-after_time.auto.out)

pub put_bytes-end-requires : goal.put_bytes-end-requires
put_bytes-end-requires c =
    omega (arith, c.put_factor-after_time.ensures.value, factor_length 8 c.args.time, c.put_factor-after_time.auto.out, c.put_factor-after_count.ensures.value, factor_length 4 c.args.count, c.put_factor-after_count.auto.out)

pub returns : goal.returns
returns c = let all = put_id c.args.out.now c.args.at c.args.time c.args.count c.args.challenge.now c.requires.at_in_bounds c.requires.challenge_len_bound c.put_factor-after_time.ensures.value c.put_factor-after_time.ensures.out_after c.put_factor-after_count.ensures.value c.put_factor-after_count.ensures.out_after c.put_bytes-end.ensures.value c.put_bytes-end.ensures.out_after in
    record { value = omega (arith, all.0, c.max.ensures); out_after = all.1 }
