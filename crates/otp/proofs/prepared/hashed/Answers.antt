use Rattle.std.proofs.Common.{arith}
use Rattle.otp.specs.Password.{id_of}
use Rattle.otp.specs.IdLaws.{id-length}
use Rattle.otp.specs.HashedLaws.{laid-room, laid-behind, hashed_of}
use Rattle.otp.proofs.prepared.hashed.Goals as goal

pub hash_sum-requires : goal.hash_sum-requires
hash_sum-requires c = let l = id-length c.args.time c.args.count c.args.challenge.now in
    let id = id_of c.args.time c.args.count c.args.challenge.now in
    let room = laid-room c.args.key.now id c.requires.key_len_bound (omega arith) c.put_bytes-at.ensures.value c.put_bytes-at.ensures.out_after c.put_id-end.ensures.value c.put_id-end.ensures.out_after in
    let behind = laid-behind c.args.key.now id c.requires.key_len_bound (omega arith) c.put_bytes-at.ensures.value c.put_bytes-at.ensures.out_after c.put_id-end.ensures.value c.put_id-end.ensures.out_after in
    record { len_bound = room; m_value = behind }

pub returns : goal.returns
returns c =
    let l = id-length c.args.time c.args.count c.args.challenge.now in
    let id = id_of c.args.time c.args.count c.args.challenge.now in
    hashed_of c.args.key.now id c.requires.key_len_bound (omega arith) c.put_bytes-at.ensures.value c.put_bytes-at.ensures.out_after c.put_id-end.ensures.value c.put_id-end.ensures.out_after c.hash_sum.ensures
