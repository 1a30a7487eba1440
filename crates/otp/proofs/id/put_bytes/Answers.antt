use Rattle.std.proofs.Common.{refl}
use Rattle.words.specs.PutLaws.{put-part}
use Rattle.otp.proofs.id.put_bytes.Goals as goal

pub returns : goal.returns
returns c = record { value = refl; out_after = put-part c.args.out.now c.args.at c.args.part.now (c.requires) c.copy.ensures }
