use Rattle.sm4.specs.Sm4.{keys_answer}
use Rattle.vectors.proofs.show_encrypted.Goals as goal

pub unwrap-keys-requires : goal.unwrap-keys-requires
unfolding keys_answer
unwrap-keys-requires g c = rw c.round_keys.ensures
