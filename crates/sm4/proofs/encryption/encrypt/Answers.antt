use Rattle.sm4.specs.Sm4.{encrypt_with, encrypt_answer}
use Rattle.sm4.specs.EncryptLaws.{either_wrong, both_right}
use Rattle.sm4.proofs.encryption.encrypt.Goals as goal

pub returns-then-keys-block : goal.returns-then-keys-block
unfolding encrypt_answer
returns-then-keys-block c = either_wrong _ _ _ c.if-keys-block.true

pub returns : goal.returns
unfolding encrypt_answer encrypt_with
returns c = rw (c.reversed.ensures, c.rounds.ensures, c.words_of.ensures) (both_right _ _ _ c.if-keys-block.false)
