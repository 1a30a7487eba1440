use Rattle.sm4.specs.Sm4.{sm4_of, encrypt_with, sm4_answer}
use Rattle.sm4.specs.EncryptLaws.{either_wrong, both_right}
use Rattle.sm4.proofs.sides.sm4.Goals as goal

pub returns-then-key-block : goal.returns-then-key-block
unfolding sm4_answer
returns-then-key-block c = either_wrong _ _ _ c.if-key-block.true

pub returns : goal.returns
unfolding sm4_answer sm4_of encrypt_with
returns c = rw (c.reversed.ensures, c.sides_from.ensures.value, c.words_of.ensures) (both_right _ _ _ c.if-key-block.false)
