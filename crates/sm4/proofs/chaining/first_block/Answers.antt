use Rattle.sm4.specs.Sm4.{sm4_of, encrypt_with, first_answer}
use Rattle.sm4.specs.EncryptLaws.{either_wrong, both_right}
use Rattle.sm4.proofs.chaining.first_block.Goals as goal

pub returns-then-key-block : goal.returns-then-key-block
unfolding first_answer
returns-then-key-block c = either_wrong _ _ _ c.if-key-block.true

pub returns : goal.returns
unfolding first_answer sm4_of encrypt_with
returns c = rw (c.output_words.ensures, c.sides_from-state.ensures.value, c.sides_from-state.ensures.keys_after, c.words_of.ensures) (both_right _ _ _ c.if-key-block.false)
