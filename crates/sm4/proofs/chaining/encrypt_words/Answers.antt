use borrow.Author.Tests.{eq-eqb, ne_eqb}
use Rattle.sm4.specs.Sm4.{encrypt_words_answer}
use Rattle.sm4.proofs.chaining.encrypt_words.Goals as goal

pub returns-then-keys-ne32 : goal.returns-then-keys-ne32
unfolding encrypt_words_answer
returns-then-keys-ne32 c = rw (ne_eqb _ 32 c.if-keys-ne32.true)

pub returns : goal.returns
unfolding encrypt_words_answer
returns c = rw (eq-eqb _ 32 c.if-keys-ne32.false, c.output_words.ensures, c.rounds.ensures)
