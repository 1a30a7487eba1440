use Rattle.std.proofs.Common.{◌≡◌, Some, None, arith}
use Rattle.message.specs.Writing.{not_written}
use Rattle.message.proofs.WriteLaws.{not_drafted, refused-short, written}
use Rattle.message.proofs.writing.write_message.Goals as goal

pub returns-in_err-draft : goal.returns-in_err-draft
returns-in_err-draft c =
    let none : c.of.result ≡ None = grind arith in
    let answer : c.from_residual.result ≡ not_written = grind arith in
    rw answer (not_drafted c.args.heading c.args.identifiers.now c.args.lengths.now c.args.contents.now c.args.out.now c.of.ensures none)

pub returns-then-out-end : goal.returns-then-out-end
returns-then-out-end c =
    let some : c.of.result ≡ Some c.in_ok-draft.draft = grind arith in
    refused-short c.args.heading c.args.identifiers.now c.args.lengths.now c.args.contents.now c.args.out.now c.of.ensures some (omega arith) (omega arith) c.len-end.ensures c.if-out-end.true

pub returns : goal.returns
returns c =
    let some : c.of.result ≡ Some c.in_ok-draft.draft = grind arith in
    written c.args.heading c.args.identifiers.now c.args.lengths.now c.args.contents.now c.args.out.now c.of.ensures some (omega arith) (omega arith) c.len-end.ensures c.if-out-end.false c.lay.ensures
