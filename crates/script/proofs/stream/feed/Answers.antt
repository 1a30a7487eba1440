use Rattle.std.proofs.Common.{arith}
use Rattle.window.specs.PasswordAt.{password_at}
use Rattle.script.specs.Script.{stage_of}
use Rattle.script.specs.LineLaws.{piece_pending, piece_line}
use Rattle.script.proofs.stream.feed.Goals as goal

pub returns-then-found-piece-clause-follows : goal.returns-then-found-piece-clause-follows
returns-then-found-piece-clause-follows c =
    piece_pending password_at c.args.pending.now c.args.piece.now c.find-found.ensures.value c.extend.ensures
    (stage_of c.args.table.now) c.args.out.now c.args.at c.if-found-piece.true

pub returns-clause-follows : goal.returns-clause-follows
returns-clause-follows c =
    rw c.clear.ensures (piece_line password_at c.args.pending.now c.args.piece.now c.find-found.ensures.value c.extend.ensures
    (omega (arith, c.if-found-piece.false)) c.serve_pending-end.ensures.serves)
