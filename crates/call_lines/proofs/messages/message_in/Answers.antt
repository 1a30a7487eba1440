use Rattle.std.proofs.Common.{sym, length-take-le}
use Rattle.std.proofs.lemmas.Result.{err_from_is_err_and}
use Rattle.call_lines.specs.GivenLaws.{option-given, option-refused}
use Rattle.call_lines.specs.LineLaws.{read_none, read_as}
use Rattle.call_lines.specs.MessageLineLaws.{message-wrong, message-read}
use Rattle.call_lines.proofs.messages.message_in.Goals as goal

pub returns-in_err-n : goal.returns-in_err-n
returns-in_err-n c =
    let p = err_from_is_err_and c.from_residual.result c.from_residual.ensures.1 in
    let refused = option-refused c.hex_into.result c.ok_or.ensures.value (c.in_err-n.was) in
    rw (p.1, p.2, refused.1) (read_none _ _ (message-wrong _ _ c.hex_into.ensures c.requires refused.0))

pub slice_bounds-bytes-end : goal.slice_bounds-bytes-end
slice_bounds-bytes-end c =
    let n = option-given c.hex_into.result c.ok_or.ensures.value (c.in_ok-n.was) in
    (message-read _ c.args.clock.0 c.hex_into.ensures n).1

pub slice_bounds-serve_message-end : goal.slice_bounds-serve_message-end
slice_bounds-serve_message-end c =
    let n = option-given c.hex_into.result c.ok_or.ensures.value (c.in_ok-n.was) in
    sym (length-take-le c.in_ok-n.n c.hex_into.new.out (message-read _ c.args.clock.0 c.hex_into.ensures n).1)

pub returns : goal.returns
returns c =
    let n = option-given c.hex_into.result c.ok_or.ensures.value (c.in_ok-n.was) in
    read_as _ _ c.serve_message.ensures (message-read _ _ c.hex_into.ensures n).0
