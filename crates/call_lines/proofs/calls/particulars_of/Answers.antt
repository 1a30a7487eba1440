use Rattle.std.proofs.Common.{rules}
use Rattle.call_lines.specs.Line.{particulars_of}
use Rattle.call_lines.proofs.calls.particulars_of.Goals as goal

pub returns-in_err-byte_at : goal.returns-in_err-byte_at
unfolding particulars_of
returns-in_err-byte_at c = search rules

pub returns-in_err-byte_at-2 : goal.returns-in_err-byte_at-2
unfolding particulars_of
returns-in_err-byte_at-2 c = search rules

pub returns-in_err-byte_at-3 : goal.returns-in_err-byte_at-3
unfolding particulars_of
returns-in_err-byte_at-3 c = search rules

pub returns-in_err-byte_at-4 : goal.returns-in_err-byte_at-4
unfolding particulars_of
returns-in_err-byte_at-4 c = search rules

pub returns-in_err-byte_at-5 : goal.returns-in_err-byte_at-5
unfolding particulars_of
returns-in_err-byte_at-5 c = search rules

pub returns-in_err-word_at : goal.returns-in_err-word_at
unfolding particulars_of
returns-in_err-word_at c = search rules

pub returns : goal.returns
unfolding particulars_of
returns c = search rules
