use Rattle.std.proofs.Common.{rules}
use Rattle.desk_lines.specs.FileLaws.{file_read, no_table, table_read}
use Rattle.desk_lines.proofs.file.read_table.Goals as goal

pub returns-then-got-len-clause-value : goal.returns-then-got-len-clause-value
returns-then-got-len-clause-value g c =
    let known = g.F.Read.remaining c.args.file.now in
    let rest = g.F.Read.remaining c.read_full.new.file in
    let after = g.F.Read.remaining c.read.new.self in
    let len = c.in_ok-len.ensures in
    let got = c.in_ok-got.ensures in
    no_table known rest after
    (file_read known rest after c.read.new.buf (search rules) len.upper_bound len.taken len.end (search rules) got.bound.1 got.bytes.0 got.bytes.1)
    c.if-got-len.true

pub returns-clause-value : goal.returns-clause-value
returns-clause-value g c =
    let known = g.F.Read.remaining c.args.file.now in
    let rest = g.F.Read.remaining c.read_full.new.file in
    let after = g.F.Read.remaining c.read.new.self in
    let len = c.in_ok-len.ensures in
    let got = c.in_ok-got.ensures in
    table_read known rest after
    (file_read known rest after c.read.new.buf (search rules) len.upper_bound len.taken len.end (search rules) got.bound.1 got.bytes.0 got.bytes.1)
    c.if-got-len.false
