use Rattle.std.proofs.Common.{◌≡◌, ◌∙◌, sym, ◌&&◌, leb, rules}
use Rattle.script.specs.RowsLaws.{some-tested, rows-other, rows_numbered}
use Rattle.script.proofs.rows.rows_of.Goals as goal

pub returns-in_err-strip_prefix-clause-value : goal.returns-in_err-strip_prefix-clause-value
returns-in_err-strip_prefix-clause-value c =
    c.from_residual.ensures ∙ sym (rows-other c.args.line.now c.requires c.in_err-strip_prefix.ensures.cases)

pub returns-in_err-rows-clause-value : goal.returns-in_err-rows-clause-value
returns-in_err-rows-clause-value c =
    let digits = c.in_ok-strip_prefix.ensures.cases in
    rw (
      c.from_residual-in_err-rows.ensures,
      rows_numbered c.args.line.now c.requires digits.0,
      ← digits.1,
      ← c.decimal.ensures,
      c.in_err-rows.was,
    )

pub returns-clause-value : goal.returns-clause-value
returns-clause-value c =
    let digits = c.in_ok-strip_prefix.ensures.cases in
    let rows = c.in_ok-rows.rows in
    let within : c.contains.result ≡ (leb 1 rows && leb rows 256) = search rules in
    c.then_some.ensures
    ∙ some-tested c.contains.result rows
    ∙ rw (within, rows_numbered c.args.line.now c.requires digits.0, ← digits.1, ← c.decimal.ensures, c.in_ok-rows.was)
