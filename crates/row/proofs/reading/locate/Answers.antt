use Rattle.std.specs.Prelude.{◌≡◌, None, Some}
use Rattle.std.proofs.Common.{sym, ◌∙◌, arith}
use Rattle.std.proofs.lemmas.Result.{err_from_is_err_and}
use Rattle.row.specs.declared.reading.Unserved.TheVariants.{Unknown}
use Rattle.row.specs.FoundLaws.{found_within}
use Rattle.row.specs.LocateLaws.{not_found, out_of_range, key-within, zeros_lacking, row-formed}
use Rattle.row.proofs.reading.locate.Goals as goal
use Rattle.row.proofs.reading.locate.Goals.{then-numbers_ok, else-numbers_ok}

pub returns-in_err-at : goal.returns-in_err-at
returns-in_err-at c =
    let none : c.find_row.result ≡ None = grind arith in
    let is_unknown : c.in_err-at.field-0.0 ≡ Unknown = cc (rw none at c.ok_or.ensures.value, c.in_err-at.was) in
    let p = err_from_is_err_and c.from_residual.result c.from_residual.ensures.1 in
    rw (p.1, p.2, is_unknown) (not_found _ _ _ _ c.find_row.ensures none)

pub row_at-row-requires : goal.row_at-row-requires
row_at-row-requires c =
    let here : c.find_row.result ≡ Some c.in_ok-at.at = grind arith in
    found_within _ _ _ c.requires.long _ (sym c.find_row.ensures ∙ here)

pub zeros_ok-requires-clause-row_bytes_in_bounds : goal.zeros_ok-requires-clause-row_bytes_in_bounds
zeros_ok-requires-clause-row_bytes_in_bounds c =
    let here : c.find_row.result ≡ Some c.in_ok-at.at = grind arith in
    found_within _ _ _ c.requires.long _ (sym c.find_row.ensures ∙ here)

pub zeros_ok-requires-clause-at_bound : goal.zeros_ok-requires-clause-at_bound
zeros_ok-requires-clause-at_bound c =
    let here : c.find_row.result ≡ Some c.in_ok-at.at = grind arith in
    key-within _ _ _ _ c.find_row.ensures _ here c.row_at-row.ensures c.numbers_ok.ensures c.if-numbers_ok.true

pub returns-then-not-zeros_ok : goal.returns-then-not-zeros_ok
returns-then-not-zeros_ok c =
    let here : c.find_row.result ≡ Some c.in_ok-at.at = grind arith in
    elim c.if-numbers_ok.branch [ then-numbers_ok w ↦ zeros_lacking _ _ _ _ c.find_row.ensures _ here c.row_at-row.ensures c.numbers_ok.ensures w.if-numbers_ok.true w.zeros_ok.ensures (sym w.value-is ∙ c.if-not-zeros_ok.true) | else-numbers_ok w ↦ out_of_range _ _ _ _ c.find_row.ensures _ here c.row_at-row.ensures c.numbers_ok.ensures w.if-numbers_ok.false ]

pub returns : goal.returns
returns c =
    let here : c.find_row.result ≡ Some c.in_ok-at.at = grind arith in
    elim c.if-numbers_ok.branch [ then-numbers_ok w ↦ row-formed _ _ _ _ c.find_row.ensures _ here c.row_at-row.ensures c.numbers_ok.ensures w.if-numbers_ok.true w.zeros_ok.ensures (sym w.value-is ∙ c.if-not-zeros_ok.false) | else-numbers_ok w ↦ cc ]
