use Rattle.std.proofs.Common.{sym, ◌∙◌}
use Rattle.desk.proofs.LoadLaws.{load-unfit, load_known, load_full, load-made, load-right, loaded-key-short, empty-within-table}
use Rattle.desk.proofs.loading.load.Goals as goal

pub returns-then-not-table_ok-load_ok : goal.returns-then-not-table_ok-load_ok
returns-then-not-table_ok-load_ok c = load-unfit _ _ _ _ c.table_ok.ensures c.load_ok.ensures c.if-not-table_ok-load_ok.true-raw

pub returns-then-is_some : goal.returns-then-is_some
returns-then-is_some c =
    load_known _ _ _ _ c.table_ok.ensures c.load_ok.ensures c.if-not-table_ok-load_ok.false-raw c.find_row.ensures (sym c.is_some.ensures ∙ c.if-is_some.true)

pub returns-in_default : goal.returns-in_default
returns-in_default c =
    load_full _ _ _ _ c.table_ok.ensures c.load_ok.ensures c.if-not-table_ok-load_ok.false-raw c.find_row.ensures (sym c.is_some.ensures ∙ c.if-is_some.false) c.find_empty.ensures c.in_default.is

pub loaded_row-requires : goal.loaded_row-requires
loaded_row-requires c =
    loaded-key-short _ _ (load-right _ _ c.table_ok.result c.load_ok.result c.if-not-table_ok-load_ok.false-raw c.load_ok.ensures)

pub write_row-requires : goal.write_row-requires
write_row-requires c = record { row_bytes_in_bounds = empty-within-table _ c.find_empty.ensures c.in-Some.is; key_len_bound = loaded-key-short _ _ (load-right _ _ c.table_ok.result c.load_ok.result c.if-not-table_ok-load_ok.false-raw c.load_ok.ensures) }

pub returns : goal.returns
returns c =
    load-made _ _ _ _ c.table_ok.ensures c.load_ok.ensures c.if-not-table_ok-load_ok.false-raw c.find_row.ensures (sym c.is_some.ensures ∙ c.if-is_some.false) c.find_empty.ensures c.in-Some.is c.loaded_row.ensures c.write_row.ensures
