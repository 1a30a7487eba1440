use Rattle.text.specs.HexLaws.{hex_odd, hex_long, hex_wrong, hex-zeros, hex_done}
use Rattle.std.proofs.Common.{ap, ◌∙◌, arith, lit<}
use Rattle.std.specs.Prelude.{Some}
use Rattle.text.proofs.hexadecimal.hex.Goals as goal

pub returns-then-s-ne0 : goal.returns-then-s-ne0
returns-then-s-ne0 c = hex_odd c.args.s.now c.if-s-ne0.true

pub returns-then-s-gt64 : goal.returns-then-s-gt64
returns-then-s-gt64 c = hex_long c.args.s.now c.if-s-ne0.false c.if-s-gt64.true

pub returns-then-not-all_hex : goal.returns-then-not-all_hex
returns-then-not-all_hex c =
    hex_wrong c.args.s.now c.if-s-ne0.false c.if-s-gt64.false c.padded.ensures c.values_of-values.ensures c.all_hex.ensures c.if-not-all_hex.true-raw

pub new-requires : goal.new-requires
new-requires c =
    (lit< tt, (lit< tt, (omega arith, hex-zeros c.args.s.now c.if-s-ne0.false c.if-s-gt64.false c.padded.ensures c.values_of-values.ensures c.all_hex.ensures c.if-not-all_hex.false-raw c.pairs_of.ensures)))

pub returns : goal.returns
returns c =
    ap Some c.new.ensures ∙ hex_done c.args.s.now c.if-s-ne0.false c.if-s-gt64.false c.padded.ensures c.values_of-values.ensures c.all_hex.ensures c.if-not-all_hex.false-raw c.pairs_of.ensures
