use Rattle.std.proofs.Common.{rules, tests, ◌∙◌}
use Rattle.std.proofs.lemmas.Iterator.{YieldsList-from_slice}
use Rattle.std.proofs.lemmas.Iterator.Search.{find_from_yields_List}
use Rattle.words.specs.Lists.{same_bytes}
use Rattle.call_lines.specs.Line.{text_of, names, name_of}
use Rattle.call_lines.proofs.names.name_of.Goals as goal

pub returns : goal.returns
unfolding name_of
returns c =
    c.copied.ensures
    ∙ find_from_yields_List (λ name. same_bytes c.args.field.now (text_of name)) _ _ c.find.result c.find.ensures.ran (YieldsList-from_slice names cc)
    (λ x b q k. search (rules, tests))
