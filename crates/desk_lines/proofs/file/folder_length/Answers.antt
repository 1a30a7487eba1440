use Rattle.std.proofs.lemmas.Str.{IsCharBoundary-start}
use Rattle.desk_lines.proofs.file.folder_length.Goals as goal

pub returns-in-None-clause-boundary : goal.returns-in-None-clause-boundary
returns-in-None-clause-boundary c = IsCharBoundary-start c.args.path.now c.utf8.path
