use Rattle.std.proofs.lemmas.Str.{IsCharBoundary-start}
use Rattle.deny_toml.proofs.parser.boundary.Goals as goal

pub returns-else-is_char_boundary : goal.returns-else-is_char_boundary
returns-else-is_char_boundary c = IsCharBoundary-start c.args.text.now c.utf8.text
