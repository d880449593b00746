use Rattle.std.proofs.Common.{◌≡◌, false, drop}
use Rattle.std.specs.Str.{IsCharBoundary}
use Rattle.deny_toml_grammar.specs.Lexical.{skip_from}
use Rattle.deny_toml_grammar.proofs.lexical.skip_blank.Given as goal

abbrev pub invariant-bytes : goal.invariant-bytes
invariant-bytes l =
    (skip_from l.comments l.inside (drop l.at l.text) ≡ skip_from l.comments false l.text)
    × (l.inside ≡ false → IsCharBoundary l.text l.at)
