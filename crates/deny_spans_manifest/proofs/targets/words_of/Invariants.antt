use Rattle.std.proofs.Common.{◌≡◌, map, take}
use Rattle.deny_spans_manifest.specs.private.Targets.{word_of}
use Rattle.deny_spans_manifest.proofs.targets.words_of.Given as goal

abbrev pub invariant-loop-token : goal.invariant-loop-token
invariant-loop-token l = l.words ≡ map word_of (take l.token-index l.tokens)
