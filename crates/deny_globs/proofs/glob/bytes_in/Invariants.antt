use Rattle.std.proofs.Common.{◌≡◌, ◌+◌, length, drop}
use Rattle.std.specs.Prelude.{encode_utf8_all}
use Rattle.deny_globs.proofs.glob.bytes_in.Given as goal

abbrev pub invariant-loop-character : goal.invariant-loop-character
invariant-loop-character l = l.bytes + length (encode_utf8_all (drop l.character-index l.characters))
    ≡ length (encode_utf8_all l.characters)
