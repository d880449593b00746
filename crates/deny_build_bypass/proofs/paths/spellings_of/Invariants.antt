use Rattle.std.proofs.Common.{◌≡◌, map, take}
use Rattle.deny_build_bypass.specs.private.Paths.{spelling_of}
use Rattle.deny_build_bypass.proofs.paths.spellings_of.Given as goal

abbrev pub invariant-loop-file : goal.invariant-loop-file
invariant-loop-file l = l.spellings ≡ map spelling_of (take l.file-index l.files)
