use Rattle.std.proofs.Common.{length}
use denote.Text.{Utf8}
use denote.Shadow.{shadow}
use Rattle.deny_spdx.specs.private.Reading.{IsReadTo}
use Rattle.deny_spdx.proofs.reading.read_tokens.Given as goal

abbrev pub invariant-loop-after : goal.invariant-loop-after
invariant-loop-after g l = shadow (Utf8 l.rest) × IsReadTo g.R.TokenReader.step l.fn.start l.text l.rest l.reader

abbrev pub decreases-loop-after : goal.decreases-loop-after
decreases-loop-after g l = length l.rest
