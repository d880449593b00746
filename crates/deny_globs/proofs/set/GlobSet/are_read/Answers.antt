use Rattle.std.proofs.Common.{All, slice_index_or, subst}
use Rattle.std.proofs.lemmas.Option.{slice_get-get_or}
use Rattle.deny_globs.proofs.Once.{glob_once}
use Rattle.deny_globs.proofs.set.GlobSet.are_read.Goals as goal
use Rattle.deny_globs.specs.Patterns.{characters_of, tokens_of}
use Rattle.deny_globs.specs.Sets.{IsRead}

pub returns : goal.returns
returns c = subst (All IsRead) c.self.view_is (λ k default inside.
    let glob = slice_index_or c.self.inside.globs k default in
    let tokens = c.self.invariant.1.globs_are k glob (slice_get-get_or c.self.inside.globs k default inside) in
    record {
      tokens = tokens;
      only = λ other is. glob_once (characters_of glob) (tokens_of glob) other tokens is;
    })
