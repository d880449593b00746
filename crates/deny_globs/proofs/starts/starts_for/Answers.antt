use Rattle.std.proofs.Common.{◌∙◌}
use Rattle.deny_globs.proofs.StartLemmas.{found_starts}
use Rattle.deny_globs.proofs.starts.starts_for.Goals as goal

pub returns : goal.returns
returns c =
    found_starts c.args.starts.now c.args.path.now c.deref.result.now c.deref-2.result.now c.deref-3.result.now
    c.new-found.result.items c.find_prefixes.new.found.items c.find_prefixes-2.new.found.items c.new-found.ensures.items
    c.deref.ensures.value c.deref-2.ensures.value (c.deref-3.ensures.value ∙ c.in_ok-back.ensures)
    c.in_ok-find_prefixes.ensures c.in_ok-find_prefixes-2.ensures
