use Rattle.std.proofs.Common.{◌≡◌, ◌∙◌, ℕ, List, None, Some, map, subst, sym}
use Rattle.deny_cfg_build.specs.Globs.{extension_text, patterns_at}
use Rattle.deny_base_lists.proofs.Results.{if_ok_then}
use Rattle.deny_build_scan.proofs.FittingLemmas.{all_read, fitting_matched, none_fitting, texts_given}
use Rattle.deny_build_scan.proofs.fitting.fitting_scripts.Goals as goal
use Rattle.deny_build_scan.specs.Globs.{AreFitting}

pub returns-then-len-eq0 : goal.returns-then-len-eq0
returns-then-len-eq0 c = none_fitting c.args.path.now c.args.globs.now.patterns c.new.result
    (sym c.len.ensures ∙ c.if-len-eq0.true) c.new.ensures

pub returns-in-Some : goal.returns-in-Some
returns-in-Some c = if_ok_then c.extension_texts.result c.extension_texts.ensures (λ texts is.
    let globs = c.args.globs.now in
    let found = c.in_ok-patterns.ensures in
    let gives : Some (map (λ p. p.now) c.in-Some.patterns.items) ≡ patterns_at globs.patterns
    c.matches.new.indices.items = rw c.in-Some.is at found.patterns in
    subst (λ (ts : List (List ℕ)). AreFitting c.args.path.now (map extension_text globs.patterns) ts)
    (sym (texts_given extension_text c.as_slice.result.now c.in-Some.patterns.items texts
    is c.as_slice.ensures.value))
    (fitting_matched extension_text c.args.path.now globs.patterns globs.set c.matches.new.indices.items
    (Some (map (λ p. p.now) c.in-Some.patterns.items))
    (all_read extension_text globs.patterns globs.set c.requires c.are_read.ensures) found.ascending found.exact gives))

pub returns-in-None : goal.returns-in-None
returns-in-None c =
    let globs = c.args.globs.now in
    let found = c.in_ok-patterns.ensures in
    let gives : None ≡ patterns_at globs.patterns c.matches.new.indices.items = rw c.in-None.is at found.patterns in
    subst (λ (ts : List (List ℕ)). AreFitting c.args.path.now (map extension_text globs.patterns) ts)
    (sym c.new-in-None.ensures)
    (fitting_matched extension_text c.args.path.now globs.patterns globs.set c.matches.new.indices.items None
    (all_read extension_text globs.patterns globs.set c.requires c.are_read.ensures) found.ascending found.exact gives)
