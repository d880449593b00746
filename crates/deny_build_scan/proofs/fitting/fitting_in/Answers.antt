use Rattle.std.proofs.Common.{◌≡◌, ℕ, List, None, Some, map, subst, sym}
use Rattle.deny_cfg_build.specs.Globs.{own_text, patterns_at}
use Rattle.deny_base_lists.proofs.Results.{if_ok_then}
use Rattle.deny_build_scan.proofs.FittingLemmas.{all_read, fitting_matched, own_values, texts_given}
use Rattle.deny_build_scan.proofs.fitting.fitting_in.Goals as goal
use Rattle.deny_build_scan.specs.Globs.{AreFitting}

pub returns-in-Some : goal.returns-in-Some
returns-in-Some c = if_ok_then c.own_texts.result c.own_texts.ensures (λ texts is.
    let globs = c.args.globs.now in
    let found = c.in_ok-patterns.ensures in
    let gives : Some (map (λ p. p.now) c.in-Some.patterns.items) ≡ patterns_at globs.patterns
    c.matches.new.indices.items = rw c.in-Some.is at found.patterns in
    subst (λ (gs : List (List ℕ)). AreFitting c.args.path.now gs texts)
    (sym (own_values globs.patterns))
    (subst (λ (ts : List (List ℕ)). AreFitting c.args.path.now (map own_text globs.patterns) ts)
    (sym (texts_given own_text c.as_slice.result.now c.in-Some.patterns.items texts
    is c.as_slice.ensures.value))
    (fitting_matched own_text c.args.path.now globs.patterns globs.set c.matches.new.indices.items
    (Some (map (λ p. p.now) c.in-Some.patterns.items))
    (all_read own_text globs.patterns globs.set c.requires c.are_read.ensures) found.ascending found.exact gives)))

pub returns-in-None : goal.returns-in-None
returns-in-None c =
    let globs = c.args.globs.now in
    let found = c.in_ok-patterns.ensures in
    let gives : None ≡ patterns_at globs.patterns c.matches.new.indices.items = rw c.in-None.is at found.patterns in
    subst (λ (gs : List (List ℕ)). AreFitting c.args.path.now gs c.new.result) (sym (own_values globs.patterns))
    (subst (λ (ts : List (List ℕ)). AreFitting c.args.path.now (map own_text globs.patterns) ts) (sym c.new.ensures)
    (fitting_matched own_text c.args.path.now globs.patterns globs.set c.matches.new.indices.items None
    (all_read own_text globs.patterns globs.set c.requires c.are_read.ensures) found.ascending found.exact gives))
