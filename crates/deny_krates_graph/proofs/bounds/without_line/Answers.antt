use Rattle.std.proofs.Common.{◌≡◌, ◌+◌, ap, ℕ, List, length, arith}
use Rattle.deny_krates_graph.specs.Bounds.{lock_line_length}
use Rattle.deny_krates_graph.specs.Crates.{crate_view}
use Rattle.deny_base_lists.proofs.Results.{if_ok_then}
use Rattle.deny_krates_graph.proofs.bounds.without_line.Goals as goal

pub returns : goal.returns
returns c =
    if_ok_then {Q = λ left. left + lock_line_length (crate_view 0 c.args.krate.now) ≡ c.args.room} c.without.result
    c.without.ensures
    (λ left is. omega (
      arith,
      is,
      c.in_ok-after_name.ensures,
      ap (λ (t : List ℕ). length t) c.as_str.ensures,
      c.in_ok-after_version.ensures,
      ap (λ (t : List ℕ). length t) c.as_str-2.ensures,
      ap (λ (t : List ℕ). length t) c.in_ok-version.ensures,
      c.in_ok-after_source.ensures,
      ap (λ (t : List ℕ). length t) c.source_or_folder.ensures,
    ))
