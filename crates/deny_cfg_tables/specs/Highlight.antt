-- The paths to the crates of a duplicate that are shown.
use Rattle.std.specs.Prelude.{ℕ, Bool, true, false, List, Option, None, Some, codes, if◌then◌else◌}
use Rattle.std.specs.Str.{bytes_eq}
use Rattle.deny_cfg_tables.specs.declared.bans.cfg.highlight.GraphHighlight.{GraphHighlight}
use Rattle.deny_cfg_tables.specs.declared.bans.cfg.highlight.GraphHighlight.TheVariants as highlight

unfoldable pub highlight_of : List ℕ → Option GraphHighlight
highlight_of text =
    if bytes_eq text (codes "simplest-path") then Some highlight.SimplestPath
    else if bytes_eq text (codes "lowest-version") then Some highlight.LowestVersion
    else if bytes_eq text (codes "all") then Some highlight.All
    else None

abbrev pub shows_simplest : GraphHighlight → Bool
shows_simplest highlight.SimplestPath = true
shows_simplest highlight.LowestVersion = false
shows_simplest highlight.All = true

abbrev pub shows_lowest : GraphHighlight → Bool
shows_lowest highlight.SimplestPath = false
shows_lowest highlight.LowestVersion = true
shows_lowest highlight.All = true
