-- The note of a replaced crate, item by item.
use Rattle.std.specs.Prelude.{◌++◌, ◌==◌, ℕ, Bool, true, false, List, [], ◌∷◌, codes, if◌then◌else◌}
use Rattle.deny_std_table.specs.Spelling.{ApiText, ReplacementText}
use Rattle.deny_std_table.specs.Texts.{ItemText, Stable, Unavailable, Unstable}
use Rattle.deny_spec_report.specs.StdReplacements.{line, link, remark, unavailable_line, version_line}
use Rattle.deny_std.specs.declared.note.Heading.{Heading}
use Rattle.deny_std.specs.declared.note.Heading.TheVariants as heading

abbrev pub heading_of : ItemText → Heading
heading_of (Stable r minor) = heading.Version minor
heading_of (Unstable r) = heading.Unstable
heading_of (Unavailable api) = heading.Unavailable

abbrev pub same_heading : Heading → Heading → Bool
same_heading (heading.Version minor) (heading.Version other) = minor == other
same_heading heading.Unstable heading.Unstable = true
same_heading heading.Unavailable heading.Unavailable = true
same_heading one other = false

abbrev pub heading_line : Heading → List ℕ
heading_line (heading.Version minor) = version_line minor
heading_line heading.Unstable = line (codes "## Unstable")
heading_line heading.Unavailable = line (codes "## Unavailable")

-- a heading is written where it differs from the last one
abbrev pub new_heading : Heading → Heading → List ℕ
new_heading heading last = if same_heading heading last then [] else heading_line heading

-- a letter of a name in code: `_` for `-`
abbrev pub code_letter : ℕ → ℕ
code_letter letter = if letter == 45 then 95 else letter

-- the line of a link: a sign, a crate's name in code, a divider and an API
abbrev pub link_line : List ℕ → List ℕ → List ℕ → ApiText → List ℕ
link_line sign code divider api =
    line (sign ++ (code ++ (divider ++ (api.name ++ (codes "](" ++ (api.url ++ codes ")"))))))

-- the lines of a replacement: the crate's API crossed out for that of the standard library
abbrev pub replaced_lines : List ℕ → ReplacementText → List ℕ
replaced_lines code r =
    line (codes "```diff")
    ++ (link (codes "-") (code ++ codes "::") r.krate
    ++ (link (codes "+") [] r.std
    ++ (line (codes "```") ++ (line [] ++ remark r.note))))

abbrev pub item_lines : List ℕ → List ℕ → ItemText → List ℕ
item_lines name code (Stable r minor) = replaced_lines code r
item_lines name code (Unstable r) = replaced_lines code r
item_lines name code (Unavailable api) = unavailable_line name api

-- the lines of items below a heading; each new heading comes before its first item
abbrev pub lines_below : List ℕ → List ℕ → Heading → List ItemText → List ℕ
lines_below name code last [] = []
lines_below name code last (item ∷ items) =
    new_heading (heading_of item) last
    ++ (item_lines name code item ++ lines_below name code (heading_of item) items)
