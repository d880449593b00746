-- The faults of a table `build`: of its extensions, paths and globs.
use Rattle.std.specs.Prelude.{◌≡◌, ◌+◌, ◌-◌, ◌++◌, ◌&&◌, ◌==◌, ◌⊎◌, ℕ, Bool, false, not, List, [], ◌∷◌, Option, None}
use Rattle.std.specs.Prelude.{Some, Contains, drop, filter_map, length, nat_le, option_map, take, if◌then◌else◌}
use Rattle.std.specs.Char.{is_ascii, is_ascii_alphanumeric}
use Rattle.std.specs.List.{flat_map, list_all, position}
use Rattle.deny_base.specs.declared.span.Span.{Span}
use Rattle.deny_globs.specs.Faults.{IsBadAt}
use Rattle.deny_spec.specs.Policy.{SpannedText}
use Rattle.deny_spec.specs.Text.{same_text}
use Rattle.deny_cfg_tables.specs.declared.bans.cfg.build.BuildConfig.{BuildConfig}
use Rattle.deny_cfg_tables.specs.declared.bans.cfg.bypass.Bypass.{Bypass}
use Rattle.deny_cfg_tables.specs.declared.bans.cfg.bypass.BypassPath.{BypassPath}
use Rattle.deny_cfg_build.specs.Build.{listed}
use Rattle.deny_cfg_build.specs.declared.wrong.BuildFault.{BuildFault}
use Rattle.deny_cfg_build.specs.declared.wrong.BuildFault.TheVariants as fault

-- the bytes at a span; none where the span is not within the text
abbrev pub bytes_at : List ℕ → Span → List ℕ
bytes_at source span = if nat_le span.start span.end && nat_le span.end (length source)
    then take (span.end - span.start) (drop span.start source)
    else []

-- the length of the line end that the bytes begin with
abbrev pub line_end : List ℕ → ℕ
line_end [] = 0
line_end (b ∷ []) = if b == 10 then 1 else 0
line_end (b ∷ c ∷ bytes) = if b == 10 then 1 else if (b == 13) && (c == 10) then 2 else 0

-- the text that a string without escapes writes: a line end at the very start of a multi-line string is no part of it
abbrev pub written_at : List ℕ → Span → List ℕ
written_at source span = drop (line_end (bytes_at source span)) (bytes_at source span)

-- the span of the byte at an offset into a span
abbrev pub byte_span : Span → ℕ → Span
byte_span span offset = record { start = span.start + offset; end = span.start + offset + 1 }

-- the span of the byte at an offset of an extension; that of the whole extension where it is written with escapes
abbrev pub bad_span : List ℕ → SpannedText → ℕ → Span
bad_span source extension at =
    if same_text extension.value (written_at source extension.span)
    then byte_span extension.span (line_end (bytes_at source extension.span) + at)
    else extension.span

abbrev pub is_ascii_text : List ℕ → Bool
is_ascii_text text = list_all is_ascii text

-- the offset of the first byte that is neither an ASCII letter nor a digit
abbrev pub bad_at : List ℕ → Option ℕ
bad_at text = position (λ b. not (is_ascii_alphanumeric b)) text

unfoldable pub extension_fault : List ℕ → SpannedText → Option BuildFault
extension_fault source extension = if not (is_ascii_text extension.value)
    then Some (fault.NonAscii extension.span)
    else option_map (λ at. fault.NoLetter extension.span (bad_span source extension at)) (bad_at extension.value)

abbrev pub is_absolute : List ℕ → Bool
is_absolute [] = false
is_absolute (b ∷ bytes) = b == 47

unfoldable pub path_fault : BypassPath → Option BuildFault
path_fault file = if is_absolute file.path.value then Some (fault.Absolute file.path.span) else None

unfoldable pub path_faults : Bypass → List BuildFault
path_faults bypass = filter_map path_fault bypass.allow

-- the faults that the texts of extensions and paths have
unfoldable pub faults_by_text : List ℕ → BuildConfig → List BuildFault
faults_by_text source build = filter_map (extension_fault source) (listed build.script_extensions)
    ++ flat_map path_faults (listed build.bypass)

-- a text is no glob, and this is its fault
pub record IsGlobFaultOf (glob : SpannedText) (found : BuildFault) : Type 0 where
  pub byte : ℕ
  pub bad : IsBadAt glob.value byte
  pub is : found ≡ fault.Glob glob.span byte

-- one of these items has this fault
abbrev pub IsOfAny : {X T : Type 0} → (X → T → Type 0) → List X → T → Type 0
IsOfAny {X} Is xs found = (x : X) × (Contains xs x × Is x found)

-- a glob of an entry of `bypass` has this fault
abbrev pub IsGlobFault : Bypass → BuildFault → Type 0
IsGlobFault bypass found = IsOfAny IsGlobFaultOf (listed bypass.allow_globs) found

-- a table that is written in the text has this fault
abbrev pub IsWrong : List ℕ → BuildConfig → BuildFault → Type 0
IsWrong source build found =
    Contains (faults_by_text source build) found ⊎ IsOfAny IsGlobFault (listed build.bypass) found
