-- What a file is by its first bytes: native code, a script, or no executable.
use Rattle.std.specs.Prelude.{ℕ, ◌||◌, ◌++◌, Bool, nat_lt, List, [], ◌∷◌, codes, length, take, Option, None, Some}
use Rattle.std.specs.Prelude.{option_map, if◌then◌else◌}
use Rattle.deny_build_file.specs.Script.{begins, interpreter_in}
use Rattle.deny_spec.specs.declared.package.ExecutableKind.{ExecutableKind}
use Rattle.deny_spec.specs.declared.package.ExecutableKind.TheVariants.{Native, Interpreted}
use Rattle.deny_spec.specs.declared.package.NativeKind.{NativeKind}
use Rattle.deny_spec.specs.declared.package.NativeKind.TheVariants.{Elf, Pe, Mach, Archive}

-- `7f 45 4c 46`
abbrev pub elf : List ℕ
elf = 127 ∷ codes "ELF"

-- `21 3c 61 72 63 68 3e 0a`
abbrev pub archive : List ℕ
archive = codes "!<arch>" ++ 10 ∷ []

-- Mach-O of 32 and 64 bits in either byte order, and universal files: `fe ed fa ce`, `ce fa ed fe`, `fe ed fa cf`,
-- `cf fa ed fe`, `ca fe ba be`
unfoldable pub is_mach : List ℕ → Bool
is_mach bytes = begins bytes (254 ∷ 237 ∷ 250 ∷ 206 ∷ []) || (begins bytes (206 ∷ 250 ∷ 237 ∷ 254 ∷ [])
    || (begins bytes (254 ∷ 237 ∷ 250 ∷ 207 ∷ []) || (begins bytes (207 ∷ 250 ∷ 237 ∷ 254 ∷ [])
    || begins bytes (202 ∷ 254 ∷ 186 ∷ 190 ∷ []))))

-- the format of native code with these first bytes
unfoldable pub native_kind : List ℕ → Option NativeKind
native_kind bytes =
    if begins bytes elf then Some Elf else
    (if begins bytes (codes "MZ") then Some Pe else
    (if is_mach bytes then Some Mach else
    (if begins bytes archive then Some Archive else None)))

-- an archive is no executable where archives are excluded
abbrev pub native_executable : Bool → NativeKind → Option ExecutableKind
native_executable exclude_archives Elf = Some (Native Elf)
native_executable exclude_archives Pe = Some (Native Pe)
native_executable exclude_archives Mach = Some (Native Mach)
native_executable exclude_archives Archive = if exclude_archives then None else Some (Native Archive)

-- native code by its format, or else a script by its interpreter
abbrev pub executable_by : Bool → Option NativeKind → Option (List ℕ) → Option ExecutableKind
executable_by exclude_archives (Some kind) interpreter = native_executable exclude_archives kind
executable_by exclude_archives None interpreter = option_map Interpreted interpreter

-- the kind of executable of the file at a path with these bytes; none where it is no executable, or has fewer than 16
-- bytes
unfoldable pub executable_in : Bool → List ℕ → List ℕ → Option ExecutableKind
executable_in exclude_archives path bytes =
    if nat_lt (length bytes) 16 then None
    else executable_by exclude_archives (native_kind (take 16 bytes)) (interpreter_in path bytes)
