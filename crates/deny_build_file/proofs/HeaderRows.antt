-- Worked cases: what files are by their first bytes.
use Rattle.std.proofs.Common.{◌≡◌, ℕ, true, false, List, [], ◌∷◌, ◌++◌, replicate, codes, Option, None, Some, refl}
use Rattle.deny_build_file.specs.Header.{executable_in, native_kind, is_mach, elf, archive}
use Rattle.deny_build_file.specs.Script.{interpreter_in, interpreter_of_text, first_line, named_by, named_past_env}
use Rattle.deny_build_file.specs.Script.{last_part, is_rust_path}
use Rattle.deny_spec.specs.declared.package.ExecutableKind.{ExecutableKind}
use Rattle.deny_spec.specs.declared.package.ExecutableKind.TheVariants.{Native}
use Rattle.deny_spec.specs.declared.package.NativeKind.TheVariants.{Elf, Pe, Mach, Archive}

-- the file is `/p/run`
abbrev run : List ℕ → Option ExecutableKind
run bytes = executable_in true (codes "/p/run") bytes

-- the bytes, followed by others
abbrev behind : List ℕ → ℕ → List ℕ
behind prefix count = prefix ++ replicate count 0

fifteen_bytes : run (behind elf 11) ≡ None
unfolding executable_in
fifteen_bytes = refl

fifteen_bytes_of_a_script : run (codes "#!/bin/sh" ++ 10 ∷ codes "echo1") ≡ None
unfolding executable_in
fifteen_bytes_of_a_script = refl

elf_of_sixteen_bytes : run (behind elf 12) ≡ Some (Native Elf)
unfolding executable_in native_kind
elf_of_sixteen_bytes = refl

pe : run (behind (codes "MZ") 14) ≡ Some (Native Pe)
unfolding executable_in native_kind
pe = refl

pe_after_other_bytes : run (behind (32 ∷ codes "MZ") 14) ≡ None
unfolding executable_in native_kind is_mach interpreter_in
pe_after_other_bytes = refl

mach : run (behind (254 ∷ 237 ∷ 250 ∷ 206 ∷ []) 12) ≡ Some (Native Mach)
unfolding executable_in native_kind is_mach
mach = refl

mach_of_64_bits_turned : run (behind (207 ∷ 250 ∷ 237 ∷ 254 ∷ []) 12) ≡ Some (Native Mach)
unfolding executable_in native_kind is_mach
mach_of_64_bits_turned = refl

mach_of_several : run (behind (202 ∷ 254 ∷ 186 ∷ 190 ∷ []) 12) ≡ Some (Native Mach)
unfolding executable_in native_kind is_mach
mach_of_several = refl

an_archive_excluded : run (behind archive 8) ≡ None
unfolding executable_in native_kind is_mach
an_archive_excluded = refl

an_archive : executable_in false (codes "/p/a.a") (behind archive 8) ≡ Some (Native Archive)
unfolding executable_in native_kind is_mach
an_archive = refl

an_interpreter : interpreter_of_text (codes "/p/run") (codes "#!/bin/sh") ≡ Some (codes "sh")
unfolding named_by named_past_env last_part
an_interpreter = refl

by_env : interpreter_of_text (codes "/p/run") (codes "#!/usr/bin/env python3 -u") ≡ Some (codes "python3")
unfolding named_by named_past_env last_part
by_env = refl

by_env_without_name : interpreter_of_text (codes "/p/run") (codes "#!/usr/bin/env") ≡ None
unfolding named_by named_past_env last_part
by_env_without_name = refl

behind_a_space : interpreter_of_text (codes "/p/run") (codes "#! /bin/bash -e") ≡ Some (codes "bash")
unfolding named_by named_past_env last_part
behind_a_space = refl

-- each space ends a part, so between two spaces there is an empty one
behind_two_spaces : interpreter_of_text (codes "/p/run") (codes "#!  /bin/bash") ≡ Some []
unfolding named_by named_past_env last_part
behind_two_spaces = refl

no_interpreter : interpreter_of_text (codes "/p/run") (codes "#!") ≡ None
unfolding named_by named_past_env last_part
no_interpreter = refl

without_a_folder : interpreter_of_text (codes "/p/run") (codes "#! sh") ≡ Some (codes "sh")
unfolding named_by named_past_env last_part
without_a_folder = refl

attribute_of_a_source : interpreter_of_text (codes "/p/a.rs") (codes "#![no_std]") ≡ None
unfolding is_rust_path last_part
attribute_of_a_source = refl

-- the name `.rs` alone is not that of a source file
attribute_elsewhere : interpreter_of_text (codes "/p/.rs") (codes "#![no_std]") ≡ Some (codes "#![no_std]")
unfolding is_rust_path named_by named_past_env last_part
attribute_elsewhere = refl

script_of_a_source : interpreter_of_text (codes "/p/a.rs") (codes "#!/bin/run") ≡ Some (codes "run")
unfolding named_by named_past_env last_part
script_of_a_source = refl

no_newline : run (codes "#!/bin/sh -e -x -v") ≡ None
unfolding executable_in native_kind is_mach interpreter_in first_line
no_newline = refl

-- the newline is the last of 255 bytes, of 256 bytes, and of 257
line_of_255_bytes : first_line (replicate 254 97 ++ 10 ∷ []) ≡ Some (replicate 254 97)
unfolding first_line
line_of_255_bytes = refl

line_of_256_bytes : first_line (replicate 255 97 ++ 10 ∷ []) ≡ Some (replicate 255 97)
unfolding first_line
line_of_256_bytes = refl

line_of_257_bytes : first_line (replicate 256 97 ++ 10 ∷ []) ≡ None
unfolding first_line
line_of_257_bytes = refl
