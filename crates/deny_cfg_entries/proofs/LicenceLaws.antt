-- Licence requirements that are read with their spans.
use Rattle.std.proofs.Common.{◌≡◌, List, [], ◌∷◌, Option, None, Some, map, sym, ap, subst}
use Rattle.std.specs.Prelude.{IsSomeAnd}
use Rattle.deny_base.specs.declared.span.Spanned.{Spanned}
use Rattle.deny_spdx.specs.Meaning.{requirement_in}
use Rattle.deny_spdx.specs.declared.requirement.Requirement.{Requirement}
use Rattle.deny_toml.specs.Calls.{array_in, value_at}
use Rattle.deny_toml.specs.Deserialize.{ReadsArray, ReadsEach}
use Rattle.deny_toml.specs.value.Value.{Value}
use Rattle.deny_cfg_entries.specs.Licence.{ReadsLicences, licence_requirement}
use Rattle.deny_cfg_entries.specs.Table.{Field, ReadAt, ReadsOr, ReadsThere, TableState}
use Rattle.deny_cfg_entries.specs.Words.{ReadsAs, ReadsList, ReadsSpanned}
use Rattle.deny_cfg_entries.specs.declared.licence.Licence.{Licence}

-- what is read as a part of a value, for each value of an array
each_mapped : {S T : Type 0} (Reads : Value → T → Type 0) (part : S → T) (vs : List Value) (xs : List S)
    → ReadsEach (λ v x. Reads v (part x)) vs xs → ReadsEach Reads vs (map part xs)
each_mapped Reads part [] [] reads = reads
each_mapped Reads part [] (x ∷ xs) reads = reads
each_mapped Reads part (v ∷ vs) [] reads = reads
each_mapped Reads part (v ∷ vs) (x ∷ xs) reads = (reads.0, each_mapped Reads part vs xs reads.1)

array_mapped : {S T : Type 0} (Reads : Value → T → Type 0) (part : S → T) (vs : Option (List Value)) (xs : List S)
    → ReadsArray (λ v x. Reads v (part x)) vs xs → ReadsArray Reads vs (map part xs)
array_mapped Reads part None xs reads = reads
array_mapped Reads part (Some vs) xs reads = each_mapped Reads part vs xs reads

-- what is read from a value as an array of the wrapper type
abbrev ReadsWrapped : Value → List (Spanned Licence) → Type 0
ReadsWrapped = ReadsList (ReadsSpanned (λ v (read : Licence). ReadsAs requirement_in v read.0))

unwrapped : (v : Value) (xs : List (Spanned Licence)) → ReadsWrapped v xs → ReadsLicences v (map licence_requirement xs)
unwrapped v xs reads = array_mapped (ReadsSpanned (ReadsAs requirement_in)) licence_requirement (array_in v) xs reads

unwrapped_or : (v : Option Value) (xs : List (Spanned Licence)) → ReadsOr [] ReadsWrapped v xs
    → ReadsOr [] ReadsLicences v (map licence_requirement xs)
unwrapped_or None xs reads = ap (map licence_requirement) reads
unwrapped_or (Some v) xs reads = unwrapped v xs reads

unwrapped_there : (v : Option Value) (xs : List (Spanned Licence)) → ReadsThere ReadsWrapped v xs
    → ReadsThere ReadsLicences v (map licence_requirement xs)
unwrapped_there None xs reads = reads
unwrapped_there (Some v) xs reads = unwrapped v xs reads

pub read_if_there : (f : Field) (s : TableState) (xs : List (Spanned Licence)) (ys : List (Spanned Requirement))
    → ys ≡ map licence_requirement xs → ReadAt f s (λ v. ReadsOr [] ReadsWrapped v xs)
    → ReadAt f s (λ v. ReadsOr [] ReadsLicences v ys)
read_if_there f s xs ys is read = record {
  says = λ none. subst (ReadsOr [] ReadsLicences _) (sym is) (unwrapped_or _ xs (read.says none));
}

pub read_there : (f : Field) (s : TableState) (found : Option (List (Spanned Licence))) (xs : List (Spanned Licence))
    (ys : List (Spanned Requirement)) → found ≡ Some xs → ys ≡ map licence_requirement xs
    → ReadAt f s (λ v. IsSomeAnd found (ReadsThere ReadsWrapped v))
    → ReadAt f s (λ v. IsSomeAnd (Some ys) (ReadsThere ReadsLicences v))
read_there f s found xs ys there is read = record {
  says = λ none. subst (ReadsThere ReadsLicences (value_at f.name s.entries)) (sym is)
      (unwrapped_there (value_at f.name s.entries) xs
      (subst (λ o. IsSomeAnd o (ReadsThere ReadsWrapped (value_at f.name s.entries))) there (read.says none)));
}
