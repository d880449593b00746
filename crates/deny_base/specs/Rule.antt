-- The rules that can report errors, by where a policy writes them.

pub data Rule : Type 0 where
  -- bans, the allow list and several versions
  OnCrates : Rule
  OnWildcards : Rule
  OnFeatures : Rule
  OnDefaultFeatures : Rule
  OnWorkspaceDependencies : Rule
  OnStdReplacements : Rule
  OnBuildScripts : Rule
  OnPackageFiles : Rule
  OnLicenses : Rule
