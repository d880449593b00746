-- What is read from an entry's table beside its spec depends on the values at its own keys alone.
use Rattle.std.specs.Prelude.{IsSomeAnd}
use Rattle.deny_cfg_entries.specs.Depends.{gives-depends, keys-depend, some-depends}
use Rattle.deny_cfg_entries.specs.Entry.{ReadsSome}
use Rattle.deny_cfg_entries.specs.Table.{DependsOn}
use Rattle.deny_cfg_tables.specs.Bans.{ReadsBan, ReadsTreeSkip, ban_fields, ban_keys, tree_skip_fields, tree_skip_keys}
use Rattle.deny_cfg_tables.specs.Build.{ReadsBypassKeys, bypass_fields, bypass_keys}
use Rattle.deny_cfg_tables.specs.Licenses.{ReadsExceptionKeys, exception_fields, exception_keys}
use Rattle.deny_cfg_tables.specs.Features.{ReadsFeatures, feature_fields, feature_keys}

pub ban-depends : DependsOn ban_fields (ReadsSome ban_fields ReadsBan)
ban-depends = some-depends ban_fields ReadsBan (keys-depend ban_keys)

pub tree_skip-depends : DependsOn tree_skip_fields (ReadsSome tree_skip_fields ReadsTreeSkip)
tree_skip-depends = some-depends tree_skip_fields ReadsTreeSkip (keys-depend tree_skip_keys)

pub bypass-depends : DependsOn bypass_fields (λ entries said. IsSomeAnd said (ReadsBypassKeys entries))
bypass-depends = gives-depends bypass_fields ReadsBypassKeys (keys-depend bypass_keys)

pub features-depend : DependsOn feature_fields ReadsFeatures
features-depend = keys-depend feature_keys

pub feature_lists-depend : DependsOn feature_fields (λ entries said. IsSomeAnd said (ReadsFeatures entries))
feature_lists-depend = gives-depends feature_fields ReadsFeatures features-depend

pub exception-depends : DependsOn exception_fields (λ entries said. IsSomeAnd said (ReadsExceptionKeys entries))
exception-depends = gives-depends exception_fields ReadsExceptionKeys (keys-depend exception_keys)
