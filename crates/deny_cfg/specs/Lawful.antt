-- The spans that tell the entries of a policy apart: no two of them are equal.
use Rattle.std.specs.Prelude.{◌≢◌, List, [], AllPairs, map}
use Rattle.deny_base.specs.declared.span.Span.{Span}
use Rattle.deny_cfg.specs.LabelSpans.{of_some, spans_by, word_spans}
use Rattle.deny_cfg.specs.declared.bans.cfg.valid.KrateBan.{KrateBan}
use Rattle.deny_cfg.specs.declared.bans.cfg.valid.ValidConfig.{ValidConfig}
use Rattle.deny_cfg_tables.specs.declared.licenses.config.Config.{Config}

-- the spans of the wrappers of a ban
abbrev pub wrapper_spans : KrateBan → List Span
wrapper_spans ban = of_some word_spans ban.wrappers

-- no spans of a reason, or of what an entry of `skip`, `ignore` or `skip-tree` gives beside its spec
abbrev pub no_span : {T : Type 0} → T → List Span
no_span x = []

-- the spans of the entries' names, the wrappers of bans, the features in entries of `features`, and the levels of
-- default features
unfoldable pub entry_spans : ValidConfig → List Span
entry_spans cfg = spans_by wrapper_spans no_span no_span no_span cfg

abbrev pub IsLawful : ValidConfig → Type 0
IsLawful cfg = AllPairs (λ one other. one ≢ other) (entry_spans cfg)

-- no two licences that every crate may ask for have the same span, nor have the names of two exceptions
pub record IsLawfulLicensing (config : Config) : Type 0 where
  pub allow : AllPairs (λ one other. one ≢ other) (map (λ a. a.span) config.allow)
  pub exceptions : AllPairs (λ one other. one ≢ other) (map (λ e. e.spec.name.span) config.exceptions)
