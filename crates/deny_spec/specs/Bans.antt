-- Bans, their wrappers, and the allow list.
use Rattle.std.specs.Prelude.{◌&&◌, ◌==◌, Bool, not, List, Option, filter, map, find, length, is_none}
use Rattle.std.specs.List.{flat_map, list_all, list_any}
use Rattle.deny_base.specs.declared.code.Code.TheVariants.{Banned, Allowed, NotAllowed, AllowedByWrapper}
use Rattle.deny_base.specs.declared.code.Code.TheVariants.{UnmatchedWrapper}
use Rattle.deny_base.specs.declared.key.Key.{Key}
use Rattle.deny_spec.specs.Graph.{Crate, Graph, dependents}
use Rattle.deny_spec.specs.Keys.{crate_key, dependent_key, no_span}
use Rattle.deny_spec.specs.Match.{matches}
use Rattle.deny_spec.specs.Policy.{AllowEntry, Ban, Policy, SpannedText}
use Rattle.deny_spec.specs.Text.{same_text}

-- the workspace's own crates are exempt where the policy allows them
unfoldable pub is_exempt : Policy → Graph → Crate → Bool
is_exempt p g c = p.allow_workspace && list_any (λ place. place == c.place) g.members

-- the first wrapper with a crate's name
unfoldable pub wrapper_of : List SpannedText → Crate → Option SpannedText
wrapper_of wrappers parent = find (λ w. same_text w.value parent.name) wrappers

-- whether a crate is one of the wrappers
unfoldable pub is_wrapper : List SpannedText → Crate → Bool
is_wrapper wrappers parent = not (is_none (wrapper_of wrappers parent))

unfoldable pub has_wrappers : Ban → Bool
has_wrappers ban = not (length ban.wrappers == 0)

-- an entry is waived for a crate where it has wrappers, and every direct dependent of the crate is one of them
unfoldable pub is_waived : Graph → Ban → Crate → Bool
is_waived g ban c = has_wrappers ban && list_all (is_wrapper ban.wrappers) (dependents g c.place)

-- the entry matches the crate, which is not exempt
unfoldable pub concerns : Policy → Graph → Ban → Crate → Bool
concerns p g ban c = matches ban.spec c && not (is_exempt p g c)

unfoldable pub is_banned : Policy → Graph → Ban → Crate → Bool
is_banned p g ban c = concerns p g ban c && not (is_waived g ban c)

-- an entry bans each crate that it concerns and for which it is not waived
unfoldable pub banned_keys_of : Policy → Graph → Ban → List Key
banned_keys_of p g ban = map (λ c. crate_key Banned c.place ban.spec.span) (filter (is_banned p g ban) g.crates)

-- the crates whose dependents an entry with wrappers reports
unfoldable pub is_wrapped : Policy → Graph → Ban → Crate → Bool
is_wrapped p g ban c = has_wrappers ban && concerns p g ban c

-- the direct dependents of such a crate that are wrappers, each of which is reported
unfoldable pub allowed_by_wrapper_keys_at : Graph → Ban → Crate → List Key
allowed_by_wrapper_keys_at g ban c =
    map (λ parent. dependent_key AllowedByWrapper c.place ban.spec.span parent.place)
    (filter (is_wrapper ban.wrappers) (dependents g c.place))

unfoldable pub allowed_by_wrapper_keys_of : Policy → Graph → Ban → List Key
allowed_by_wrapper_keys_of p g ban = flat_map (allowed_by_wrapper_keys_at g ban) (filter (is_wrapped p g ban) g.crates)

-- the direct dependents of such a crate that are no wrappers, each of which is reported
unfoldable pub unmatched_wrapper_keys_at : Graph → Ban → Crate → List Key
unmatched_wrapper_keys_at g ban c =
    map (λ parent. dependent_key UnmatchedWrapper c.place ban.spec.span parent.place)
    (filter (λ parent. not (is_wrapper ban.wrappers parent)) (dependents g c.place))

unfoldable pub unmatched_wrapper_keys_of : Policy → Graph → Ban → List Key
unmatched_wrapper_keys_of p g ban = flat_map (unmatched_wrapper_keys_at g ban) (filter (is_wrapped p g ban) g.crates)

-- an entry of the allow list reports each crate that it matches
unfoldable pub allowed_keys_of : Graph → AllowEntry → List Key
allowed_keys_of g e = map (λ c. crate_key Allowed c.place e.spec.span) (filter (matches e.spec) g.crates)

-- there is an allow list, no entry of it matches the crate, and the crate is not exempt
unfoldable pub is_not_allowed : Policy → Graph → Crate → Bool
is_not_allowed p g c = not (length p.allow == 0) &&
    (not (list_any (λ e. matches e.spec c) p.allow) && not (is_exempt p g c))

unfoldable pub not_allowed_keys : Policy → Graph → List Key
not_allowed_keys p g = map (λ c. crate_key NotAllowed c.place no_span) (filter (is_not_allowed p g) g.crates)
