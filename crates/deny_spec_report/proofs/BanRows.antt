-- Worked cases of bans, wrappers and allow lists: which keys hold.
use Rattle.std.proofs.Common.{◌≡◌, List, [], ◌∷◌, true, codes, refl}
use Rattle.deny_base.specs.declared.code.Code.TheVariants as code
use Rattle.deny_spec.specs.Keys.{crate_key, dependent_key, no_span, unused_key}
use Rattle.deny_spec.specs.Policy as policy
use Rattle.deny_spec.specs.Policy.{Ban}
use Rattle.deny_spec_report.proofs.Cases.{bans_on_cases, ban_at, ban_keys, by_two, crate, dev_edge, edge, allow_at}
use Rattle.deny_spec_report.proofs.Cases.{exactly}
use Rattle.deny_spec_report.proofs.Cases.{graph, one_x, plain, span, two_x, spanned_at}

-- a ban by name is reported at the entry's span, and two entries that match are two bans
two_bans : ban_keys (record plain { deny = ban_at (codes "x") [] 16 ∷ ban_at (codes "x") [] 21 ∷ [] }) one_x
    ≡ crate_key code.Banned 1 (span 16) ∷ crate_key code.Banned 1 (span 21) ∷ []
unfolding bans_on_cases
two_bans = refl

-- `app` and `y` need `x`, and only `app` is a wrapper: `x` is banned, and each dependent is reported
one_wrapper : ban_keys (record plain { deny = ban_at (codes "x") (spanned_at (codes "app") 30 ∷ []) 16 ∷ [] }) by_two
    ≡ crate_key code.Banned 1 (span 16) ∷ dependent_key code.AllowedByWrapper 1 (span 16) 0 ∷ dependent_key
    code.UnmatchedWrapper 1 (span 16) 2 ∷ []
unfolding bans_on_cases
one_wrapper = refl

-- the ban of a crate without dependents is waived by any wrapper, which is then unused
no_dependents : ban_keys (record plain { deny = ban_at (codes "app") (spanned_at (codes "z") 45 ∷ []) 27 ∷ [] }) one_x
    ≡ unused_key code.UnusedWrapper (span 45) ∷ []
unfolding bans_on_cases
no_dependents = refl

-- a ban of a crate of the workspace has no effect where these are exempt
own_crate : ban_keys (record plain { deny = ban_at (codes "app") [] 16 ∷ []; allow_workspace = true }) one_x ≡ []
unfolding bans_on_cases
own_crate = refl

-- the other crates are not exempt with them
another_crate : ban_keys (record plain { deny = ban_at (codes "x") [] 16 ∷ []; allow_workspace = true }) one_x
    ≡ crate_key code.Banned 1 (span 16) ∷ []
unfolding bans_on_cases
another_crate = refl

-- a wrapper of a crate that is exempt is not reported as allowing it, and is unused
exempt_and_wrapped : ban_keys (record plain {
  deny = ban_at (codes "app") (spanned_at (codes "x") 30 ∷ []) 16 ∷ [];
  allow_workspace = true;
}) (graph (crate 1 (codes "x") 1 ∷ []) (edge 0 1 ∷ dev_edge 1 0 ∷ []))
    ≡ unused_key code.UnusedWrapper (span 30) ∷ []
unfolding bans_on_cases
exempt_and_wrapped = refl

-- a ban without wrappers holds, also for a crate that nothing needs
no_wrappers : ban_keys (record plain { deny = ban_at (codes "app") [] 16 ∷ [] }) one_x
    ≡ crate_key code.Banned 0 (span 16) ∷ []
unfolding bans_on_cases
no_wrappers = refl

-- a wrapper waives the ban of its own entry alone
of_its_own_entry : ban_keys (record plain {
  deny = ban_at (codes "x") (spanned_at (codes "app") 30 ∷ []) 16 ∷ ban_at (codes "x") [] 40 ∷ [];
}) one_x
    ≡ crate_key code.Banned 1 (span 40) ∷ dependent_key code.AllowedByWrapper 1 (span 16) 0 ∷ []
unfolding bans_on_cases
of_its_own_entry = refl

-- an entry matches the one of two versions that meets its requirement
one_version : List Ban
one_version = record (ban_at (codes "x") [] 16) { spec = exactly 2 (ban_at (codes "x") [] 16).spec } ∷ []

of_one_version : ban_keys (record plain { deny = one_version }) two_x ≡ crate_key code.Banned 2 (span 16) ∷ []
unfolding bans_on_cases one_version
of_one_version = refl

abbrev app_y_app : List policy.SpannedText
app_y_app = spanned_at (codes "app") 30 ∷ spanned_at (codes "y") 40 ∷ spanned_at (codes "app") 50 ∷ []

-- two wrappers with the names of the two dependents waive the ban, and of two with one name the first is hit
both_wrappers : ban_keys (record plain { deny = ban_at (codes "x") app_y_app 16 ∷ [] }) by_two
    ≡ dependent_key code.AllowedByWrapper 1 (span 16) 0 ∷ dependent_key code.AllowedByWrapper 1 (span 16) 2
    ∷ unused_key code.UnusedWrapper (span 50) ∷ []
unfolding bans_on_cases
both_wrappers = refl

-- an allow list that names `x` does not report the workspace's own crate, which is exempt
allow_x : ban_keys (record plain { allow = allow_at (codes "x") 18 ∷ []; allow_workspace = true }) one_x
    ≡ crate_key code.Allowed 1 (span 18) ∷ []
unfolding bans_on_cases
allow_x = refl

-- an allow list that does not name `x` reports it, and the workspace's own crate too where it is not exempt
allow_none : ban_keys (record plain { allow = allow_at (codes "q") 18 ∷ [] }) one_x
    ≡ crate_key code.NotAllowed 0 no_span ∷ crate_key code.NotAllowed 1 no_span ∷ []
unfolding bans_on_cases
allow_none = refl

-- one entry of several that names a crate is enough, and a crate is reported once for each entry that names it
allow_some : ban_keys (record plain {
  allow = allow_at (codes "q") 18 ∷ allow_at (codes "x") 28 ∷ allow_at (codes "x") 38 ∷ [];
}) one_x
    ≡ crate_key code.Allowed 1 (span 28) ∷ crate_key code.Allowed 1 (span 38)
    ∷ crate_key code.NotAllowed 0 no_span ∷ []
unfolding bans_on_cases
allow_some = refl

-- where the workspace's own crates are exempt, only the others are reported
allow_another : ban_keys (record plain { allow = allow_at (codes "q") 18 ∷ []; allow_workspace = true }) one_x
    ≡ crate_key code.NotAllowed 1 no_span ∷ []
unfolding bans_on_cases
allow_another = refl
