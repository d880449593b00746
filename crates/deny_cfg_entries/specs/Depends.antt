-- What is read from an entry's table beside its spec depends on the values at its own keys alone.
use Rattle.std.proofs.Common.{◌≡◌, None, Some, refl, sym, ap, subst, ◌∙◌}
use Rattle.std.specs.Prelude.{[], ◌∷◌, List, ◌&&◌, not, is_some, IsSomeAnd}
use Rattle.deny_toml.specs.Calls.{value_at}
use Rattle.deny_cfg_entries.specs.Entry.{ReadsSome, holds_none}
use Rattle.deny_cfg_entries.specs.Reasons.{ReadsReason, ReadsReasonKey, reason_fields}
use Rattle.deny_cfg_entries.specs.Table.{AreAlikeAt, DependsOn, EachSays, Entries, Field, ReadsIfThere, ReadsKeys}
use Rattle.deny_cfg_entries.specs.Table.{TableKey, fields_of}
use Rattle.deny_cfg_entries.specs.Waivers.{ReadsWaiver, waiver_fields, waiver_keys}

holds_alike : (fields : List Field) (one other : Entries) → AreAlikeAt fields one other
    → holds_none fields one ≡ holds_none fields other
holds_alike [] one other alike = refl
holds_alike (f ∷ fs) one other alike =
    ap (λ v. not (is_some v) && holds_none fs one) alike.0
    ∙ ap (λ rest. not (is_some (value_at f.name other)) && rest) (holds_alike fs one other alike.1)

pub some-depends : {T : Type 0} (fields : List Field) (Reads : Entries → T → Type 0) → DependsOn fields Reads
    → DependsOn fields (ReadsSome fields Reads)
some-depends fields Reads depends one other None alike reads = sym (holds_alike fields one other alike) ∙ reads
some-depends fields Reads depends one other (Some x) alike reads =
    (sym (holds_alike fields one other alike) ∙ reads.0, depends one other x alike reads.1)

pub gives-depends : {T : Type 0} (fields : List Field) (Reads : Entries → T → Type 0) → DependsOn fields Reads
    → DependsOn fields (λ entries said. IsSomeAnd said (Reads entries))
gives-depends fields Reads depends one other None alike reads = reads
gives-depends fields Reads depends one other (Some x) alike reads = depends one other x alike reads

-- what is read from some keys depends on the values of the table at these keys alone
each-depends : {T : Type 0} (keys : List (TableKey T)) (one other : Entries) (x : T)
    → AreAlikeAt (fields_of keys) one other → EachSays keys one x → EachSays keys other x
each-depends [] one other x alike says = tt
each-depends (key ∷ keys) one other x alike says =
    (subst (λ v. key.Says v x) alike.0 says.0, each-depends keys one other x alike.1 says.1)

pub keys-depend : {T : Type 0} (keys : List (TableKey T)) → DependsOn (fields_of keys) (ReadsKeys keys)
keys-depend keys one other x alike reads = record { each = each-depends keys one other x alike reads.each }

pub reason-depends : DependsOn reason_fields ReadsReasonKey
reason-depends one other reason alike reads = subst (λ v. ReadsIfThere ReadsReason v reason) alike.0 reads

pub waiver-depends : DependsOn waiver_fields (ReadsSome waiver_fields ReadsWaiver)
waiver-depends = some-depends waiver_fields ReadsWaiver (keys-depend waiver_keys)
