-- The keys of bans, rule by rule.
use Rattle.std.proofs.Common.{◌≡◌, ◌++◌, ◌∷◌, [], List, Contains, subst, inl, inr, append-nil, append_assoc}
use Rattle.std.specs.List.{flat_map}
use Rattle.std.proofs.lemmas.List.Elements.{Contains-append_cases, Contains-append_left, Contains-append_right}
use Rattle.deny_base_lists.specs.Ascending.{Adds}
use Rattle.deny_base.specs.declared.key.Key.{Key}
use Rattle.deny_spec.specs.Bans.{allowed_by_wrapper_keys_of, allowed_keys_of, banned_keys_of, not_allowed_keys}
use Rattle.deny_spec.specs.Bans.{unmatched_wrapper_keys_of}
use Rattle.deny_spec.specs.Graph.{Graph}
use Rattle.deny_spec.specs.Policy.{Ban, Policy}
use Rattle.deny_spec.specs.Wrappers.{unused_wrapper_keys_of}
use Rattle.deny_rules_crates.specs.private.Banned.{keys_of_ban}
use Rattle.deny_rules_crates.specs.Rules.{ban_rules, keys_of_rules}
use Rattle.deny_base_lists.proofs.Adding.{adds_both, adds_list, adds_same}
use Rattle.deny_base_lists.proofs.Members.{Contains-flat_map, Contains-from_flat_map}

module _ {X Y : Type 0} (f h : X → List Y) (xs : List X) (y : Y) where
  apart : Contains (flat_map (λ x. f x ++ h x) xs) y → Contains (flat_map f xs ++ flat_map h xs) y
  apart is =
      let by = Contains-from_flat_map (λ x. f x ++ h x) xs y is in
      elim (Contains-append_cases (f by.from) (h by.from) y by.of) as
      (λ _. Contains (flat_map f xs ++ flat_map h xs) y) [
        | inl here ↦ Contains-append_left (flat_map f xs) (flat_map h xs) y
            (Contains-flat_map f xs by.from y by.member here)
        | inr there ↦ Contains-append_right (flat_map f xs) (flat_map h xs) y
            (Contains-flat_map h xs by.from y by.member there)
      ]

  together : Contains (flat_map f xs ++ flat_map h xs) y → Contains (flat_map (λ x. f x ++ h x) xs) y
  together is = elim (Contains-append_cases (flat_map f xs) (flat_map h xs) y is) as
      (λ _. Contains (flat_map (λ x. f x ++ h x) xs) y) [
        | inl here ↦
            let by = Contains-from_flat_map f xs y here in
            Contains-flat_map (λ x. f x ++ h x) xs by.from y by.member
            (Contains-append_left (f by.from) (h by.from) y by.of)
        | inr there ↦
            let by = Contains-from_flat_map h xs y there in
            Contains-flat_map (λ x. f x ++ h x) xs by.from y by.member
            (Contains-append_right (f by.from) (h by.from) y by.of)
      ]

after : {Y : Type 0} (xs ys zs : List Y) (y : Y) → (Contains ys y → Contains zs y) → Contains (xs ++ ys) y
    → Contains (xs ++ zs) y
after xs ys zs y to is = elim (Contains-append_cases xs ys y is) as (λ _. Contains (xs ++ zs) y) [
  | inl here ↦ Contains-append_left xs zs y here
  | inr there ↦ Contains-append_right xs zs y (to there)
]

module _ {X Y : Type 0} (a b c d : X → List Y) (xs : List X) where
  abbrev each : List Y
  each = flat_map (λ x. a x ++ (b x ++ (c x ++ d x))) xs

  abbrev rule_by_rule : List Y
  rule_by_rule = flat_map a xs ++ (flat_map b xs ++ (flat_map c xs ++ flat_map d xs))

  all_apart : (y : Y) → Contains each y → Contains rule_by_rule y
  all_apart y is =
      after (flat_map a xs) (flat_map (λ x. b x ++ (c x ++ d x)) xs)
      (flat_map b xs ++ (flat_map c xs ++ flat_map d xs)) y
      (λ rest. after (flat_map b xs) (flat_map (λ x. c x ++ d x) xs) (flat_map c xs ++ flat_map d xs) y (apart c d xs y)
      (apart b (λ x. c x ++ d x) xs y rest))
      (apart a (λ x. b x ++ (c x ++ d x)) xs y is)

  all_together : (y : Y) → Contains rule_by_rule y → Contains each y
  all_together y is =
      together a (λ x. b x ++ (c x ++ d x)) xs y
      (after (flat_map a xs) (flat_map b xs ++ (flat_map c xs ++ flat_map d xs))
      (flat_map (λ x. b x ++ (c x ++ d x)) xs) y
      (λ rest. together b (λ x. c x ++ d x) xs y
      (after (flat_map b xs) (flat_map c xs ++ flat_map d xs) (flat_map (λ x. c x ++ d x) xs) y
      (together c d xs y) rest)) is)

regroup : {Y : Type 0} (a b c d e f : List Y)
    → (a ++ (b ++ (c ++ d))) ++ (e ++ f) ≡ flat_map (λ (xs : List Y). xs) (a ∷ (b ∷ (c ∷ (d ∷ (e ∷ (f ∷ []))))))
regroup a b c d e f = simp (append_assoc, append-nil)

pub all_ban_keys : (p : Policy) (g : Graph) (bans : List Ban) (old mid new : List Key) → bans ≡ p.deny
    → Adds (Contains (flat_map (keys_of_ban p g) bans)) old mid
    → new ≡ mid ++ (flat_map (allowed_keys_of g) p.allow ++ not_allowed_keys p g)
    → Adds (Contains (keys_of_rules (ban_rules p g))) old new
unfolding keys_of_ban
all_ban_keys p g bans old mid new are banned allowed =
    let rs = flat_map (banned_keys_of p g) p.deny in
    let bs = flat_map (allowed_by_wrapper_keys_of p g) p.deny in
    let cs = flat_map (unmatched_wrapper_keys_of p g) p.deny in
    let ds = flat_map (unused_wrapper_keys_of p g) p.deny in
    let es = flat_map (allowed_keys_of g) p.allow in
    let rules : Adds (Contains (rs ++ (bs ++ (cs ++ ds)))) old mid =
    adds_same (Contains (flat_map (keys_of_ban p g) p.deny)) (Contains (rs ++ (bs ++ (cs ++ ds)))) old mid
    (subst (λ (xs : List Ban). Adds (Contains (flat_map (keys_of_ban p g) xs)) old mid) are banned)
    (all_apart (banned_keys_of p g) (allowed_by_wrapper_keys_of p g) (unmatched_wrapper_keys_of p g)
    (unused_wrapper_keys_of p g) p.deny)
    (all_together (banned_keys_of p g) (allowed_by_wrapper_keys_of p g) (unmatched_wrapper_keys_of p g)
    (unused_wrapper_keys_of p g) p.deny) in
    subst (λ (ks : List Key). Adds (Contains ks) old new) (regroup rs bs cs ds es (not_allowed_keys p g))
    (adds_both (rs ++ (bs ++ (cs ++ ds))) (es ++ not_allowed_keys p g) old mid new rules
    (adds_list mid new (es ++ not_allowed_keys p g) allowed))
