-- The sources of edges from one crate or its features to another crate or a feature of it.
use Rattle.std.proofs.Common.{◌≡◌, ◌∙◌, ℕ, List, [], ◌∷◌, ◌++◌, Bool, true, false, None, Some, IsTrue, append-nil}
use Rattle.std.proofs.Common.{append_assoc, map, refl, sym, ap, subst}
use Rattle.std.specs.Prelude.{◌&&◌, ◌||◌, ◌↔◌, Contains, cond, filter, not, slice_get}
use Rattle.std.specs.List.{flat_map, list_any}
use Rattle.std.proofs.lemmas.List.{map-append}
use Rattle.std.proofs.lemmas.Option.{same_Some}
use Rattle.deny_base.specs.declared.edge.DepKind.{DepKind}
use Rattle.deny_base.specs.declared.edge.DepKind.TheVariants.{Normal, Dev, Build}
use Rattle.deny_krates_graph.specs.Crates.{crate_view, dependency_view}
use Rattle.deny_krates_graph.specs.Dependents.{id_at}
use Rattle.deny_krates.specs.Nodes.{Incoming, all_kinds, asks_for, asks_in_vain, declares, entries_of, feature_leads}
use Rattle.deny_krates.specs.Nodes.{from_crate, from_feature, from_own, has_edge, holds_plain, is_enabled, is_of_kind}
use Rattle.deny_krates.specs.Nodes.{leads_by_asking, leads_in_vain, leads_over, leads_undeclared, own_features}
use Rattle.deny_krates.specs.Nodes.{own_leading, sources_of_crate, sources_of_feature}
use Rattle.deny_krates.specs.private.Resolved.{AreBetween}
use Rattle.deny_krates.specs.private.Sources.{any_there, is_led_over, parent_in, parent_of, passes_there}
use Rattle.deny_krates.specs.declared.incoming.Parent.{Parent}
use Rattle.deny_krates_graph.specs.declared.krate.Dependency.{Dependency as Declared}
use Rattle.deny_krates_graph.specs.declared.krate.Krate.{Krate}
use Rattle.deny_krates.specs.declared.resolved.ResolvedAt.{ResolvedAt}
use Rattle.deny_krates.proofs.NodeLemmas.{id_of_place}
use Rattle.deny_krates.proofs.NumberLemmas.{HavePlaces}
use Rattle.deny_krates.proofs.SourceLemmas.{any_declared, edge_asked}
use Rattle.deny_spec.specs.Graph.{Crate, Dependency, Graph}

-- an edge between two places
pub edge_at : (g : Graph) (p c : Crate) (kind : DepKind) (parent child : ℕ) (answer : Bool) → p.place ≡ parent
    → c.place ≡ child → IsTrue answer ↔ Contains g.edges (record { parent = parent; child = child; kind = kind })
    → answer ≡ has_edge g p c kind
edge_at g p c kind parent child answer p_is c_is asked = edge_asked g p c kind answer
    (subst (λ (n : ℕ). IsTrue answer ↔ Contains g.edges (record { parent = n; child = c.place; kind = kind }))
    (sym p_is)
    (subst (λ (n : ℕ). IsTrue answer ↔ Contains g.edges (record { parent = parent; child = n; kind = kind })) (sym c_is)
    asked))

pub no_edge_to_crate : (g : Graph) (p c : Crate) (kind : DepKind) → false ≡ has_edge g p c kind
    → false ≡ (leads_in_vain g c p kind || leads_undeclared g c p kind)
unfolding leads_in_vain leads_undeclared
no_edge_to_crate g p c kind none = rw (← none) refl

pub no_edge_to_feature : (g : Graph) (p c : Crate) (kind : DepKind) (feature : List ℕ) → false ≡ has_edge g p c kind
    → false ≡ leads_by_asking g c feature p kind
unfolding leads_by_asking
no_edge_to_feature g p c kind feature none = rw (← none) refl

module _ (g : Graph) (p c : Crate) (kind : DepKind) (run : List ResolvedAt) (at : slice_get g.crates p.place ≡ Some p)
    (between : AreBetween g c.place p.place run) where
  declares_is : (test : Dependency → Bool) → any_there p.deps kind test run ≡ declares g p c kind test
  unfolding declares
  declares_is test = any_declared g p c run (λ d. is_of_kind kind d && test d) at between

  leads_to_crate-is : (vain undeclared : Bool) → true ≡ has_edge g p c kind
      → vain ≡ any_there p.deps kind (asks_in_vain c) run
      → undeclared ≡ not (list_any (passes_there p.deps (is_of_kind kind)) run)
      → (vain || undeclared) ≡ (leads_in_vain g c p kind || leads_undeclared g c p kind)
  unfolding leads_in_vain leads_undeclared
  leads_to_crate-is vain undeclared has is_vain is_undeclared =
      rw (
        ← has,
        is_vain,
        is_undeclared,
        declares_is (asks_in_vain c),
        any_declared g p c run (is_of_kind kind) at between,
      )
      refl

  leads_by_asking-is : (feature : List ℕ) → true ≡ has_edge g p c kind
      → any_there p.deps kind (asks_for feature) run ≡ leads_by_asking g c feature p kind
  unfolding leads_by_asking
  leads_by_asking-is feature has = rw (← has) (declares_is (asks_for feature))

  feature_leads-is : (feature from : List ℕ)
      → any_there p.deps kind (λ d. list_any (leads_over d feature) (entries_of p from)) run
      ≡ feature_leads g c feature p kind from
  unfolding feature_leads
  feature_leads-is feature from = declares_is (λ d. list_any (leads_over d feature) (entries_of p from))

-- ---- the sources that are collected

pub filter_same : {X : Type 0} (f h : X → Bool) (xs : List X) → ((x : X) → f x ≡ h x) → filter f xs ≡ filter h xs
filter_same f h [] same = refl
filter_same f h (x ∷ xs) same = rw (same x) (by_test (h x) (filter_same f h xs same))
  where
    by_test : (b : Bool) → filter f xs ≡ filter h xs
        → cond b (x ∷ filter f xs) (filter f xs) ≡ cond b (x ∷ filter h xs) (filter h xs)
    by_test true rest = ap (λ ys. x ∷ ys) rest
    by_test false rest = rest

map-map : {X Y Z : Type 0} (f : Y → Z) (h : X → Y) (xs : List X) → map f (map h xs) ≡ map (λ x. f (h x)) xs
map-map f h [] = refl
map-map f h (x ∷ xs) = ap (λ ys. f (h x) ∷ ys) (map-map f h xs)

map-same : {X Y : Type 0} (f h : X → Y) (xs : List X) → ((x : X) → f x ≡ h x) → map f xs ≡ map h xs
map-same f h [] same = refl
map-same {X} {Y} f h (x ∷ xs) same = let head : f x ≡ h x = same x in let rest = map-same f h xs same in cc

module _ (g : Graph) (p : Crate) (id : id_at g p.place ≡ p.id) where
  parents_are : (kind : DepKind) (fs : List (List ℕ))
      → map (parent_of g) (map (from_feature p kind) fs) ≡ map (λ f. parent_in p (Some kind) (Some f)) fs
  parents_are kind fs = map-map (parent_of g) (from_feature p kind) fs
      ∙ map-same (λ f. parent_of g (from_feature p kind f)) (λ f. parent_in p (Some kind) (Some f)) fs
      (λ f. ap (λ (i : List ℕ). with_id i kind f) id)
    where
      with_id : List ℕ → DepKind → List ℕ → Parent
      with_id i k f = record { feature = Some f; id = i; kind = Some k; place = p.place }

  parents_of_crate_are : (b : Bool) (kind : DepKind)
      → map (parent_of g) (cond b (from_crate p kind ∷ []) []) ≡ cond b (parent_in p (Some kind) None ∷ []) []
  parents_of_crate_are true kind = ap (λ (i : List ℕ). parent_with i ∷ []) id
    where
      parent_with : List ℕ → Parent
      parent_with i = record { feature = None; id = i; kind = Some kind; place = p.place }
  parents_of_crate_are false kind = refl

  own_parents : (fs : List (List ℕ))
      → map (parent_of g) (map (from_own p) fs) ≡ map (λ f. parent_in p None (Some f)) fs
  own_parents fs = map-map (parent_of g) (from_own p) fs
      ∙ map-same (λ f. parent_of g (from_own p f)) (λ f. parent_in p None (Some f)) fs
      (λ f. ap (λ (i : List ℕ). with_id i f) id)
    where
      with_id : List ℕ → List ℕ → Parent
      with_id i f = record { feature = Some f; id = i; kind = None; place = p.place }

  -- the sources of a crate that are one parent with one kind
  pub to_crate_led : (c : Crate) (kind : DepKind) (old new : List Parent)
      → true ≡ (leads_in_vain g c p kind || leads_undeclared g c p kind)
      → new ≡ old ++ parent_in p (Some kind) None ∷ []
      → new ≡ old ++ map (parent_of g) (sources_of_crate g c p kind)
  unfolding sources_of_crate
  to_crate_led c kind old new led pushed = pushed
      ∙ ap (λ ps. old ++ ps) (ap (λ b. cond b (parent_in p (Some kind) None ∷ []) []) led
      ∙ sym (parents_of_crate_are (leads_in_vain g c p kind || leads_undeclared g c p kind) kind))

  pub to_crate_not : (c : Crate) (kind : DepKind) (old : List Parent)
      → false ≡ (leads_in_vain g c p kind || leads_undeclared g c p kind)
      → old ≡ old ++ map (parent_of g) (sources_of_crate g c p kind)
  unfolding sources_of_crate
  to_crate_not c kind old not_led = sym (append-nil old)
      ∙ ap (λ ps. old ++ ps) (ap (λ b. cond b (parent_in p (Some kind) None ∷ []) []) not_led
      ∙ sym (parents_of_crate_are (leads_in_vain g c p kind || leads_undeclared g c p kind) kind))

  -- the sources of a feature that are one parent with one kind
  pub to_feature : (c : Crate) (feature : List ℕ) (kind : DepKind) (old mid new : List Parent)
      → mid ≡ old ++ cond (leads_by_asking g c feature p kind) (parent_in p (Some kind) None ∷ []) []
      → new ≡ mid ++ map (λ f. parent_in p (Some kind) (Some f)) (filter (feature_leads g c feature p kind) p.enabled)
      → new ≡ old ++ map (parent_of g) (sources_of_feature g c feature p kind)
  unfolding sources_of_feature
  to_feature c feature kind old mid new first second =
      let asking = cond (leads_by_asking g c feature p kind) (from_crate p kind ∷ []) [] in
      let led = map (from_feature p kind) (filter (feature_leads g c feature p kind) p.enabled) in
      let whole : map (parent_of g) (asking ++ led)
      ≡ cond (leads_by_asking g c feature p kind) (parent_in p (Some kind) None ∷ []) []
      ++ map (λ f. parent_in p (Some kind) (Some f)) (filter (feature_leads g c feature p kind) p.enabled) =
      map-append (parent_of g) asking led
      ∙ (ap (λ ps. ps ++ map (parent_of g) led) (parents_of_crate_are (leads_by_asking g c feature p kind) kind)
      ∙ ap (λ ps. cond (leads_by_asking g c feature p kind) (parent_in p (Some kind) None ∷ []) [] ++ ps)
      (parents_are kind (filter (feature_leads g c feature p kind) p.enabled))) in
      second
      ∙ (ap (λ ps. ps ++ map (λ f. parent_in p (Some kind) (Some f))
      (filter (feature_leads g c feature p kind) p.enabled))
      first
      ∙ (append_assoc old (cond (leads_by_asking g c feature p kind) (parent_in p (Some kind) None ∷ []) [])
      (map (λ f. parent_in p (Some kind) (Some f)) (filter (feature_leads g c feature p kind) p.enabled))
      ∙ ap (λ ps. old ++ ps) (sym whole)))

-- the three kinds, one after the other
pub by_three : (g : Graph) (sources : DepKind → List Incoming) (old one two new : List Parent)
    → one ≡ old ++ map (parent_of g) (sources Normal) → two ≡ one ++ map (parent_of g) (sources Dev)
    → new ≡ two ++ map (parent_of g) (sources Build) → new ≡ old ++ map (parent_of g) (flat_map sources all_kinds)
by_three g sources old one two new first second third =
    let f = map (parent_of g) in
    let n = f (sources Normal) in
    let d = f (sources Dev) in
    let b = f (sources Build) in
    let whole : f (flat_map sources all_kinds) ≡ n ++ (d ++ b) =
    map-append (parent_of g) (sources Normal) (sources Dev ++ (sources Build ++ []))
    ∙ ap (λ ps. n ++ ps) (map-append (parent_of g) (sources Dev) (sources Build ++ [])
    ∙ ap (λ ps. d ++ ps) (ap f (append-nil (sources Build)))) in
    third
    ∙ (ap (λ ps. ps ++ b) (second ∙ (ap (λ ps. ps ++ d) first ∙ append_assoc old n d))
    ∙ (append_assoc old (n ++ d) b ∙ ap (λ ps. old ++ ps) (append_assoc n d b ∙ sym whole)))

-- ---- tests of crates in code are those of their views

vain_anywhere : (m n : ℕ) (k : Krate) → asks_in_vain (crate_view m k) ≡ asks_in_vain (crate_view n k)
unfolding asks_in_vain is_enabled
vain_anywhere m n k = refl

entries_anywhere : (m n : ℕ) (k : Krate) → entries_of (crate_view m k) ≡ entries_of (crate_view n k)
unfolding entries_of
entries_anywhere m n k = refl

plain_anywhere : (m n : ℕ) (k : Krate) → holds_plain (crate_view m k) ≡ holds_plain (crate_view n k)
unfolding holds_plain entries_of
plain_anywhere m n k = refl

module _ (g : Graph) (child parent : ℕ) (kc kp : Krate) (kind : DepKind) (run : List ResolvedAt)
    (declarations : List Declared) (at : slice_get g.crates parent ≡ Some (crate_view parent kp))
    (between : AreBetween g child parent run) (deps : declarations ≡ kp.deps) where
  pub to_crate_answer : (led : Bool) → true ≡ has_edge g (crate_view parent kp) (crate_view child kc) kind
      → led ≡ (any_there (map dependency_view declarations) kind (asks_in_vain (crate_view 0 kc)) run
      || not (list_any (passes_there (map dependency_view declarations) (is_of_kind kind)) run))
      → led ≡ (leads_in_vain g (crate_view child kc) (crate_view parent kp) kind
      || leads_undeclared g (crate_view child kc) (crate_view parent kp) kind)
  to_crate_answer led has is_led =
      is_led
      ∙ (ap (λ (ds : List Declared). any_there (map dependency_view ds) kind (asks_in_vain (crate_view 0 kc)) run
      || not (list_any (passes_there (map dependency_view ds) (is_of_kind kind)) run)) deps
      ∙ (ap (λ (test : Dependency → Bool). any_there (map dependency_view kp.deps) kind test run
      || not (list_any (passes_there (map dependency_view kp.deps) (is_of_kind kind)) run)) (vain_anywhere 0 child kc)
      ∙ leads_to_crate-is g (crate_view parent kp) (crate_view child kc) kind run at between
      (any_there (map dependency_view kp.deps) kind (asks_in_vain (crate_view child kc)) run)
      (not (list_any (passes_there (map dependency_view kp.deps) (is_of_kind kind)) run)) has refl refl))

  pub to_feature_answer : (feature : List ℕ) (asks : Bool)
      → true ≡ has_edge g (crate_view parent kp) (crate_view child kc) kind
      → asks ≡ any_there (map dependency_view declarations) kind (asks_for feature) run
      → asks ≡ leads_by_asking g (crate_view child kc) feature (crate_view parent kp) kind
  to_feature_answer feature asks has is_asked =
      is_asked
      ∙ (ap (λ (ds : List Declared). any_there (map dependency_view ds) kind (asks_for feature) run) deps
      ∙ leads_by_asking-is g (crate_view parent kp) (crate_view child kc) kind run at between feature has)

  pub led_answer : (feature from : List ℕ)
      → is_led_over kp run kind feature from
      ≡ feature_leads g (crate_view child kc) feature (crate_view parent kp) kind from
  unfolding is_led_over
  led_answer feature from =
      ap (λ (entries : List ℕ → List (List ℕ)). any_there (map dependency_view kp.deps) kind
      (λ d. list_any (leads_over d feature) (entries from)) run) (entries_anywhere 0 parent kp)
      ∙ feature_leads-is g (crate_view parent kp) (crate_view child kc) kind run at between feature from

-- ---- the sources of a node that are features of its own crate

module _ (g : Graph) (x : Crate) (place : ℕ) (k : Krate) where
  own_first_of : (fs gs : List (List ℕ)) (old new : List Parent) → HavePlaces g
      → slice_get g.crates place ≡ Some (crate_view place k) → slice_get g.crates place ≡ Some x → fs ≡ gs → old ≡ []
      → new ≡ old ++ map (λ f. parent_in (crate_view place k) None (Some f)) fs
      → new ≡ map (parent_of g) (map (from_own x) gs)
  own_first_of fs gs old new are here x_at lists none added =
      let same : crate_view place k ≡ x = same_Some (crate_view place k) x (sym here ∙ x_at) in
      added
      ∙ (ap (λ (ps : List Parent). ps ++ map (λ f. parent_in (crate_view place k) None (Some f)) fs) none
      ∙ (ap (λ (hs : List (List ℕ)). map (λ f. parent_in (crate_view place k) None (Some f)) hs) lists
      ∙ (ap (λ (q : Crate). map (λ f. parent_in q None (Some f)) gs) same
      ∙ sym (own_parents g x (id_of_place g place x are x_at) gs))))

pub own_first : (g : Graph) (x : Crate) (place : ℕ) (k : Krate) → HavePlaces g
    → slice_get g.crates place ≡ Some (crate_view place k) → slice_get g.crates place ≡ Some x → (old new : List Parent)
    → old ≡ [] → new ≡ old ++ map (λ f. parent_in (crate_view place k) None (Some f)) k.enabled
    → new ≡ map (parent_of g) (own_features x)
unfolding own_features
own_first g x place k are here x_at old new none added =
    own_first_of g x place k k.enabled x.enabled old new are here x_at
    (ap (λ (q : Crate). q.enabled) (same_Some (crate_view place k) x (sym here ∙ x_at))) none added

pub leading_first : (g : Graph) (x : Crate) (place : ℕ) (k : Krate) (feature : List ℕ) → HavePlaces g
    → slice_get g.crates place ≡ Some (crate_view place k) → slice_get g.crates place ≡ Some x → (old new : List Parent)
    → old ≡ [] → new ≡ old ++ map (λ f. parent_in (crate_view place k) None (Some f))
    (filter (holds_plain (crate_view 0 k) feature) k.enabled)
    → new ≡ map (parent_of g) (own_leading x feature)
unfolding own_leading
leading_first g x place k feature are here x_at old new none added =
    own_first_of g x place k (filter (holds_plain (crate_view 0 k) feature) k.enabled)
    (filter (holds_plain x feature) x.enabled) old new are here x_at
    (ap (λ (test : List ℕ → List ℕ → Bool). filter (test feature) k.enabled) (plain_anywhere 0 place k)
    ∙ ap (λ (q : Crate). filter (holds_plain q feature) q.enabled)
    (same_Some (crate_view place k) x (sym here ∙ x_at))) none added
