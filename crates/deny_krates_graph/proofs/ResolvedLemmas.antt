-- The numbers of resolved metadata and its ids: the nodes of numbers, and the nodes that they lead to.
use Rattle.std.proofs.Common.{◌≡◌, ◌⊎◌, ◌<◌, ◌+◌, ◌++◌, ◌||◌, ℕ, zero, suc, inl, inr, List, [], ◌∷◌, Bool, true, false}
use Rattle.std.proofs.Common.{Option, Some, None, Result, Ok, Err, length, refl, sym, ap, ◌∙◌, subst, arith, add-zero}
use Rattle.std.specs.Prelude.{All, Contains, cond, slice_get, slice_index_or}
use Rattle.std.specs.List.{AllZip, list_any, position_from}
use Rattle.std.specs.Option.{option_map_or}
use Rattle.std.proofs.lemmas.List.Folds.{list_any-append}
use Rattle.std.proofs.lemmas.Option.{none-some, slice_get_within, slice_get-get_or, same_Some}
use Rattle.std.proofs.lemmas.List.Elements.{Contains-append_cases, Contains-append_left, Contains-append_right}
use Rattle.std.proofs.lemmas.Slice.Eq.{bytes_eq-Decides}
use Rattle.deny_base.specs.declared.edge.DepKind.{DepKind}
use Rattle.deny_spec.specs.Text.{same_text}
use Rattle.deny_krates_sources.specs.Checked.{Numbering, Resolved, distinct, distinct_after, known, links_of, links_to}
use Rattle.deny_krates_sources.specs.Checked.{node_ids, node_numbers, number_in, number_or, package_ids}
use Rattle.deny_krates_sources.specs.Checked.{package_numbers}
use Rattle.deny_krates_sources.specs.Checked.{packages_read, resolved, resolved_by, resolved_node}
use Rattle.deny_krates_graph.specs.private.Numbered.{IsResolved}
use Rattle.deny_krates_graph.specs.private.Reach.{Reaches, from_start, by_link, links_at}
use Rattle.deny_krates_graph.specs.Read.{IsReached, is_member, by_need, Needs, NeedsFor}
use Rattle.deny_base_lists.specs.Reader.{◌>>=◌, each}
use Rattle.deny_krates_sources.specs.declared.checked.Link.{Link}
use Rattle.deny_krates_sources.specs.declared.checked.ResolvedNode.{ResolvedNode}
use Rattle.deny_krates_metadata.specs.declared.node.NeededAs.{NeededAs}
use Rattle.deny_krates_metadata.specs.declared.node.NodeDependency.{NodeDependency}
use Rattle.deny_krates_metadata.specs.declared.document.Document.{Document}
use Rattle.deny_krates_metadata.specs.declared.node.MetadataNode.{MetadataNode}
use Rattle.deny_krates_metadata.specs.declared.package.MetadataPackage.{MetadataPackage}
use Rattle.deny_krates_metadata.specs.declared.fault.MetadataFault.{MetadataFault}
use Rattle.deny_krates_metadata.specs.declared.fault.MetadataFault.TheVariants.{DuplicateId}
use Rattle.deny_krates_graph.proofs.GraphLemmas.{links_of_row}
use Rattle.deny_base_lists.proofs.Members.{contains_map, from_contains_map, from_map_at, from_there, from_zip_at}
use Rattle.deny_base_lists.proofs.Members.{map_at}
use Rattle.deny_base_lists.proofs.Members.{one_there, there, zip_at}
use Rattle.deny_krates_graph.proofs.PassedLemmas.{versions_read}
use Rattle.deny_base_lists.proofs.ReaderLemmas.{bound}
use Rattle.deny_base_lists.proofs.Results.{err_is_no_ok, ok_inj}

each_zip : {A B : Type 0} (read : A → Result B MetadataFault) (xs : List A) (ys : List B) → each read xs ≡ Ok ys
    → AllZip (λ x y. read x ≡ Ok y) xs ys
unfolding each
each_zip read [] [] is = tt
each_zip {A} {B} read [] (y ∷ ys) is = absurd (cons_nil (sym (ok_inj {x = []} is)))
  where
    cons_nil : y ∷ ys ≡ [] → ⊥
    cons_nil e = absurd (cc)
each_zip {A} {B} read (x ∷ xs) ys is =
    let first = bound (read x) (λ y. each read xs >>= (λ zs. Ok (y ∷ zs))) ys is in
    let second = bound (each read xs) (λ zs. Ok (first.0 ∷ zs)) ys first.2 in
    subst (λ (zs : List B). AllZip (λ x y. read x ≡ Ok y) (x ∷ xs) zs) (ok_inj {x = first.0 ∷ second.0} second.2)
    (first.1, each_zip read xs second.0 second.1)

-- the parts of what a document without a fault resolves to
pub resolved_is : (doc : Document) (r : Resolved) → resolved doc ≡ Ok r
    → IsResolved doc r.starts r.rows × (packages_read doc.packages ≡ Ok tt) × (r.document ≡ doc)
unfolding resolved resolved_by
resolved_is doc r is =
    let one = bound (distinct (package_ids doc)) _ r is in
    let two = bound (distinct (node_ids doc)) _ r one.2 in
    let three = bound (each (known (package_numbers doc) (node_numbers doc)) doc.members) _ r two.2 in
    let four = bound (each (resolved_node (package_numbers doc) (node_numbers doc)) doc.nodes) _ r three.2 in
    let five = bound (packages_read doc.packages) _ r four.2 in
    let same = ok_inj five.2 in (
      record {
        packages = one.1;
        nodes = two.1;
        starting = subst (λ (ns : List ℕ). AllZip (λ id n. known (package_numbers doc) (node_numbers doc) id ≡ Ok n)
            doc.members ns) (ap (λ (s : Resolved). s.starts) same) (each_zip _ doc.members three.0 three.1);
        resolving = subst (λ (rs : List ResolvedNode). AllZip
            (λ node r. resolved_node (package_numbers doc) (node_numbers doc) node ≡ Ok r) doc.nodes rs)
            (ap (λ (s : Resolved). s.rows) same) (each_zip _ doc.nodes four.0 four.1);
        versions = versions_read doc.packages five.1;
      },
      five.1,
      sym (ap (λ (s : Resolved). s.document) same),
    )

-- the id at its number
numbered : (id : List ℕ) (n : ℕ) (ids : List (List ℕ)) (i : ℕ) → position_from (same_text id) n ids ≡ Some i
    → (k : ℕ) × (i ≡ n + k) × (slice_get ids k ≡ Some id)
numbered id n [] i is = absurd (none-some i is)
numbered id n (x ∷ ids) i is = by_test (λ e. numbered id (n + 1) ids i e) (same_text id x) refl is
  where
    by_test : (position_from (same_text id) (n + 1) ids ≡ Some i → (k : ℕ) × (i ≡ (n + 1) + k)
        × (slice_get ids k ≡ Some id)) → (b : Bool) → same_text id x ≡ b → cond b (Some n)
        (position_from (same_text id) (n + 1) ids) ≡ Some i → (k : ℕ) × (i ≡ n + k) × (slice_get (x ∷ ids) k ≡ Some id)
    by_test rest true same e = (
      0,
      sym (same_Some n i e) ∙ sym (add-zero n),
      ap (λ (t : List ℕ). Some t)
          (sym ((bytes_eq-Decides id x).0 same)),
    )
    by_test rest false differs e = let later = rest e in (suc later.0, omega (arith, later.1), later.2)

number_is : (ids : List (List ℕ)) (id : List ℕ) (i : ℕ) → number_in ids id ≡ Some i → slice_get ids i ≡ Some id
number_is ids id i is = let at =
    numbered id 0 ids i is in subst (λ (k : ℕ). slice_get ids k ≡ Some id) (zero_plus at.0 i at.1) at.2
  where
    zero_plus : (k i : ℕ) → i ≡ 0 + k → k ≡ i
    zero_plus k i e = omega (arith, e)

-- of ids that differ, the first is not among those before it
came_new : (before ids : List (List ℕ)) (x : List ℕ) → distinct_after before (x ∷ ids) ≡ Ok tt
    → (list_any (same_text x) before ≡ false) × (distinct_after (before ++ x ∷ []) ids ≡ Ok tt)
unfolding distinct_after
came_new before ids x is = by_test (list_any (same_text x) before) refl is
  where
    by_test : (b : Bool) → list_any (same_text x) before ≡ b
        → cond b (Err (DuplicateId x)) (distinct_after (before ++ x ∷ []) ids) ≡ Ok tt
        → (list_any (same_text x) before ≡ false) × (distinct_after (before ++ x ∷ []) ids ≡ Ok tt)
    by_test true there e = err_is_no_ok e
    by_test false none e = (none, e)

or_first : (a b : Bool) → (a || b) ≡ false → a ≡ false
or_first true b e = e
or_first false b e = refl

or_second : (a b : Bool) → (a || b) ≡ false → b ≡ false
or_second true b e = absurd (true-false e)
  where
    true-false : true ≡ false → ⊥
    true-false e = absurd (cc)
or_second false b e = e

not_before : (before ids : List (List ℕ)) (i : ℕ) (id : List ℕ) → distinct_after before ids ≡ Ok tt
    → slice_get ids i ≡ Some id → list_any (same_text id) before ≡ false
not_before before [] i id is at = absurd (none-some id at)
not_before before (x ∷ ids) zero id is at =
    subst (λ (t : List ℕ). list_any (same_text t) before ≡ false) (same_Some x id at) (came_new before ids x is).0
not_before before (x ∷ ids) (suc i) id is at =
    or_first (list_any (same_text id) before) (list_any (same_text id) (x ∷ []))
    (sym (list_any-append (same_text id) before (x ∷ [])) ∙ not_before (before ++ x ∷ []) ids i id
    (came_new before ids x is).1 at)

holds_apart : (before ids : List (List ℕ)) (j : ℕ) (x id : List ℕ) → distinct_after (before ++ x ∷ []) ids ≡ Ok tt
    → slice_get ids j ≡ Some id → x ≡ id → ⊥
holds_apart before ids j x id is at same =
    let none = or_second (list_any (same_text id) before) (list_any (same_text id) (x ∷ []))
    (sym (list_any-append (same_text id) before (x ∷ [])) ∙ not_before (before ++ x ∷ []) ids j id is at) in
    true-false (sym (ap (λ b. b || false) ((bytes_eq-Decides id x).1 (sym same))) ∙ none)
  where
    true-false : true ≡ false → ⊥
    true-false e = absurd (cc)

apart_after : (before ids : List (List ℕ)) (i j : ℕ) (id : List ℕ) → distinct_after before ids ≡ Ok tt
    → slice_get ids i ≡ Some id → slice_get ids j ≡ Some id → i ≡ j
apart_after before [] i j id is at at' = absurd (none-some id at)
apart_after before (x ∷ ids) zero zero id is at at' = refl
apart_after before (x ∷ ids) zero (suc j) id is at at' =
    absurd (holds_apart before ids j x id (came_new before ids x is).1 at' (same_Some x id at))
apart_after before (x ∷ ids) (suc i) zero id is at at' =
    absurd (holds_apart before ids i x id (came_new before ids x is).1 at (same_Some x id at'))
apart_after before (x ∷ ids) (suc i) (suc j) id is at at' =
    ap suc (apart_after (before ++ x ∷ []) ids i j id (came_new before ids x is).1 at at')

pub apart : (ids : List (List ℕ)) (i j : ℕ) (id : List ℕ) → distinct ids ≡ Ok tt → slice_get ids i ≡ Some id
    → slice_get ids j ≡ Some id → i ≡ j
apart ids i j id is at at' = apart_after [] ids i j id is at at'

-- a number that was found
found : (id : List ℕ) (o : Option ℕ) (n : ℕ) → number_or id o ≡ Ok n → o ≡ Some n
unfolding number_or
found id None n is = err_is_no_ok is
found id (Some m) n is = ap (λ k. Some k) (ok_inj is)

knows : (packages nodes : Numbering) (id : List ℕ) (n : ℕ) → known packages nodes id ≡ Ok n → nodes id ≡ Some n
unfolding known
knows packages nodes id n is =
    found id (nodes id) n (bound (number_or id (packages id)) (λ _. number_or id (nodes id)) n is).2

-- the number of the package and the links in the row of a node
owner_is : (packages nodes : Numbering) (node : MetadataNode) (r : ResolvedNode)
    → resolved_node packages nodes node ≡ Ok r
    → (packages node.id ≡ Some r.owner) × (links_of packages nodes node.deps ≡ Ok r.links)
unfolding resolved_node
owner_is packages nodes node r is =
    let one = bound (number_or node.id (packages node.id)) _ r is in
    let two = bound (links_of packages nodes node.deps) _ r one.2 in
    let same = ok_inj two.2 in (
      found node.id (packages node.id) r.owner (one.1 ∙ ap (λ (s : ResolvedNode). Ok s.owner) same),
      two.1 ∙ ap
          (λ (s : ResolvedNode). Ok s.links) same,
    )

abbrev link_with : ℕ → NeededAs → Link
link_with node kind = record { node = node; needed_as = kind }

record LinkIs (nodes : Numbering) (deps : List NodeDependency) (l : Link) : Type 0 where
  pub dep : NodeDependency
  pub holds : Contains deps dep
  pub of : Contains dep.kinds l.needed_as
  pub at : nodes dep.pkg ≡ Some l.node

link_sound : (packages nodes : Numbering) (deps : List NodeDependency) (links : List Link) (l : Link)
    → links_of packages nodes deps ≡ Ok links → Contains links l → LinkIs nodes deps l
unfolding links_of
link_sound packages nodes [] links l is holds =
    absurd (none-some l (there [] l (subst (λ (ls : List Link). Contains ls l) (sym (ok_inj {x = []} is)) holds)).1)
link_sound packages nodes (dep ∷ deps) links l is holds =
    let one = bound (known packages nodes dep.pkg) _ links is in
    let two = bound (links_of packages nodes deps) _ links one.2 in
    let all = ok_inj two.2 in
    by_part two.0 (λ other. link_sound packages nodes deps two.0 l two.1 other) one.0 one.1 two.0 two.1
    (Contains-append_cases (links_to one.0 dep.kinds) two.0 l
    (subst (λ (ls : List Link). Contains ls l) (sym all) holds))
  where
    later : LinkIs nodes deps l → LinkIs nodes (dep ∷ deps) l
    later is = let at = there deps is.dep is.holds in
        record { dep = is.dep; holds = from_there (dep ∷ deps) (suc at.0) is.dep at.1; of = is.of; at = is.at }

    by_part : (more : List Link) → (Contains more l → LinkIs nodes deps l) → (n : ℕ)
        → known packages nodes dep.pkg ≡ Ok n → (rest : List Link) → links_of packages nodes deps ≡ Ok rest
        → Contains (links_to n dep.kinds) l ⊎ Contains more l → LinkIs nodes (dep ∷ deps) l
    by_part more in_rest n knows_it rest reads (inl own) =
        let from = from_contains_map (λ kind. link_with n kind) dep.kinds l own in
        record {
          dep = dep;
          holds = from_there (dep ∷ deps) 0 dep refl;
          of = subst (λ (kind : NeededAs). Contains dep.kinds kind) (ap (λ (m : Link). m.needed_as) from.2) from.1;
          at = knows packages nodes dep.pkg n knows_it ∙ ap (λ (m : Link). Some m.node) from.2;
        }
    by_part more in_rest n knows_it rest reads (inr other) = later (in_rest other)

record IsLinked (nodes : Numbering) (links : List Link) (pkg : List ℕ) (kind : NeededAs) : Type 0 where
  pub link : Link
  pub holds : Contains links link
  pub of : link.needed_as ≡ kind
  pub at : nodes pkg ≡ Some link.node

link_whole : (packages nodes : Numbering) (deps : List NodeDependency) (links : List Link) (dep : NodeDependency)
    (kind : NeededAs) → links_of packages nodes deps ≡ Ok links → Contains deps dep → Contains dep.kinds kind → IsLinked
    nodes links dep.pkg kind
unfolding links_of
link_whole packages nodes [] links dep kind is holds of = absurd (none-some dep (there [] dep holds).1)
link_whole packages nodes (first ∷ deps) links dep kind is holds of =
    let one = bound (known packages nodes first.pkg) _ links is in
    let two = bound (links_of packages nodes deps) _ links one.2 in
    subst (λ (ls : List Link). IsLinked nodes ls dep.pkg kind) (ok_inj two.2)
    (by_place two.0 (λ k at. link_whole packages nodes deps two.0 dep kind two.1 (from_there deps k dep at) of) one.0
    one.1 (there (first ∷ deps) dep holds).0 (there (first ∷ deps) dep holds).1)
  where
    by_place : (rest : List Link) → ((k : ℕ) → slice_get deps k ≡ Some dep → IsLinked nodes rest dep.pkg kind) → (n : ℕ)
        → known packages nodes first.pkg ≡ Ok n → (k : ℕ) → slice_get (first ∷ deps) k ≡ Some dep
        → IsLinked nodes (links_to n first.kinds ++ rest) dep.pkg kind
    by_place rest in_rest n knows_it zero at =
        let same = same_Some first dep at in
        record {
          link = link_with n kind;
          holds = Contains-append_left (links_to n first.kinds) rest (link_with n kind)
              (contains_map (λ kind. link_with n kind) first.kinds kind
              (subst (λ (d : NodeDependency). Contains d.kinds kind) (sym same) of));
          of = refl;
          at = subst (λ (d : NodeDependency). nodes d.pkg ≡ Some n) same (knows packages nodes first.pkg n knows_it);
        }
    by_place rest in_rest n knows_it (suc k) at =
        let later = in_rest k at in
        record {
          link = later.link;
          holds = Contains-append_right (links_to n first.kinds) rest later.link
              later.holds;
          of = later.of;
          at = later.at;
        }

-- ---- nodes and ids

abbrev pub IsAt : Document → ℕ → List ℕ → Type 0
IsAt doc n id = slice_get (node_ids doc) n ≡ Some id

pub node_at : (doc : Document) (n : ℕ) (node : MetadataNode) → slice_get doc.nodes n ≡ Some node → IsAt doc n node.id
node_at doc n node at = map_at (λ (m : MetadataNode). m.id) doc.nodes n node at

-- a start is a member's node
pub start_is : (doc : Document) (starts : List ℕ) (rows : List ResolvedNode) (n : ℕ) → IsResolved doc starts rows
    → Contains starts n → (id : List ℕ) × Contains doc.members id × IsAt doc n id
start_is doc starts rows n is holds =
    let at = there starts n holds in
    let from = from_zip_at _ doc.members starts at.0 n is.starting at.1 in (
      from.0,
      from_there doc.members at.0 from.0 from.1,
      number_is (node_ids doc) from.0 n
          (knows (package_numbers doc) (node_numbers doc) from.0 n from.2),
    )

pub member_is : (doc : Document) (starts : List ℕ) (rows : List ResolvedNode) (id : List ℕ) → IsResolved doc starts rows
    → Contains doc.members id → (n : ℕ) × Contains starts n × IsAt doc n id
member_is doc starts rows id is holds =
    let at = there doc.members id holds in
    let to = zip_at _ doc.members starts at.0 id is.starting at.1 in (
      to.0,
      from_there starts at.0 to.0 to.1,
      number_is (node_ids doc) id to.0
          (knows (package_numbers doc) (node_numbers doc) id to.0 to.2),
    )

-- a row with its node
pub record IsRowAt (doc : Document) (n : ℕ) (r : ResolvedNode) : Type 0 where
  pub node : MetadataNode
  pub at : slice_get doc.nodes n ≡ Some node
  pub reads : resolved_node (package_numbers doc) (node_numbers doc) node ≡ Ok r

pub row_is : (doc : Document) (starts : List ℕ) (rows : List ResolvedNode) (n : ℕ) (r : ResolvedNode)
    → IsResolved doc starts rows → slice_get rows n ≡ Some r → IsRowAt doc n r
row_is doc starts rows n r is at = let from = from_zip_at _ doc.nodes rows n r is.resolving at in
    record { node = from.0; at = from.1; reads = from.2 }

pub row_of_node : (doc : Document) (starts : List ℕ) (rows : List ResolvedNode) (n : ℕ) (node : MetadataNode)
    → IsResolved doc starts rows → slice_get doc.nodes n ≡ Some node
    → (r : ResolvedNode) × (slice_get rows n ≡ Some r)
    × (resolved_node (package_numbers doc) (node_numbers doc) node ≡ Ok r)
row_of_node doc starts rows n node is at = zip_at _ doc.nodes rows n node is.resolving at

-- the package of a row has its node's id
pub owner_at : (doc : Document) (n : ℕ) (r : ResolvedNode) → (is : IsRowAt doc n r)
    → (p : MetadataPackage) × (slice_get doc.packages r.owner ≡ Some p) × (p.id ≡ is.node.id)
owner_at doc n r is = from_map_at (λ (p : MetadataPackage). p.id) doc.packages r.owner is.node.id
    (number_is (package_ids doc) is.node.id r.owner
    (owner_is (package_numbers doc) (node_numbers doc) is.node r is.reads).0)

-- a dependency for a target is a dependency, and a dependency is one for a target or for all
pub needs_of : (doc : Document) (id : List ℕ) (kind : NeededAs) (needed : List ℕ) → NeedsFor doc id kind needed
    → Needs doc id kind.kind needed
needs_of doc id kind needed needs = record {
  node = needs.node;
  need = needs.need;
  holds = needs.holds;
  owner = needs.owner;
  named = needs.named;
  is = needs.is;
  of = contains_map (λ (k : NeededAs). k.kind) needs.need.kinds kind needs.of;
}

pub needs_for : (doc : Document) (id : List ℕ) (kind : DepKind) (needed : List ℕ) → Needs doc id kind needed
    → (k : NeededAs) × (k.kind ≡ kind) × NeedsFor doc id k needed
needs_for doc id kind needed needs =
    let from = from_contains_map (λ (k : NeededAs). k.kind) needs.need.kinds kind needs.of in (
      from.0,
      from.2,
      record {
        node = needs.node;
        need = needs.need;
        holds = needs.holds;
        owner = needs.owner;
        named = needs.named;
        is = needs.is;
        of = from.1;
      },
    )

-- a link is a dependency of its node's id
pub link_needs : (doc : Document) (n : ℕ) (r : ResolvedNode) (l : Link) → (is : IsRowAt doc n r) → Contains r.links l
    → (needed : List ℕ) × IsAt doc l.node needed × NeedsFor doc is.node.id l.needed_as needed
link_needs doc n r l is holds =
    let link = link_sound (package_numbers doc) (node_numbers doc) is.node.deps r.links l
    (owner_is (package_numbers doc) (node_numbers doc) is.node r is.reads).1 holds in (
      link.dep.pkg,
      number_is (node_ids doc) link.dep.pkg l.node link.at,
      record {
        node = is.node;
        need = link.dep;
        holds = from_there doc.nodes n is.node is.at;
        owner = refl;
        named = link.holds;
        is = refl;
        of = link.of;
      },
    )

-- a dependency of an id is a link of its node
pub need_links : (doc : Document) (starts : List ℕ) (rows : List ResolvedNode) (n : ℕ) (id : List ℕ) (kind : NeededAs)
    (needed : List ℕ) → IsResolved doc starts rows → IsAt doc n id → NeedsFor doc id kind needed
    → (l : Link) × Contains (links_at rows n) l × (l.needed_as ≡ kind) × IsAt doc l.node needed
need_links doc starts rows n id kind needed is at needs =
    let place = there doc.nodes needs.node needs.holds in
    let here : place.0 ≡ n = apart (node_ids doc) place.0 n id is.nodes
    (subst (λ (t : List ℕ). IsAt doc place.0 t) needs.owner (node_at doc place.0 needs.node place.1)) at in
    let row = row_of_node doc starts rows place.0 needs.node is place.1 in
    let link = link_whole (package_numbers doc) (node_numbers doc) needs.node.deps row.0.links needs.need kind
    (owner_is (package_numbers doc) (node_numbers doc) needs.node row.0 row.2).1 needs.named needs.of in (
      link.link,
      subst (λ (m : ℕ). Contains (links_at rows m) link.link) here
          (subst (λ (ls : List Link). Contains ls link.link) (sym (links_of_row rows place.0 row.0 row.1)) link.holds),
      link.of,
      subst (λ (t : List ℕ). IsAt doc link.link.node t) needs.is
          (number_is (node_ids doc) needs.need.pkg link.link.node link.at),
    )

-- numbers are reached as ids are
pub linked_row : (rows : List ResolvedNode) (n : ℕ) (l : Link) → Contains (links_at rows n) l
    → (r : ResolvedNode) × (slice_get rows n ≡ Some r) × Contains r.links l
linked_row rows n l holds = by_case (slice_get rows n) refl holds
  where
    by_case : (o : Option ResolvedNode) → slice_get rows n ≡ o
        → Contains (option_map_or (λ (row : ResolvedNode). row.links) o []) l
        → (r : ResolvedNode) × (slice_get rows n ≡ Some r) × Contains r.links l
    by_case None at has = absurd (none-some l (there [] l has).1)
    by_case (Some r) at has = (r, at, has)

pub reached_id : (doc : Document) (starts : List ℕ) (rows : List ResolvedNode) (n : ℕ) → IsResolved doc starts rows
    → Reaches rows starts n → (id : List ℕ) × IsAt doc n id × IsReached doc id
reached_id doc starts rows n is (from_start m holds) =
    let from = start_is doc starts rows m is holds in
    (from.0, from.2, is_member from.0 from.1)
reached_id doc starts rows n is (by_link m l reached holds) =
    let before = reached_id doc starts rows m is reached in
    let row = linked_row rows m l holds in
    let at = row_is doc starts rows m row.0 is row.1 in
    let needs = link_needs doc m row.0 l at row.2 in
    let same : at.node.id ≡ before.0 = one_there (node_ids doc) m at.node.id before.0 (node_at doc m at.node at.at)
    before.1 in (
      needs.0,
      needs.1,
      by_need before.0 l.needed_as.kind needs.0 before.2
          (needs_of doc before.0 l.needed_as needs.0
          (subst (λ (t : List ℕ). NeedsFor doc t l.needed_as needs.0) same needs.2)),
    )

pub reached_number : (doc : Document) (starts : List ℕ) (rows : List ResolvedNode) (id : List ℕ)
    → IsResolved doc starts rows → IsReached doc id → (n : ℕ) × IsAt doc n id × Reaches rows starts n
reached_number doc starts rows id is (is_member m holds) =
    let to = member_is doc starts rows m is holds in
    (to.0, to.2, from_start to.0 to.1)
reached_number doc starts rows id is (by_need from kind needed reached needs) =
    let before = reached_number doc starts rows from is reached in
    let for_target = needs_for doc from kind needed needs in
    let link = need_links doc starts rows before.0 from for_target.0 needed is before.1 for_target.2 in
    (link.0.node, link.3, by_link before.0 link.0 before.2 link.1)

-- numbers are within the rows
row_at_number : (doc : Document) (starts : List ℕ) (rows : List ResolvedNode) (n : ℕ) (id : List ℕ)
    → IsResolved doc starts rows → IsAt doc n id → n < length rows
row_at_number doc starts rows n id is at =
    let node = from_map_at (λ (m : MetadataNode). m.id) doc.nodes n id at in
    let row = row_of_node doc starts rows n node.0 is node.1 in
    slice_get_within rows n row.0 row.1

pub starts_inside : (doc : Document) (starts : List ℕ) (rows : List ResolvedNode) → IsResolved doc starts rows
    → All (λ n. n < length rows) starts
starts_inside doc starts rows is k d inside =
    let n = slice_index_or starts k d in
    let start = start_is doc starts rows n is (from_there starts k n (slice_get-get_or starts k d inside)) in
    row_at_number doc starts rows n start.0 is start.2

pub links_inside : (doc : Document) (starts : List ℕ) (rows : List ResolvedNode) → IsResolved doc starts rows
    → (node : ℕ) → All (λ l. l.node < length rows) (links_at rows node)
links_inside doc starts rows is node k d inside =
    let l = slice_index_or (links_at rows node) k d in
    let row = linked_row rows node l
    (from_there (links_at rows node) k l (slice_get-get_or (links_at rows node) k d inside)) in
    let needs = link_needs doc node row.0 l (row_is doc starts rows node row.0 is row.1) row.2 in
    row_at_number doc starts rows l.node needs.0 is needs.1

pub owners_inside : (doc : Document) (starts : List ℕ) (rows : List ResolvedNode) → IsResolved doc starts rows
    → All (λ r. r.owner < length doc.packages) rows
owners_inside doc starts rows is k d inside =
    let r = slice_index_or rows k d in
    let owner = owner_at doc k r (row_is doc starts rows k r is (slice_get-get_or rows k d inside)) in
    slice_get_within doc.packages r.owner owner.0 owner.1

pub zip_long : {A B : Type 0} (R : A → B → Type 0) (xs : List A) (ys : List B) → AllZip R xs ys → length xs ≡ length ys
zip_long R [] [] zip = refl
zip_long R [] (y ∷ ys) zip = absurd zip
zip_long R (x ∷ xs) [] zip = absurd zip
zip_long R (x ∷ xs) (y ∷ ys) zip = ap suc (zip_long R xs ys zip.1)

pub rows_long : (doc : Document) (starts : List ℕ) (rows : List ResolvedNode) → IsResolved doc starts rows
    → length doc.nodes ≡ length rows
rows_long doc starts rows is = zip_long _ doc.nodes rows is.resolving
