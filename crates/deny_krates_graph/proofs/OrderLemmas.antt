-- Only equal ranks tie, only equal kept packages tie, and only equal incoming edges tie.
use Rattle.deny_base_lists.proofs.Orders.{option_text_cmp-exact, text_cmp-exact, then_first, then_second}
use Rattle.std.proofs.Common.{◌≡◌, ℕ, List, Option, refl, ap}
use Rattle.std.specs.Cmp.{IsTotalOrder, nat_cmp_total, on_total, then_total}
use Rattle.std.specs.Cmp.Lexicographic.{slice_cmp, nat_list_cmp_total, options_total}
use Rattle.std.specs.FinMap.{IsAntisymmetric, nat_cmp-IsAntisymmetric}
use Rattle.std.specs.Option.{option_cmp}
use Rattle.std.specs.Ordering.{nat_cmp}
use Rattle.deny_base.specs.Edge.{edge_cmp, kind_cmp, kind_number}
use Rattle.deny_base.specs.declared.edge.DepKind.{DepKind}
use Rattle.deny_base.specs.declared.edge.Edge.{Edge}
use Rattle.deny_krates_graph.specs.private.Direct.{incoming_cmp}
use Rattle.deny_krates_graph.specs.private.Graph.{kept_cmp}
use Rattle.deny_krates_graph.specs.Packages.{rank_cmp}
use Rattle.deny_krates_graph.specs.declared.direct.IncomingEdge.{IncomingEdge}
use Rattle.deny_krates_graph.specs.declared.graph.KeptPackage.{KeptPackage}
use Rattle.deny_krates_graph.specs.declared.graph.Rank.{Rank}

rank_from : List ℕ → List ℕ → Option (List ℕ) → List ℕ → Rank
rank_from name version source id = record { name = name; version = version; source = source; id = id }

rank_from-is : (r : Rank) → rank_from r.name r.version r.source r.id ≡ r
unfolding rank_from
rank_from-is r = refl

pub rank_cmp-exact : IsAntisymmetric rank_cmp
rank_cmp-exact a b e =
    let after_name = then_second (slice_cmp nat_cmp a.name b.name) _ e in
    let after_version = then_second (slice_cmp nat_cmp a.version b.version) _ after_name in
    let name : a.name ≡ b.name = text_cmp-exact a.name b.name (then_first _ _ e) in
    let version : a.version ≡ b.version = text_cmp-exact a.version b.version (then_first _ _ after_name) in
    let source : a.source ≡ b.source = option_text_cmp-exact a.source b.source (then_first _ _ after_version) in
    let id : a.id ≡ b.id = text_cmp-exact a.id b.id
    (then_second (option_cmp (slice_cmp nat_cmp) a.source b.source) (slice_cmp nat_cmp a.id b.id) after_version) in
    cc (rank_from-is a, rank_from-is b)

pub rank_cmp-total : IsTotalOrder rank_cmp
rank_cmp-total =
    then_total (on_total (λ (r : Rank). r.name) nat_list_cmp_total)
    (then_total (on_total (λ (r : Rank). r.version) nat_list_cmp_total)
    (then_total (on_total (λ (r : Rank). r.source) (options_total nat_list_cmp_total))
    (on_total (λ (r : Rank). r.id) nat_list_cmp_total)))

pub kept_from : Rank → ℕ → ℕ → KeptPackage
kept_from rank owner node = record { rank = rank; owner = owner; node = node }

pub kept_from-is : (k : KeptPackage) → kept_from k.rank k.owner k.node ≡ k
unfolding kept_from
kept_from-is k = refl

pub kept_cmp-exact : IsAntisymmetric kept_cmp
kept_cmp-exact a b e =
    let after_rank = then_second (rank_cmp a.rank b.rank) _ e in
    let rank : a.rank ≡ b.rank = rank_cmp-exact a.rank b.rank (then_first _ _ e) in
    let owner : a.owner ≡ b.owner = nat_cmp-IsAntisymmetric a.owner b.owner (then_first _ _ after_rank) in
    let node : a.node ≡ b.node = nat_cmp-IsAntisymmetric a.node b.node
    (then_second (nat_cmp a.owner b.owner) (nat_cmp a.node b.node) after_rank) in
    cc (kept_from-is a, kept_from-is b)

pub kept_cmp-total : IsTotalOrder kept_cmp
kept_cmp-total = then_total (on_total (λ (k : KeptPackage). k.rank) rank_cmp-total)
    (then_total (on_total (λ (k : KeptPackage). k.owner) nat_cmp_total)
    (on_total (λ (k : KeptPackage). k.node) nat_cmp_total))

incoming_from : ℕ → ℕ → DepKind → ℕ → IncomingEdge
incoming_from child rank kind parent = record { child = child; rank = rank; kind = kind; parent = parent }

incoming_from-is : (a : IncomingEdge) → incoming_from a.child a.rank a.kind a.parent ≡ a
unfolding incoming_from
incoming_from-is a = refl

edge_of_kind : DepKind → Edge
edge_of_kind kind = record { parent = 0; child = 0; kind = kind }

kind_exact : IsAntisymmetric edge_cmp → IsAntisymmetric kind_cmp
unfolding edge_of_kind
kind_exact exact a b e = ap (λ (x : Edge). x.kind) (exact (edge_of_kind a) (edge_of_kind b) e)

pub incoming_cmp-exact : IsAntisymmetric edge_cmp → IsAntisymmetric incoming_cmp
incoming_cmp-exact exact a b e =
    let after_child = then_second (nat_cmp a.child b.child) _ e in
    let after_rank = then_second (nat_cmp a.rank b.rank) _ after_child in
    let child : a.child ≡ b.child = nat_cmp-IsAntisymmetric a.child b.child (then_first _ _ e) in
    let rank : a.rank ≡ b.rank = nat_cmp-IsAntisymmetric a.rank b.rank (then_first _ _ after_child) in
    let kind : a.kind ≡ b.kind = kind_exact exact a.kind b.kind (then_first _ _ after_rank) in
    let parent : a.parent ≡ b.parent = nat_cmp-IsAntisymmetric a.parent b.parent
    (then_second (kind_cmp a.kind b.kind) (nat_cmp a.parent b.parent) after_rank) in
    cc (incoming_from-is a, incoming_from-is b)

pub incoming_cmp-total : IsTotalOrder incoming_cmp
incoming_cmp-total =
    then_total (on_total (λ (a : IncomingEdge). a.child) nat_cmp_total)
    (then_total (on_total (λ (a : IncomingEdge). a.rank) nat_cmp_total)
    (then_total (on_total (λ (a : IncomingEdge). a.kind) (on_total kind_number nat_cmp_total))
    (on_total (λ (a : IncomingEdge). a.parent) nat_cmp_total)))
