-- The nodes that steps lead to are those that links lead to.
use Rattle.std.proofs.Common.{◌<◌, ℕ, zero, suc, List, Bool, length, refl, sym, subst}
use Rattle.std.specs.Prelude.{All}
use Rattle.std.proofs.lemmas.List.Elements.{All-contains}
use Rattle.deny_base_lists.specs.Walk.{AreMarks, Chain, IsLed, StaysBelow}
use Rattle.deny_base_lists.proofs.Members.{contains_map, from_contains_map}
use Rattle.deny_krates_graph.specs.private.Reach.{AreReached, Reaches, by_link, from_start, link_leads, links_at}
use Rattle.deny_krates_sources.specs.declared.checked.Link.{Link}
use Rattle.deny_krates_sources.specs.declared.checked.ResolvedNode.{ResolvedNode}

-- a chain with one step more at its end
chain_on : (leads : ℕ → ℕ → Type 0) (a b c n : ℕ) → Chain leads a b n → leads b c → Chain leads a c (suc n)
chain_on leads a b c zero same last = (c, subst (λ (x : ℕ). leads x c) (sym same) last, refl)
chain_on leads a b c (suc n) chain last = (chain.0, chain.1, chain_on leads chain.0 b c n chain.2 last)

module _ (rows : List ResolvedNode) (starts : List ℕ) where
  led : (node : ℕ) → Reaches rows starts node → (n : ℕ) × IsLed (link_leads rows) starts node n
  led node (from_start m holds) = (0, record { root = m; is_root = holds; chain = refl })
  led node (by_link m l reached holds) =
      let before = led m reached in (
        suc before.0,
        record {
          root = before.1.root;
          is_root = before.1.is_root;
          chain = chain_on (link_leads rows) before.1.root m l.node before.0 before.1.chain
              (contains_map (λ (k : Link). k.node) (links_at rows m) l holds);
        },
      )

  reached_on : (n a b : ℕ) → Reaches rows starts a → Chain (link_leads rows) a b n → Reaches rows starts b
  reached_on zero a b reached same = subst (λ (m : ℕ). Reaches rows starts m) same reached
  reached_on (suc n) a b reached chain =
      let link = from_contains_map (λ (k : Link). k.node) (links_at rows a) chain.0 chain.1 in
      let next = subst (λ (m : ℕ). Reaches rows starts m) link.2 (by_link a link.0 reached link.1) in
      reached_on n chain.0 b next chain.2

  pub link_stays : ((node : ℕ) → All (λ l. l.node < length rows) (links_at rows node))
      → StaysBelow (link_leads rows) (length rows)
  link_stays links a b inside leads =
      let link = from_contains_map (λ (k : Link). k.node) (links_at rows a) b leads in
      subst (λ (m : ℕ). m < length rows) link.2
      (All-contains (λ (k : Link). k.node < length rows) (links_at rows a) link.0 (links a) link.1)

  pub reached_are : (marks : List Bool) → AreMarks (link_leads rows) (length rows) starts marks
      → AreReached rows starts marks
  reached_are marks are = record {
    long = are.long;
    sound = λ node marked.
        let is = (are.each node).0 marked in
        reached_on is.steps is.led.root node (from_start is.led.root is.led.is_root) is.led.chain;
    whole = λ node reached.
        let is = led node reached in
        (are.each node).1 (record { steps = is.0; led = is.1 });
  }
