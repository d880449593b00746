-- The trees of texts, and where the files of manifests are.
use Rattle.std.proofs.Common.{◌≡◌, ◌∙◌, ◌+◌, ◌≤◌, ◌++◌, ◌∷◌, [], ℕ, Bool, true, List, Option, None, Some, ap, append_assoc}
use Rattle.std.proofs.Common.{arith, cond, length, length-append, refl, subst, sym}
use Rattle.std.specs.Prelude.{Contains, IfSome, slice_get}
use Rattle.std.specs.List.{flat_map}
use Rattle.std.specs.Str.{is_utf8}
use Rattle.deny_base.specs.declared.files.File.{File}
use Rattle.deny_krates.proofs.NumberLemmas.{slice_get-right}
use Rattle.deny_base_lists.proofs.Members.{Contains-by_cases, no_member}
use Rattle.deny_spans.specs.ManifestScan.{AreNumbered, ManifestScan, ReadsAs, Reading, kept_as, kept_of}
use Rattle.deny_toml.specs.value.Value.{Value}
use Rattle.deny_toml.proofs.ParserLaws.{one_tree}

-- ---- trees

-- a text has one tree
pub reads_once : (text : List ℕ) (one other : Option Value) → ReadsAs text one → ReadsAs text other → one ≡ other
reads_once text None None a b = refl
reads_once text None (Some w) a b = absurd (a b.0 w b.1)
reads_once text (Some v) None a b = absurd (b a.0 v a.1)
reads_once text (Some v) (Some w) a b = ap (λ t. Some t) (one_tree text v w a.1 b.1)

-- ---- numbers

pub numbered_more : (n : ℕ) (ls : List ManifestScan) (l : ManifestScan) → AreNumbered n ls
    → IfSome l.read (λ r. r.number ≡ n + length (flat_map kept_of ls)) → AreNumbered n (ls ++ l ∷ [])
numbered_more n [] l are is =
    let none : n + 0 ≡ n = omega arith in
    (subst (λ (m : ℕ). IfSome l.read (λ r. r.number ≡ m)) none is, tt)
numbered_more n (x ∷ ls) l are is =
    let moved : n + length (kept_of x ++ flat_map kept_of ls) ≡ (n + length (kept_of x))
    + length (flat_map kept_of ls) =
    omega (arith, length-append (kept_of x) (flat_map kept_of ls)) in (
      are.0,
      numbered_more (n + length (kept_of x)) ls l are.1
          (subst (λ (m : ℕ). IfSome l.read (λ r. r.number ≡ m)) moved is),
    )

-- the files of manifests come behind the first number
pub numbered_behind : (n : ℕ) (ls : List ManifestScan) (l : ManifestScan) (r : Reading) → AreNumbered n ls
    → Contains ls l → l.read ≡ Some r → n ≤ r.number
numbered_behind n [] l r are member read = absurd (no_member l member)
numbered_behind n (x ∷ ls) l r are member read =
    Contains-by_cases x ls l member
    (λ same.
    let number : r.number ≡ n =
    subst (λ (o : Option Reading). IfSome o (λ q. q.number ≡ n)) (ap (λ (k : ManifestScan). k.read) same ∙ read)
    are.0 in
    omega (arith, number))
    (λ later. omega (arith, numbered_behind (n + length (kept_of x)) ls l r are.1 later read))

abbrev pub file_of : List ℕ → List ℕ → File
file_of path text = record { path = path; source = text }

-- the file that a text is kept as
pub kept_text : (path : List ℕ) (r : Reading) → is_utf8 r.text ≡ true
    → kept_as path (Some r) ≡ file_of path r.text ∷ []
kept_text path r is = ap (λ (b : Bool). cond b (file_of path r.text ∷ []) []) is

kept_here : (l : ManifestScan) (r : Reading) → l.read ≡ Some r → is_utf8 r.text ≡ true
    → kept_of l ≡ file_of l.crate.manifest_path r.text ∷ []
unfolding kept_of
kept_here l r read utf8 = ap (kept_as l.crate.manifest_path) read ∙ kept_text l.crate.manifest_path r utf8

-- the file of a manifest is the one with its number
pub kept_at : (n : ℕ) (before : List File) (ls : List ManifestScan) (behind : List File) (l : ManifestScan)
    (r : Reading)
    → n ≡ length before → AreNumbered n ls → Contains ls l → l.read ≡ Some r → is_utf8 r.text ≡ true
    → slice_get (before ++ (flat_map kept_of ls ++ behind)) r.number ≡ Some (file_of l.crate.manifest_path r.text)
kept_at n before [] behind l r start are member read utf8 = absurd (no_member l member)
kept_at n before (x ∷ ls) behind l r start are member read utf8 = Contains-by_cases x ls l member
    (λ same.
    let kept : kept_of x ≡ file_of l.crate.manifest_path r.text ∷ [] = ap kept_of same ∙ kept_here l r read utf8 in
    let number : r.number ≡ n = subst (λ (o : Option Reading). IfSome o (λ q. q.number ≡ n))
    (ap (λ (y : ManifestScan). y.read) same ∙ read) are.0 in
    let at : r.number ≡ length before + 0 = omega arith in
    slice_get-right before ((kept_of x ++ flat_map kept_of ls) ++ behind) r.number 0 at
    ∙ ap (λ (fs : List File). slice_get ((fs ++ flat_map kept_of ls) ++ behind) 0) kept)
    (λ later.
    let longer : n + length (kept_of x) ≡ length (before ++ kept_of x) =
    omega (arith, length-append before (kept_of x)) in
    ap (λ (fs : List File). slice_get fs r.number)
    (ap (λ (fs : List File). before ++ fs) (append_assoc (kept_of x) (flat_map kept_of ls) behind)
    ∙ sym (append_assoc before (kept_of x) (flat_map kept_of ls ++ behind)))
    ∙ kept_at (n + length (kept_of x)) (before ++ kept_of x) ls behind l r longer are.1 later read utf8)
