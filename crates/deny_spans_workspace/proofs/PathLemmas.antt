-- A path one level up, by its last component.
use Rattle.std.proofs.Common.{◌≡◌, ◌++◌, ℕ, List, [], ◌∷◌, true, false, refl, sym, ap, ◌∙◌, append_assoc, append-nil}
use Rattle.std.specs.Path.{parent_dir, root_dir}
use Rattle.deny_spec.specs.Text.{same_text}
use Rattle.deny_spans_workspace.specs.Paths.{above}

above_last : (prefix : List (List ℕ)) (last : List ℕ) → above (prefix ++ last ∷ []) ≡ prefix ++ above (last ∷ [])
unfolding above
above_last [] last = refl
above_last (part ∷ []) last = refl
above_last (part ∷ next ∷ more) last = ap (λ parts. part ∷ parts) (above_last (next ∷ more) last)

pub root_stays : (parts prefix : List (List ℕ)) (last : List ℕ) → parts ≡ prefix ++ last ∷ []
    → same_text last root_dir ≡ true → prefix ++ last ∷ [] ≡ above parts
unfolding above
root_stays parts prefix last is root =
    sym (ap above is ∙ above_last prefix last ∙ ap (λ parts. prefix ++ parts) (rw root refl))

pub up_stays : (parts prefix : List (List ℕ)) (last : List ℕ) → parts ≡ prefix ++ last ∷ []
    → same_text last root_dir ≡ false → same_text last parent_dir ≡ true
    → (prefix ++ last ∷ []) ++ parent_dir ∷ [] ≡ above parts
unfolding above
up_stays parts prefix last is other up =
    sym (ap above is ∙ above_last prefix last ∙ ap (λ parts. prefix ++ parts) (rw (other, up) refl)
    ∙ sym (append_assoc prefix (last ∷ []) (parent_dir ∷ [])))

pub name_goes : (parts prefix : List (List ℕ)) (last : List ℕ) → parts ≡ prefix ++ last ∷ []
    → same_text last root_dir ≡ false → same_text last parent_dir ≡ false → prefix ≡ above parts
unfolding above
name_goes parts prefix last is other name =
    sym (ap above is ∙ above_last prefix last ∙ ap (λ parts. prefix ++ parts) (rw (other, name) refl)
    ∙ append-nil prefix)
