-- Numbered clauses are worth what the named ones are.
use Rattle.std.proofs.Common.{◌≡◌, ℕ, Bool, true, false, List, [], ◌∷◌, Option, Some, None, refl, sym, ap, ◌∙◌, subst, inl, inr}
use Rattle.std.specs.Prelude.{All, ◌<◌, length, ◌==◌, ◌||◌, not, slice_get, if◌then◌else◌}
use Rattle.std.specs.List.{list_all, list_any, filter, AllByRecursion}
use Rattle.std.proofs.lemmas.Bool.{and_parts, and_from, cases_Bool, cases_eq, ne_eqb, false≢true}
use Rattle.std.proofs.lemmas.Option.{slice_get_within}
use Rattle.std.proofs.lemmas.List.Elements.{All-from_recursion}
use Rattle.sw_lists.proofs.Each.{each-filter}
use Rattle.std.proofs.lemmas.Map.Views.{any-filter_same}
use Rattle.sw_refute.specs.declared.clauses.Lit.{Lit}
use Rattle.sw_refute.specs.declared.clauses.Clause.{Clause}
use Rattle.sw_refute.specs.Satisfaction.{Assignment, variable, lit_holds, clause_holds, all_hold, IsOver}
use Rattle.sw_instances.specs.Named.{Name, Literal, literal_holds, named_holds}
use Rattle.sw_instances.specs.Numbered.{Beside, IsLiteral, once, IsClause}

module _ (v : Name → Bool) where
  abbrev worth : Option Name → Bool
  worth None = false
  worth (Some n) = v n

  module _ (names : List Name) where
    -- a variable is worth what its name is
    abbrev pub assigned : Assignment
    assigned n = worth (slice_get names n)

    literal_same : (l : Literal) (m : Lit) → IsLiteral names l m → lit_holds assigned m ≡ literal_holds v l
    literal_same l m h =
        let value : assigned (variable m) ≡ v l.name = ap worth h.variable in
        ap (λ (b : Bool). if b then assigned (variable m) else not (assigned (variable m))) h.sign
        ∙ ap (λ (x : Bool). if l.positive then x else not x) value

    literals_same : (ls : List Literal) (ms : List Lit) → Beside (IsLiteral names) ls ms → list_any (lit_holds assigned) ms ≡ named_holds v ls
    literals_same [] [] h = refl
    literals_same [] (m ∷ ms) h = absurd h
    literals_same (l ∷ ls) [] h = absurd h
    literals_same (l ∷ ls) (m ∷ ms) h =
        ap (λ x. x || list_any (lit_holds assigned) ms) (literal_same l m h.0) ∙ ap (λ x. literal_holds v l || x) (literals_same ls ms h.1)

    other : (l m : Lit) → lit_holds assigned l ≡ false → lit_holds assigned m ≡ true → not (m.0 == l.0) ≡ true
    other l m f t = elim (cases_eq m.0 l.0) [
      | inl e ↦ absurd (false≢true (sym f ∙ ap (λ (n : ℕ). lit_holds assigned (record { 0 = n })) (sym e) ∙ t))
      | inr d ↦ ap not (ne_eqb m.0 l.0 d)
    ]

    -- equal literals once
    once_same : (ms : List Lit) → list_any (lit_holds assigned) (once ms) ≡ list_any (lit_holds assigned) ms
    once_same [] = refl
    once_same (l ∷ ls) = elim (cases_Bool (lit_holds assigned l)) [
      | inl t ↦ ap (λ x. x || list_any (lit_holds assigned) (filter (λ (m : Lit). not (m.0 == l.0)) (once ls))) t ∙ ap (λ x. x || list_any (lit_holds assigned) ls) (sym t)
      | inr f ↦
          ap (λ x. lit_holds assigned l || x)
          (any-filter_same (lit_holds assigned) (λ (m : Lit). not (m.0 == l.0)) true (λ m t. other l m f t) (once ls) ∙ once_same ls)
    ]

    clause_same : (ls : List Literal) (c : Clause) → IsClause names ls c → clause_holds assigned c ≡ named_holds v ls
    clause_same ls c h = ap (list_any (lit_holds assigned)) h.once ∙ once_same h.numbered ∙ literals_same ls h.numbered h.beside

    pub clauses_hold : (named : List (List Literal)) (cs : List Clause) → Beside (IsClause names) named cs → list_all (named_holds v) named ≡ true → all_hold assigned cs ≡ true
    clauses_hold [] [] h t = refl
    clauses_hold [] (c ∷ cs) h t = absurd h
    clauses_hold (ls ∷ named) [] h t = absurd h
    clauses_hold (ls ∷ named) (c ∷ cs) h t =
        let both = and_parts (named_holds v ls) (list_all (named_holds v) named) t in
        and_from _ _ (clause_same ls c h.0 ∙ both.0) (clauses_hold named cs h.1 both.1)

-- numbered literals are over the variables
numbered_over : (names : List Name) (ls : List Literal) (ms : List Lit) → Beside (IsLiteral names) ls ms → AllByRecursion (λ (m : Lit). variable m < length names) ms
numbered_over names [] [] h = tt
numbered_over names [] (m ∷ ms) h = absurd h
numbered_over names (l ∷ ls) [] h = absurd h
numbered_over names (l ∷ ls) (m ∷ ms) h = (slice_get_within names (variable m) l.name h.0.variable, numbered_over names ls ms h.1)

once_over : (n : ℕ) (ms : List Lit) → AllByRecursion (λ (m : Lit). variable m < n) ms → AllByRecursion (λ (m : Lit). variable m < n) (once ms)
once_over n [] h = tt
once_over n (l ∷ ls) h = (h.0, each-filter (λ (m : Lit). variable m < n) (λ (m : Lit). not (m.0 == l.0)) (once ls) (once_over n ls h.1))

clause_over : (names : List Name) (ls : List Literal) (c : Clause) → IsClause names ls c → IsOver (length names) c
clause_over names ls c h =
    let P : Lit → Type 0 = λ m. variable m < length names in
    subst (All P) (sym h.once) (All-from_recursion P (once h.numbered) (once_over (length names) h.numbered (numbered_over names ls h.numbered h.beside)))

pub clauses_over : (names : List Name) (named : List (List Literal)) (cs : List Clause) → Beside (IsClause names) named cs → AllByRecursion (IsOver (length names)) cs
clauses_over names [] [] h = tt
clauses_over names [] (c ∷ cs) h = absurd h
clauses_over names (ls ∷ named) [] h = absurd h
clauses_over names (ls ∷ named) (c ∷ cs) h = (clause_over names ls c h.0, clauses_over names named cs h.1)

pub well_formed : (names : List Name) (named : List (List Literal)) (variables : ℕ) (cs : List Clause) → variables ≡ length names → Beside (IsClause names) named cs → All (IsOver variables) cs
well_formed names named variables cs e h =
    subst (λ n. All (IsOver n) cs) (sym e) (All-from_recursion (IsOver (length names)) cs (clauses_over names named cs h))
