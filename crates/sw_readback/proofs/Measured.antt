-- How deep trees of the same names are, and that canonical text opens as many nestings as are measured.
use Rattle.std.specs.Prelude.{◌≡◌, ℕ, ◌+◌, max, Bool, List, ◌∷◌, map}
use Rattle.std.proofs.Common.{refl, sym, ap, ◌∙◌, rules}
use Rattle.sw_logic.specs.Canonical.{Shown}
use Rattle.sw_trees.specs.declared.words.Word.{Word}
use Rattle.sw_trees.specs.declared.tree.Binder.{Binder}
use Rattle.sw_trees.specs.declared.tree.TermTree as term_trees
use Rattle.sw_trees.specs.declared.tree.TermTree.{TermTree}
use Rattle.sw_trees.specs.declared.tree.TermTree.TheVariants as term
use Rattle.sw_trees.specs.declared.tree.Tree as trees
use Rattle.sw_trees.specs.declared.tree.Tree.{Tree}
use Rattle.sw_trees.specs.declared.tree.Tree.TheVariants as tree
use Rattle.sw_trees.specs.Measures.{Nestings, greatest, longest_path, term_nestings, nestings_of, operands, bare, bracketed}
use Rattle.sw_readback.proofs.Tidy.{TidyTerm, TidyTerms, Tidy, TidyRun, SameTerm, SameTerms, Same, SameRun, level}

path_Atom : (t : TermTree) → longest_path (tree.Atom t) ≡ 0
path_Atom t = search (rules, trees.the_lemmas)

path_Equal : (t u : TermTree) → longest_path (tree.Equal t u) ≡ 0
path_Equal t u = search (rules, trees.the_lemmas)

path_Not : (p : Tree) → longest_path (tree.Not p) ≡ longest_path p
path_Not p = search (rules, trees.the_lemmas)

path_All : (ps : List Tree) → longest_path (tree.All ps) ≡ greatest (map longest_path ps)
path_All ps = search (rules, trees.the_lemmas)

path_Any : (ps : List Tree) → longest_path (tree.Any ps) ≡ greatest (map longest_path ps)
path_Any ps = search (rules, trees.the_lemmas)

path_Implies : (p q : Tree) → longest_path (tree.Implies p q) ≡ max (longest_path p) (longest_path q)
path_Implies p q = search (rules, trees.the_lemmas)

path_Iff : (p q : Tree) → longest_path (tree.Iff p q) ≡ max (longest_path p) (longest_path q) + 1
path_Iff p q = search (rules, trees.the_lemmas)

path_Quantified : (u : Bool) (bs : List Binder) (p : Tree) → longest_path (tree.Quantified u bs p) ≡ longest_path p
path_Quantified u bs p = search (rules, trees.the_lemmas)

count_Named : (w : Word) (primed : Bool) → term_nestings (term.Named w primed) ≡ 0
count_Named w primed = search (rules, term_trees.the_lemmas)

count_Applied : (w : Word) (primed : Bool) (ts : List TermTree) → term_nestings (term.Applied w primed ts) ≡ greatest (map term_nestings ts) + 1
count_Applied w primed ts = search (rules, term_trees.the_lemmas)

count_Constant : (value : Bool) → nestings_of (tree.Constant value) ≡ bare 0
count_Constant value = search (rules, trees.the_lemmas)

count_Atom : (t : TermTree) → nestings_of (tree.Atom t) ≡ bare (term_nestings t)
count_Atom t = search (rules, trees.the_lemmas)

count_Equal : (t u : TermTree) → nestings_of (tree.Equal t u) ≡ level (max (term_nestings t) (term_nestings u))
count_Equal t u = search (rules, trees.the_lemmas)

count_Not : (p : Tree) → nestings_of (tree.Not p) ≡ bare (nestings_of p).negated
count_Not p = search (rules, trees.the_lemmas)

count_All : (ps : List Tree) → nestings_of (tree.All ps) ≡ bracketed (operands (map nestings_of ps))
count_All ps = search (rules, trees.the_lemmas)

count_Any : (ps : List Tree) → nestings_of (tree.Any ps) ≡ bracketed (operands (map nestings_of ps))
count_Any ps = search (rules, trees.the_lemmas)

count_Implies : (p q : Tree) → nestings_of (tree.Implies p q) ≡ bracketed (max (nestings_of p).operand ((nestings_of q).operand + 1))
count_Implies p q = search (rules, trees.the_lemmas)

count_Iff : (p q : Tree) → nestings_of (tree.Iff p q) ≡ bracketed (max (nestings_of p).operand ((nestings_of q).operand + 1))
count_Iff p q = search (rules, trees.the_lemmas)

count_Quantified : (u : Bool) (bs : List Binder) (p : Tree) → nestings_of (tree.Quantified u bs p) ≡ bracketed ((nestings_of p).alone + 1)
count_Quantified u bs p = search (rules, trees.the_lemmas)

pub two : {X Y Z : Type 0} (f : X → Y → Z) (x x' : X) (y y' : Y) → x ≡ x' → y ≡ y' → f x y ≡ f x' y'
two f x x' y y' d e = ap (λ z. f z y) d ∙ ap (f x') e

abbrev nests : Nestings → Nestings → Nestings
nests m n = bracketed (max m.operand (n.operand + 1))

module _ {A T : List ℕ} where
  mutual
    pub same_path : {p q : Tree} → Same A T p q → longest_path q ≡ longest_path p
    same_path (Same.constant value) = refl
    same_path (Same.atom {t = t} {u = u} h) = path_Atom u ∙ sym (path_Atom t)
    same_path (Same.equal {t = t} {u = u} {t' = t'} {u' = u'} h k) = path_Equal t' u' ∙ sym (path_Equal t u)
    same_path (Same.negated {p = p} {q = q} h) = path_Not q ∙ same_path h ∙ sym (path_Not p)
    same_path (Same.all {ps = ps} {qs = qs} h) = path_All qs ∙ ap greatest (same_paths h) ∙ sym (path_All ps)
    same_path (Same.any {ps = ps} {qs = qs} h) = path_Any qs ∙ ap greatest (same_paths h) ∙ sym (path_Any ps)
    same_path (Same.implies {p = p} {q = q} {p' = p'} {q' = q'} h k) = path_Implies p' q' ∙ two max _ _ _ _ (same_path h) (same_path k) ∙ sym (path_Implies p q)
    same_path (Same.iff {p = p} {q = q} {p' = p'} {q' = q'} h k) = path_Iff p' q' ∙ two (λ m n. max m n + 1) _ _ _ _ (same_path h) (same_path k) ∙ sym (path_Iff p q)
    same_path (Same.quantified {bs = bs} {cs = cs} {p = p} {q = q} u b h) = path_Quantified u cs q ∙ same_path h ∙ sym (path_Quantified u bs p)

    same_paths : {ps qs : List Tree} → SameRun A T ps qs → map longest_path qs ≡ map longest_path ps
    same_paths SameRun.no_more = refl
    same_paths (SameRun.one_more h k) = two (λ m ms. m ∷ ms) _ _ _ _ (same_path h) (same_paths k)

  mutual
    same_count : {t u : TermTree} → SameTerm A T t u → term_nestings u ≡ term_nestings t
    same_count (SameTerm.named {w = w} {u = u} primed e) = count_Named u primed ∙ sym (count_Named w primed)
    same_count (SameTerm.applied {w = w} {u = u} {ts = ts} {us = us} primed e h) = count_Applied u primed us ∙ ap (λ ns. greatest ns + 1) (same_counts h) ∙ sym (count_Applied w primed ts)

    same_counts : {ts us : List TermTree} → SameTerms A T ts us → map term_nestings us ≡ map term_nestings ts
    same_counts SameTerms.no_terms = refl
    same_counts (SameTerms.more_terms h k) = two (λ m ms. m ∷ ms) _ _ _ _ (same_count h) (same_counts k)

  mutual
    pub same_nestings : {p q : Tree} → Same A T p q → nestings_of q ≡ nestings_of p
    same_nestings (Same.constant value) = refl
    same_nestings (Same.atom {t = t} {u = u} h) = count_Atom u ∙ ap bare (same_count h) ∙ sym (count_Atom t)
    same_nestings (Same.equal {t = t} {u = u} {t' = t'} {u' = u'} h k) = count_Equal t' u' ∙ two (λ m n. level (max m n)) _ _ _ _ (same_count h) (same_count k) ∙ sym (count_Equal t u)
    same_nestings (Same.negated {p = p} {q = q} h) = count_Not q ∙ ap (λ (n : Nestings). bare n.negated) (same_nestings h) ∙ sym (count_Not p)
    same_nestings (Same.all {ps = ps} {qs = qs} h) = count_All qs ∙ ap (λ ns. bracketed (operands ns)) (same_runs h) ∙ sym (count_All ps)
    same_nestings (Same.any {ps = ps} {qs = qs} h) = count_Any qs ∙ ap (λ ns. bracketed (operands ns)) (same_runs h) ∙ sym (count_Any ps)
    same_nestings (Same.implies {p = p} {q = q} {p' = p'} {q' = q'} h k) = count_Implies p' q' ∙ two nests _ _ _ _ (same_nestings h) (same_nestings k) ∙ sym (count_Implies p q)
    same_nestings (Same.iff {p = p} {q = q} {p' = p'} {q' = q'} h k) = count_Iff p' q' ∙ two nests _ _ _ _ (same_nestings h) (same_nestings k) ∙ sym (count_Iff p q)
    same_nestings (Same.quantified {bs = bs} {cs = cs} {p = p} {q = q} u b h) = count_Quantified u cs q ∙ ap (λ (n : Nestings). bracketed (n.alone + 1)) (same_nestings h) ∙ sym (count_Quantified u bs p)

    same_runs : {ps qs : List Tree} → SameRun A T ps qs → map nestings_of qs ≡ map nestings_of ps
    same_runs SameRun.no_more = refl
    same_runs (SameRun.one_more h k) = two (λ (m : Nestings) (ms : List Nestings). m ∷ ms) _ _ _ _ (same_nestings h) (same_runs k)

module _ {A : List ℕ} where
  mutual
    tidy_count : {t : TermTree} {x : List ℕ} {n : ℕ} → TidyTerm A t x n → term_nestings t ≡ n
    tidy_count (TidyTerm.named {w = w} primed name) = count_Named w primed
    tidy_count (TidyTerm.applied {w = w} {t = t} {ts = ts} primed name h k) = count_Applied w primed (t ∷ ts) ∙ two (λ m n. max m n + 1) _ _ _ _ (tidy_count h) (tidy_counts k)

    tidy_counts : {ts : List TermTree} {x : List ℕ} {n : ℕ} → TidyTerms A ts x n → greatest (map term_nestings ts) ≡ n
    tidy_counts TidyTerms.no_terms = refl
    tidy_counts (TidyTerms.more_terms h k) = two max _ _ _ _ (tidy_count h) (tidy_counts k)

  mutual
    -- the nestings of canonical text are those that are measured
    pub tidy_nestings : {i v : ℕ} {p : Tree} {s : Shown} {n : Nestings} → Tidy A i v p s n → nestings_of p ≡ n
    tidy_nestings (Tidy.constant value) = count_Constant value
    tidy_nestings (Tidy.atom {t = t} h) = count_Atom t ∙ ap bare (tidy_count h)
    tidy_nestings (Tidy.equal {t = t} {u = u} h k) = count_Equal t u ∙ two (λ m n. level (max m n)) _ _ _ _ (tidy_count h) (tidy_count k)
    tidy_nestings (Tidy.negated {p = p} h) = count_Not p ∙ ap (λ (n : Nestings). bare n.negated) (tidy_nestings h)
    tidy_nestings (Tidy.all {p = p} {q = q} {ps = ps} h k) = count_All (p ∷ q ∷ ps) ∙ two (λ (m : Nestings) (l : ℕ). bracketed (max m.operand l)) _ _ _ _ (tidy_nestings h) (tidy_runs k)
    tidy_nestings (Tidy.any {p = p} {q = q} {ps = ps} h k) = count_Any (p ∷ q ∷ ps) ∙ two (λ (m : Nestings) (l : ℕ). bracketed (max m.operand l)) _ _ _ _ (tidy_nestings h) (tidy_runs k)
    tidy_nestings (Tidy.implies {p = p} {q = q} h k) = count_Implies p q ∙ two nests _ _ _ _ (tidy_nestings h) (tidy_nestings k)
    tidy_nestings (Tidy.iff {p = p} {q = q} l h k) = count_Iff p q ∙ two nests _ _ _ _ (tidy_nestings h) (tidy_nestings k)
    tidy_nestings (Tidy.quantified {b = b} {bs = bs} {p = p} u c d l h) = count_Quantified u (b ∷ bs) p ∙ ap (λ (n : Nestings). bracketed (n.alone + 1)) (tidy_nestings h)

    tidy_runs : {i v : ℕ} {sign : List ℕ} {ps : List Tree} {x : List ℕ} {k : ℕ} → TidyRun A sign i v ps x k → operands (map nestings_of ps) ≡ k
    tidy_runs TidyRun.no_more = refl
    tidy_runs (TidyRun.one_more h k) = two (λ (m : Nestings) (l : ℕ). max m.operand l) _ _ _ _ (tidy_nestings h) (tidy_runs k)
