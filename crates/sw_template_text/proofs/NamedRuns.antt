-- The steps of looking up the sorts of runs.
use Rattle.std.specs.Prelude.{◌≡◌, ℕ, zero, suc, ◌+◌, ◌<◌, ◌≤◌, Bool, true, false, Some, List, [], ◌∷◌, ◌++◌, length, take, slice_get}
use Rattle.std.specs.List.{AllByRecursion}
use Rattle.std.specs.Str.{bytes_eq}
use Rattle.std.proofs.Common.{refl, arith, ap, sym, subst, ◌∙◌, below_more, get_or}
use Rattle.std.proofs.lemmas.Bool.{false≢true}
use Rattle.std.proofs.lemmas.Slice.Eq.{bytes_eq-Decides}
use Rattle.std.proofs.lemmas.Option.{none-some, same_Some}
use Rattle.std.proofs.Math.Seq.{take-length}
use Rattle.sw_logic.specs.declared.syntax.Signature.{Signature}
use Rattle.sw_meaning.specs.declared.template.Run.{Run}
use Rattle.sw_template_text.specs.declared.words.NamedRun.{NamedRun}
use Rattle.sw_template.specs.Prefix.{variable_count}
use Rattle.sw_template_text.specs.Texts.{Names, AreRuns}
use Rattle.sw_template.proofs.Numbered.{took}
use Rattle.sw_template.proofs.Termed.{item_of}

module _ (sig : Signature) (text : List ℕ) where
  are_more : (named : List NamedRun) (runs : List Run) (x : NamedRun) (y : Run) → AreRuns sig text named runs → y.universal ≡ x.universal → y.count ≡ x.count → Names sig text x y.sort
      → AreRuns sig text (named ++ x ∷ []) (runs ++ y ∷ [])
  are_more [] [] x y a e f n = (e, (f, (n, tt)))
  are_more [] (run ∷ runs) x y a e f n = absurd a
  are_more (first ∷ rest) [] x y a e f n = absurd a
  are_more (first ∷ rest) (run ∷ runs) x y a e f n = (a.0, (a.1.0, (a.1.1.0, are_more rest runs x y a.1.1.1 e f n)))

  pub run_more : (named : List NamedRun) (i : ℕ) (x : NamedRun) (runs new : List Run) (y : Run) → slice_get named i ≡ Some x → AreRuns sig text (take i named) runs → y.universal ≡ x.universal → y.count ≡ x.count → Names sig text x y.sort
      → new ≡ runs ++ y ∷ [] → AreRuns sig text (take (i + 1) named) new
  run_more named i x runs new y is a e f n added =
      subst (λ ns. AreRuns sig text ns new) (sym (took i named x is)) (subst (AreRuns sig text (take i named ++ x ∷ [])) (sym added) (are_more (take i named) runs x y a e f n))

  pub known : (named : List NamedRun) (runs : List Run) → AreRuns sig text named runs → AllByRecursion (λ r. (sort : ℕ) × Names sig text r sort) named
  known [] runs a = tt
  known (first ∷ rest) [] a = absurd a
  known (first ∷ rest) (run ∷ runs) a = ((run.sort, a.1.1.0), known rest runs a.1.1.1)

  pub whole : (named : List NamedRun) (i : ℕ) (runs : List Run) → length named ≤ i → i ≤ length named → AreRuns sig text (take i named) runs → AreRuns sig text named runs
  whole named i runs h k a =
      let same : i ≡ length named = omega arith in
      subst (λ ns. AreRuns sig text ns runs) (ap (λ n. take n named) same ∙ take-length named) a

count_last : (runs : List Run) (run : Run) → variable_count (runs ++ run ∷ []) ≡ variable_count runs + run.count
count_last [] run = omega arith
count_last (r ∷ runs) run = omega (arith, count_last runs run)

pub count_took : (runs : List Run) (i : ℕ) (run : Run) → slice_get runs i ≡ Some run → variable_count (take (i + 1) runs) ≡ variable_count (take i runs) + run.count
count_took runs i run e = ap variable_count (took i runs run e) ∙ count_last (take i runs) run

-- no sort before this place, none at it
pub none_more : (sorts : List (List ℕ)) (name : List ℕ) (n : ℕ) → ((k : ℕ) → k < n → slice_get sorts k ≡ Some name → ⊥) → (slice_get sorts n ≡ Some name → ⊥) → (k : ℕ) → k < n + 1 → slice_get sorts k ≡ Some name → ⊥
none_more sorts name n before here = below_more _ n before here

pub past : {X : Type 0} (xs : List X) (x : X) (k : ℕ) → slice_get xs k ≡ Some x → k < length xs
past [] x k e = absurd (none-some x e)
past (y ∷ ys) x zero e = omega arith
past (y ∷ ys) x (suc k) e = let rest : k < length ys = past ys x k e in omega arith

pub got_or : {X : Type 0} (n : ℕ) (xs : List X) (d : X) → n < length xs → slice_get xs n ≡ Some (get_or xs n d)
got_or n [] d h = absurd (omega arith)
got_or zero (x ∷ xs) d h = refl
got_or (suc n) (x ∷ xs) d h = got_or n xs d (omega arith)

pub named : (sorts items : List (List ℕ)) (n : ℕ) (bytes name x : List ℕ) (b : Bool) → items ≡ sorts → n < length items → x ≡ get_or items n x → b ≡ bytes_eq name x → b ≡ true → name ≡ bytes → slice_get sorts n ≡ Some bytes
named sorts items n bytes name x b e h is test passed same = item_of n sorts items x e h is ∙ ap Some (sym ((bytes_eq-Decides name x).0 (sym test ∙ passed)) ∙ same)

pub unnamed : (sorts items : List (List ℕ)) (n : ℕ) (name x : List ℕ) (b : Bool) → items ≡ sorts → n < length items → x ≡ get_or items n x → b ≡ bytes_eq name x → b ≡ false → slice_get sorts n ≡ Some name → ⊥
unnamed sorts items n name x b e h is test failed found =
    let same : x ≡ name = same_Some x name (sym (item_of n sorts items x e h is) ∙ found) in
    let passes : bytes_eq name x ≡ true = (bytes_eq-Decides name x).1 (sym same) in
    false≢true (sym failed ∙ (test ∙ passes))

pub none_named : (sorts items : List (List ℕ)) (n : ℕ) (bytes name : List ℕ) → items ≡ sorts → length items ≤ n → ((k : ℕ) → k < n → slice_get sorts k ≡ Some name → ⊥) → name ≡ bytes → (sort : ℕ) → slice_get sorts sort ≡ Some bytes → ⊥
none_named sorts items n bytes name e h none same sort found =
    let size : length items ≡ length sorts = ap length e in
    let low : sort < length sorts = past sorts bytes sort found in
    none sort (omega arith) (found ∙ ap Some (sym same))

pub counted_on : (runs : List Run) (i : ℕ) (d : Run) (count n : ℕ) → i < length runs → count ≡ variable_count (take i runs) → n ≡ (get_or runs i d).count → count + n ≡ variable_count (take (i + 1) runs)
counted_on runs i d count n h e f =
    let took : variable_count (take (i + 1) runs) ≡ variable_count (take i runs) + (get_or runs i d).count = count_took runs i (get_or runs i d) (got_or i runs d h) in
    omega (arith, took, e, f)
