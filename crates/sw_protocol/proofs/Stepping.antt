-- What the steps of the machine answer.
use Rattle.std.proofs.Common.{◌≡◌, inl, ℕ, ◌<◌, List, Option, Some, None, refl, sym, ap, subst, arith, ◌∙◌}
use Rattle.std.specs.Prelude.{option_map}
use Rattle.sw_trees.specs.declared.words.Sign.{Sign}
use Rattle.sw_trees.specs.declared.words.Word.{Word}
use Rattle.sw_trees.specs.declared.tree.Tree.{Tree}
use Rattle.sw_trees.specs.declared.limits.TheConstants.{NESTINGS}
use Rattle.sw_trees.specs.declared.machine.State as formula
use Rattle.sw_trees.specs.Measures.{nestings_of}
use Rattle.sw_trees.specs.Machine as machine
use Rattle.sw_protocol.specs.declared.tree.Declaration.{Declaration}
use Rattle.sw_protocol.specs.declared.phases.Owner.{Owner}
use Rattle.sw_protocol.specs.declared.phases.Phase.{Phase}
use Rattle.sw_protocol.specs.declared.phases.Move.{Move}
use Rattle.sw_protocol.specs.declared.parsing.Parsed.{Parsed}
use Rattle.sw_protocol.specs.Machine.{owned, walk, ended, nests, alone_of, closed, gone, next_by, next, finish_by}
use Rattle.sw_protocol.specs.Steps.{EndsBy, Answers, unfinished, Finishes}

-- a formula that ends here and is too deep
pub formula_deep : (p : Phase) (o : Owner) (s : formula.State) (x : Tree) → p ≡ Phase.Formula o s → machine.finish s ≡ Some x → NESTINGS < (nestings_of x).alone → ((d : Declaration) × (ended p ≡ Some d)) × (NESTINGS < nests p)
formula_deep p o s x e f h =
    subst (λ (q : Phase). ((d : Declaration) × (ended q ≡ Some d)) × (NESTINGS < nests q)) (sym e)
    ((owned o x, ap (option_map (owned o)) f), subst (λ (g : Option Tree). NESTINGS < alone_of g) (sym f) h)

-- what a semicolon does
pub semicolon_answers : (text : List ℕ) (p : Phase) (w : Word) → w.sign ≡ Sign.Semicolon → (r : Move) → EndsBy (ended p) (nests p) r → Answers (next text p w) (nests p) r
semicolon_answers text p w s (Move.Taken q) h = absurd h
semicolon_answers text p w s (Move.Whole d) h =
    ((closed (nests p) d).loads, ap (next_by text p w) s ∙ ap (option_map (closed (nests p))) h.0, record { nestings = h.1; path = omega arith; variables = omega arith })
semicolon_answers text p w s Move.Past h =
    inl (closed (nests p) h.0.0, ap (next_by text p w) s ∙ ap (option_map (closed (nests p))) h.0.1, λ k. let least = k.nestings in let most = h.1 in omega (arith, least, most))
semicolon_answers text p w s Move.Refused h = (ap (next_by text p w) s ∙ ap (option_map (closed (nests p))) h.0, h.1)

-- what another word does
pub walks : (text : List ℕ) (p : Phase) (w : Word) (sign : Sign) → (sign ≡ Sign.Semicolon → ⊥) → next_by text p w sign ≡ option_map (gone sign) (walk text p w sign)
walks text p w Sign.Semicolon h = absurd (h refl)
walks text p w sign h = refl

pub taken : (text : List ℕ) (p q : Phase) (w : Word) → (w.sign ≡ Sign.Semicolon → ⊥) → walk text p w w.sign ≡ Some q → next text p w ≡ Some (gone w.sign q)
taken text p q w h e = walks text p w w.sign h ∙ ap (option_map (gone w.sign)) e

pub unfinished_other : (r : Move) (count : ℕ) → (r ≡ Move.Past → ⊥) → unfinished r count ≡ Parsed.Syntax count
unfinished_other Move.Past count h = absurd (h refl)
unfinished_other _ count h = refl

-- nothing is whole within a declaration
within : (ds : List Declaration) (p : Phase) → (p ≡ Phase.Begin → ⊥) → finish_by p ds ≡ None
within ds Phase.Begin h = absurd (h refl)
within ds _ h = refl

-- the words end within a declaration
pub finishes : (ds : List Declaration) (p : Phase) (count : ℕ) → (p ≡ Phase.Begin → ⊥) → (r : Move) → EndsBy (ended p) (nests p) r → Finishes ds p count (unfinished r count)
finishes ds p count h (Move.Taken q) k = absurd k
finishes ds p count h (Move.Whole d) k = (refl, within ds p h, k.1)
finishes ds p count h Move.Past k = (refl, k.0, k.1)
finishes ds p count h Move.Refused k = (refl, within ds p h, k.1)
