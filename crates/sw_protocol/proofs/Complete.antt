-- Words that spell declarations are read as those declarations.
use Rattle.std.proofs.Common.{◌≡◌, ℕ, Bool, true, false, List, [], ◌∷◌, ◌++◌, length, Option, Some, None, refl, sym, ap, subst}
use Rattle.std.specs.Prelude.{option_map}
use Rattle.std.proofs.lemmas.List.{append-nil, append_assoc}
use Rattle.sw_trees.specs.declared.words.Keyword.{Keyword}
use Rattle.sw_trees.specs.declared.words.Sign.{Sign}
use Rattle.sw_trees.specs.declared.words.Word.{Word}
use Rattle.sw_trees.specs.declared.tree.Binder.{Binder}
use Rattle.sw_trees.specs.declared.tree.Tree.{Tree}
use Rattle.sw_trees.specs.declared.tree.TermTree.{TermTree}
use Rattle.sw_trees.specs.declared.frames.Frame.{Frame}
use Rattle.sw_trees.specs.declared.machine.Stage.{Stage}
use Rattle.sw_trees.specs.declared.machine.Last.{Last}
use Rattle.sw_trees.specs.declared.machine.State as formula
use Rattle.sw_trees.specs.Grammar.{Mark, Is, no_loads, End, IsFormula}
use Rattle.sw_trees.specs.Machine as machine
use Rattle.sw_trees.proofs.Reading as text_reading
use Rattle.sw_trees.proofs.Complete.{formula_complete}
use Rattle.sw_protocol.specs.declared.tree.Statement.{Statement}
use Rattle.sw_protocol.specs.declared.tree.Heading.{Heading}
use Rattle.sw_protocol.specs.declared.tree.Declaration.{Declaration}
use Rattle.sw_protocol.specs.declared.phases.Naming.{Naming}
use Rattle.sw_protocol.specs.declared.phases.Typing.{Typing}
use Rattle.sw_protocol.specs.declared.phases.Listing.{Listing}
use Rattle.sw_protocol.specs.declared.phases.Owner.{Owner}
use Rattle.sw_protocol.specs.declared.phases.Phase.{Phase}
use Rattle.sw_protocol.specs.Grammar.{change, statement, EndsFormula, with_params, AreNames, AreBracketed, AreSorts, IsParam, AreParams, MayTake, MayModify, IsHeading, IsDeclaration, AreDeclarations}
use Rattle.sw_protocol.specs.Machine.{formula_of, params_of, owned, closed, gone, alone_of, next_by, typed}
use Rattle.sw_protocol.proofs.Reading.{at, Reads, reads_on, shows, reads_one, reads_end}

-- no formula has a semicolon
term_none : (fs : List Frame) (t : TermTree) → machine.after_term fs t Sign.Semicolon ≡ None
term_none [] t = refl
term_none (Frame.Arguments w p ts ∷ fs) t = refl
term_none (Frame.LeftSide u n ∷ fs) t = refl
term_none (f ∷ fs) t = refl

header_none : (fs : List Frame) (u : Bool) (bs : List Binder) (stage : Stage) (w : Word) → machine.in_header fs u bs stage w Sign.Semicolon ≡ None
header_none fs u bs Stage.Variable w = refl
header_none fs u bs (Stage.Colon n) w = refl
header_none fs u bs (Stage.Sort n) w = refl
header_none fs u bs Stage.Next w = refl

pub no_semicolon : (last : Last) (fs : List Frame) (w : Word) → machine.step_by last fs w Sign.Semicolon ≡ None
no_semicolon Last.Want fs w = refl
no_semicolon Last.WantTerm fs w = refl
no_semicolon (Last.Name n) fs w = term_none fs _
no_semicolon (Last.Primed n) fs w = term_none fs _
no_semicolon (Last.Term t) fs w = term_none fs t
no_semicolon (Last.Operand y) fs w = refl
no_semicolon (Last.Header u bs stage) fs w = header_none fs u bs stage w

module _ (text : List ℕ) where
  -- a word that the formula's machine reads
  pub word_lifts : (o : Owner) (s t : formula.State) (w : Word) (sign : Sign) → machine.step_by s.last s.stack w sign ≡ Some t → next_by text (Phase.Formula o s) w sign ≡ Some (gone sign (Phase.Formula o t))
  word_lifts o s t w Sign.Semicolon e = let none = no_semicolon s.last s.stack w in cc
  word_lifts o s t w sign e = ap (λ (x : Option formula.State). option_map (gone sign) (option_map (Phase.Formula o) x)) e

  -- a formula that may end ends its declaration
  pub formula_ends : (o : Owner) (s : formula.State) (w : Word) (x : Tree) → machine.finish s ≡ Some x → next_by text (Phase.Formula o s) w Sign.Semicolon ≡ Some (closed (alone_of (Some x)) (owned o x))
  formula_ends o s w x e = ap (λ (f : Option Tree). option_map (closed (alone_of f)) (option_map (owned o) f)) e

  module _ (ds : List Declaration) where
    pub lifts : (o : Owner) {s t : formula.State} {ms rest : List Mark} → text_reading.Reads (with_params (params_of o)) s ms t rest → Reads text (at ds (Phase.Formula o s)) ms (at ds (Phase.Formula o t)) rest
    lifts o text_reading.Reads.here = Reads.here
    lifts o {s = s} (text_reading.Reads.more {t = t} m e l r) = Reads.more m (gone m.word.sign (Phase.Formula o t)) (word_lifts o s t m.word m.word.sign e) l (lifts o r)

    formula_read : (o : Owner) {ms rest : List Mark} {e : End} {i : Bool} {x : Tree} (m : Mark) → IsFormula (with_params (params_of o)) e i ms x (m ∷ rest) → EndsFormula x m →
        Reads text (at ds (formula_of o)) ms (at (ds ++ owned o x ∷ []) Phase.Begin) rest
    formula_read o {ms} {rest} {e} {i} {x} m h k =
        let r = formula_complete (with_params (params_of o)) e i ms x (m ∷ rest) h in
        reads_on text (lifts o r.reads) (reads_end text ds (Phase.Formula o r.to) (owned o x) m k (formula_ends o r.to m.word x r.ends) Reads.here)

    comma : (l : Listing) (ns : List Word) (w : Word) → next_by text (Phase.Listed l ns) w Sign.Comma ≡ Some (gone Sign.Comma (Phase.List l ns))
    comma (Listing.Relation mutable n) ns w = refl
    comma (Listing.Function n) ns w = refl
    comma (Listing.Modified n bs) ns w = refl

    names_read : (l : Listing) {ms rest : List Mark} {ns : List Word} → AreNames ms ns rest → Reads text (at ds (Phase.List l [])) ms (at ds (Phase.Listed l ns)) rest
    names_read l (AreNames.one_name n h) = reads_one text ds (Phase.List l []) (Phase.Listed l (n.word ∷ [])) n h refl Reads.here
    names_read l (AreNames.more_names {ns = ns} m n hs c h) =
        reads_on text (names_read l hs)
        (reads_one text ds (Phase.Listed l ns) (Phase.List l ns) m c (comma l ns m.word)
        (reads_one text ds (Phase.List l ns) (Phase.Listed l (ns ++ n.word ∷ [])) n h refl Reads.here))

    param_read : (n : Word) (bs : List Binder) {ms rest : List Mark} {b : Binder} → IsParam text (length bs) ms b rest →
        Reads text (at ds (Phase.Params n bs Stage.Variable)) ms (at ds (Phase.Params n (bs ++ b ∷ []) Stage.Next)) rest
    param_read n bs (IsParam.param v c s new colon sort) =
        reads_one text ds (Phase.Params n bs Stage.Variable) (Phase.Params n bs (Stage.Colon v.word)) v new.name
        (ap (option_map (gone Sign.Name)) (shows text v.word (Phase.Params n bs (Stage.Colon v.word)) new.shown))
        (reads_one text ds (Phase.Params n bs (Stage.Colon v.word)) (Phase.Params n bs (Stage.Sort v.word)) c colon refl
        (reads_one text ds (Phase.Params n bs (Stage.Sort v.word)) (Phase.Params n (bs ++ record { name = v.word; sort = s.word } ∷ []) Stage.Next) s sort refl Reads.here))

    params_read : (n : Word) {ms rest : List Mark} {bs : List Binder} → AreParams text ms bs rest → Reads text (at ds (Phase.Params n [] Stage.Variable)) ms (at ds (Phase.Params n bs Stage.Next)) rest
    params_read n (AreParams.one_param h) = param_read n [] h
    params_read n (AreParams.more_params {bs = bs} m hs c h) =
        reads_on text (params_read n hs)
        (reads_one text ds (Phase.Params n bs Stage.Next) (Phase.Params n bs Stage.Variable) m c refl (param_read n bs h))

    -- where a transition's parameters were read: what may follow
    record Taken (n : Word) (ms : List Mark) (bs : List Binder) (rest : List Mark) : Type 0 where
      to : Phase
      reads : Reads text (at ds (Phase.Transition n)) ms (at ds to) rest
      modifies : (w : Word) → next_by text to w (Sign.Keyword Keyword.Modifies) ≡ Some (gone (Sign.Keyword Keyword.Modifies) (Phase.List (Listing.Modified n bs) []))
      colon : (w : Word) → next_by text to w Sign.Colon ≡ Some (gone Sign.Colon (formula_of (Owner.Transition (record { name = n; params = bs; modifies = [] }))))

    taken : (n : Word) {ms rest : List Mark} {bs : List Binder} → MayTake text ms bs rest → Taken n ms bs rest
    taken n MayTake.no_params = record { to = Phase.Transition n; reads = Reads.here; modifies = λ w. refl; colon = λ w. refl }
    taken n (MayTake.some_params {bs = bs} l r left h right) = record {
      to = Phase.Heading n bs;
      reads =
          reads_one text ds (Phase.Transition n) (Phase.Params n [] Stage.Variable) l left refl
          (reads_on text (params_read n h) (reads_one text ds (Phase.Params n bs Stage.Next) (Phase.Heading n bs) r right refl Reads.here));
      modifies = λ w. refl;
      colon = λ w. refl;
    }

    modified : (n : Word) (bs : List Binder) {ms us rest : List Mark} {ns : List Word} (c : Mark) → Taken n ms bs us → MayModify us ns (c ∷ rest) → Is Sign.Colon no_loads c →
        Reads text (at ds (Phase.Transition n)) ms (at ds (formula_of (Owner.Transition (record { name = n; params = bs; modifies = ns })))) rest
    modified n bs c t MayModify.modifies_none colon = reads_on text t.reads (reads_one text ds t.to _ c colon (t.colon c.word) Reads.here)
    modified n bs c t (MayModify.modifies {ns = ns} k key names) colon =
        reads_on text t.reads
        (reads_one text ds t.to (Phase.List (Listing.Modified n bs) []) k key (t.modifies k.word)
        (reads_on text (names_read (Listing.Modified n bs) names)
        (reads_one text ds (Phase.Listed (Listing.Modified n bs) ns) _ c colon refl Reads.here)))

    heading_read : {ms rest : List Mark} {h : Heading} → IsHeading text ms h rest → Reads text (at ds (Phase.Name Naming.Transition)) ms (at ds (formula_of (Owner.Transition h))) rest
    heading_read (IsHeading.heading {bs = bs} n c new takes after colon) =
        reads_one text ds (Phase.Name Naming.Transition) (Phase.Transition n.word) n new.name (ap (option_map (gone Sign.Name)) (shows text n.word _ new.shown))
        (modified n.word bs c (taken n.word takes) after colon)

    changes : (mutable : Bool) (w : Word) → next_by text Phase.Begin w (Sign.Keyword (change mutable)) ≡ Some (gone (Sign.Keyword (change mutable)) (Phase.Change mutable))
    changes true w = refl
    changes false w = refl

    states : (kind : Statement) (w : Word) → next_by text Phase.Begin w (Sign.Keyword (statement kind)) ≡ Some (record { whole = None; phase = formula_of (Owner.Stated kind); loads = no_loads })
    states Statement.Axiom w = refl
    states Statement.Init w = refl
    states Statement.Safety w = refl

    relates : (mutable : Bool) (w : Word) → next_by text (Phase.Change mutable) w (Sign.Keyword Keyword.Relation) ≡ Some (gone (Sign.Keyword Keyword.Relation) (Phase.Name (Naming.Relation mutable)))
    relates true w = refl
    relates false w = refl

    fixes : (mutable : Bool) (w : Word) → next_by text (Phase.Change mutable) w (Sign.Keyword Keyword.Constant) ≡ Some (gone (Sign.Keyword Keyword.Constant) (Phase.Name (Naming.Constant mutable)))
    fixes true w = refl
    fixes false w = refl

    bracketed_read : (l : Listing) (p : Phase) → ((w : Word) → next_by text p w Sign.LeftRound ≡ Some (gone Sign.LeftRound (Phase.List l []))) → {ms rest : List Mark} {ns : List Word} → AreBracketed ms ns rest →
        (q : List Word → Phase) → ((ns : List Word) (w : Word) → next_by text (Phase.Listed l ns) w Sign.RightRound ≡ Some (record { whole = None; phase = q ns; loads = no_loads })) → Reads text (at ds p) ms (at ds (q ns)) rest
    bracketed_read l p opens {ns = ns} (AreBracketed.bracketed a z left names right) q closes =
        reads_one text ds p (Phase.List l []) a left (opens a.word)
        (reads_on text (names_read l names) (reads_one text ds (Phase.Listed l ns) (q ns) z right (closes ns z.word) Reads.here))

    sorts_read : (mutable : Bool) (n : Word) {ms rest : List Mark} {ss : List Word} (e : Mark) → AreSorts ms ss (e ∷ rest) → Is Sign.Semicolon no_loads e →
        Reads text (at ds (Phase.Relation mutable n)) ms (at (ds ++ Declaration.Relation mutable n ss ∷ []) Phase.Begin) rest
    sorts_read mutable n e AreSorts.no_sorts h = reads_end text ds (Phase.Relation mutable n) (Declaration.Relation mutable n []) e h refl Reads.here
    sorts_read mutable n {ss = ss} e (AreSorts.some_sorts names) h =
        reads_on text (bracketed_read (Listing.Relation mutable n) (Phase.Relation mutable n) (λ w. refl) names (λ ns. Phase.End (Declaration.Relation mutable n ns)) (λ ns w. refl))
        (reads_end text ds (Phase.End (Declaration.Relation mutable n ss)) (Declaration.Relation mutable n ss) e h refl Reads.here)

    typed_read : (t : Typing) {rest : List Mark} (d s e : Mark) → Is Sign.Colon no_loads d → Is Sign.Name no_loads s → Is Sign.Semicolon no_loads e →
        Reads text (at ds (Phase.Colon t)) (d ∷ s ∷ e ∷ rest) (at (ds ++ typed t s.word ∷ []) Phase.Begin) rest
    typed_read t d s e hd hs he =
        reads_one text ds (Phase.Colon t) (Phase.Sort t) d hd refl
        (reads_one text ds (Phase.Sort t) (Phase.End (typed t s.word)) s hs refl
        (reads_end text ds (Phase.End (typed t s.word)) (typed t s.word) e he refl Reads.here))

    declaration_read : {ms rest : List Mark} {d : Declaration} → IsDeclaration text ms d rest → Reads text (at ds Phase.Begin) ms (at (ds ++ d ∷ []) Phase.Begin) rest
    declaration_read (IsDeclaration.sort k n e key new end) =
        reads_one text ds Phase.Begin (Phase.Name Naming.Sort) k key refl
        (reads_one text ds (Phase.Name Naming.Sort) (Phase.End (Declaration.Sort n.word)) n new.name (ap (option_map (gone Sign.Name)) (shows text n.word _ new.shown))
        (reads_end text ds (Phase.End (Declaration.Sort n.word)) (Declaration.Sort n.word) e end refl Reads.here))
    declaration_read (IsDeclaration.relation mutable c k n e changing key new sorts end) =
        reads_one text ds Phase.Begin (Phase.Change mutable) c changing (changes mutable c.word)
        (reads_one text ds (Phase.Change mutable) (Phase.Name (Naming.Relation mutable)) k key (relates mutable k.word)
        (reads_one text ds (Phase.Name (Naming.Relation mutable)) (Phase.Relation mutable n.word) n new.name (ap (option_map (gone Sign.Name)) (shows text n.word _ new.shown))
        (sorts_read mutable n.word e sorts end)))
    declaration_read (IsDeclaration.constant mutable c k n d s e changing key new colon sort end) =
        reads_one text ds Phase.Begin (Phase.Change mutable) c changing (changes mutable c.word)
        (reads_one text ds (Phase.Change mutable) (Phase.Name (Naming.Constant mutable)) k key (fixes mutable k.word)
        (reads_one text ds (Phase.Name (Naming.Constant mutable)) (Phase.Colon (Typing.Constant mutable n.word)) n new.name (ap (option_map (gone Sign.Name)) (shows text n.word _ new.shown))
        (typed_read (Typing.Constant mutable n.word) d s e colon sort end)))
    declaration_read (IsDeclaration.function {ss = ss} c k n d s e changing key new sorts colon sort end) =
        reads_one text ds Phase.Begin (Phase.Change false) c changing refl
        (reads_one text ds (Phase.Change false) (Phase.Name Naming.Function) k key refl
        (reads_one text ds (Phase.Name Naming.Function) (Phase.Function n.word) n new.name (ap (option_map (gone Sign.Name)) (shows text n.word _ new.shown))
        (reads_on text (bracketed_read (Listing.Function n.word) (Phase.Function n.word) (λ w. refl) sorts (λ ns. Phase.Colon (Typing.Function n.word ns)) (λ ns w. refl))
        (typed_read (Typing.Function n.word ss) d s e colon sort end))))
    declaration_read (IsDeclaration.stated kind k e key formula_is end) =
        reads_one text ds Phase.Begin (formula_of (Owner.Stated kind)) k key (states kind k.word) (formula_read (Owner.Stated kind) e formula_is end)
    declaration_read (IsDeclaration.transition {h = h} k e key head formula_is end) =
        reads_one text ds Phase.Begin (Phase.Name Naming.Transition) k key refl
        (reads_on text (heading_read head) (formula_read (Owner.Transition h) e formula_is end))

  pub declarations_read : (ds : List Declaration) {ms : List Mark} {es : List Declaration} → AreDeclarations text ms es → Reads text (at ds Phase.Begin) ms (at (ds ++ es) Phase.Begin) []
  declarations_read ds AreDeclarations.none = subst (λ (es : List Declaration). Reads text (at ds Phase.Begin) [] (at es Phase.Begin) []) (sym (append-nil ds)) Reads.here
  declarations_read ds {ms} (AreDeclarations.more {rest = rest} {d = d} {ds = es} h hs) =
      reads_on text (declaration_read ds h)
      (subst (λ (fs : List Declaration). Reads text (at (ds ++ d ∷ []) Phase.Begin) rest (at fs Phase.Begin) []) (append_assoc ds (d ∷ []) es) (declarations_read (ds ++ d ∷ []) hs))
