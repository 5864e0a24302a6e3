-- Declarations that are read are spelled by the words.
use Rattle.std.proofs.Common.{◌≡◌, ℕ, ◌+◌, Bool, true, false, List, [], ◌∷◌, ◌++◌, length, Option, Some, None, refl, sym, ap, subst, ◌∙◌}
use Rattle.std.specs.Prelude.{option_map, IfSome}
use Rattle.std.proofs.lemmas.List.{append-nil, append_assoc}
use Rattle.sw_trees.specs.declared.words.Keyword.{Keyword}
use Rattle.sw_trees.specs.declared.words.Sign.{Sign}
use Rattle.sw_trees.specs.declared.words.Word.{Word}
use Rattle.sw_trees.specs.declared.tree.Binder.{Binder}
use Rattle.sw_trees.specs.declared.tree.Tree.{Tree}
use Rattle.sw_trees.specs.declared.machine.Stage.{Stage}
use Rattle.sw_trees.specs.declared.machine.State as formula
use Rattle.sw_trees.specs.Grammar.{Mark, Is, Context, no_loads, binding, End, IsFormula}
use Rattle.sw_trees.specs.Machine as machine
use Rattle.sw_text.specs.Names.{bytes_at}
use Rattle.sw_trees.proofs.Reduce.{by_test}
use Rattle.sw_trees.proofs.Reading as text_reading
use Rattle.sw_trees.proofs.Sound.{formula_sound}
use Rattle.sw_protocol.specs.declared.tree.Statement.{Statement}
use Rattle.sw_protocol.specs.declared.tree.Heading.{Heading}
use Rattle.sw_protocol.specs.declared.tree.Declaration.{Declaration}
use Rattle.sw_protocol.specs.declared.phases.Naming.{Naming}
use Rattle.sw_protocol.specs.declared.phases.Typing.{Typing}
use Rattle.sw_protocol.specs.declared.phases.Listing.{Listing}
use Rattle.sw_protocol.specs.declared.phases.Owner.{Owner}
use Rattle.sw_protocol.specs.declared.phases.Phase.{Phase}
use Rattle.sw_protocol.specs.Grammar.{is_hidden, IsNew, change, statement, IsKeyword, EndsFormula, with_params, AreNames, AreBracketed, AreSorts, IsParam, AreParams, MayTake, MayModify, IsHeading, IsDeclaration, AreDeclarations}
use Rattle.sw_protocol.specs.Machine.{named, shown, begin, changed, in_name, after_relation, after_function, after_transition, in_params, after_params, in_list, after_item, after_typing, typed, in_sort, params_of, owned, walk, ended, nests, loads_by, closed, gone, alone_of, Next, next_by, next, State, after, start, finish, finish_by}
use Rattle.sw_protocol.proofs.Reading.{Reads}
use Rattle.sw_protocol.proofs.Extend.{formula_on}

-- the declarations were read from all of the marks, and the rest follows
pub data Done (text : List ℕ) (all : List Mark) : List Declaration → List Mark → Type 0 where
  nothing : Done text all [] all
  one_more : {ds : List Declaration} {d : Declaration} {ms rest : List Mark} → Done text all ds ms → IsDeclaration text ms d rest → Done text all (ds ++ d ∷ []) rest

-- the keywords before a new name
pub data Heads : Naming → List Mark → List Mark → Type 0 where
  sort : {rest : List Mark} (k : Mark) → IsKeyword Keyword.Sort k → Heads Naming.Sort (k ∷ rest) rest
  relation : {rest : List Mark} (mutable : Bool) (c k : Mark) → IsKeyword (change mutable) c → IsKeyword Keyword.Relation k → Heads (Naming.Relation mutable) (c ∷ k ∷ rest) rest
  constant : {rest : List Mark} (mutable : Bool) (c k : Mark) → IsKeyword (change mutable) c → IsKeyword Keyword.Constant k → Heads (Naming.Constant mutable) (c ∷ k ∷ rest) rest
  function : {rest : List Mark} (c k : Mark) → IsKeyword Keyword.Immutable c → IsKeyword Keyword.Function k → Heads Naming.Function (c ∷ k ∷ rest) rest
  transition : {rest : List Mark} (k : Mark) → IsKeyword Keyword.Transition k → Heads Naming.Transition (k ∷ rest) rest

-- the first keyword of two
pub data Changes : Bool → List Mark → List Mark → Type 0 where
  changes : {rest : List Mark} (mutable : Bool) (c : Mark) → IsKeyword (change mutable) c → Changes mutable (c ∷ rest) rest

-- the keywords and the new name
pub data Named (text : List ℕ) : Naming → Word → List Mark → List Mark → Type 0 where
  named_so : {g : Naming} {from rest : List Mark} (n : Mark) → Heads g from (n ∷ rest) → IsNew text no_loads n → Named text g n.word from rest

-- a transition's name and its parameters
pub record Headed (text : List ℕ) (n : Word) (bs : List Binder) (from rest : List Mark) : Type 0 where
  pub params : List Mark
  pub name : Named text Naming.Transition n from params
  pub takes : MayTake text params bs rest

-- what stands before a list of names
pub data Lists (text : List ℕ) : Listing → List Mark → List Mark → Type 0 where
  relation : {mutable : Bool} {n : Word} {from rest : List Mark} (l : Mark) → Named text (Naming.Relation mutable) n from (l ∷ rest) → Is Sign.LeftRound no_loads l → Lists text (Listing.Relation mutable n) from rest
  function : {n : Word} {from rest : List Mark} (l : Mark) → Named text Naming.Function n from (l ∷ rest) → Is Sign.LeftRound no_loads l → Lists text (Listing.Function n) from rest
  modified : {n : Word} {bs : List Binder} {from rest : List Mark} (k : Mark) → Headed text n bs from (k ∷ rest) → IsKeyword Keyword.Modifies k → Lists text (Listing.Modified n bs) from rest

-- the names before another one, with the comma after them
pub data Commas : List Mark → List Word → List Mark → Type 0 where
  unlisted : {ms : List Mark} → Commas ms [] ms
  listed : {ms rest : List Mark} {ns : List Word} (m : Mark) → AreNames ms ns (m ∷ rest) → Is Sign.Comma no_loads m → Commas ms ns rest

-- a list before another name, and after a name
pub record ListBefore (text : List ℕ) (l : Listing) (ns : List Word) (from rest : List Mark) : Type 0 where
  pub names : List Mark
  pub lists : Lists text l from names
  pub commas : Commas names ns rest

pub record ListAfter (text : List ℕ) (l : Listing) (ns : List Word) (from rest : List Mark) : Type 0 where
  pub names : List Mark
  pub lists : Lists text l from names
  pub are : AreNames names ns rest

-- what stands before a colon and a sort
pub data Types (text : List ℕ) : Typing → List Mark → List Mark → Type 0 where
  constant : {mutable : Bool} {n : Word} {from rest : List Mark} → Named text (Naming.Constant mutable) n from rest → Types text (Typing.Constant mutable n) from rest
  function : {n : Word} {ns : List Word} {from ms rest : List Mark} (r : Mark) → Lists text (Listing.Function n) from ms → AreNames ms ns (r ∷ rest) → Is Sign.RightRound no_loads r → Types text (Typing.Function n ns) from rest

pub record Colons (text : List ℕ) (t : Typing) (from rest : List Mark) : Type 0 where
  pub colon : Mark
  pub types : Types text t from (colon ∷ rest)
  pub is : Is Sign.Colon no_loads colon

-- the parameters before another one, with the comma after them
pub data Binds (text : List ℕ) : List Mark → List Binder → List Mark → Type 0 where
  unbound : {ms : List Mark} → Binds text ms [] ms
  bound : {ms rest : List Mark} {bs : List Binder} (m : Mark) → AreParams text ms bs (m ∷ rest) → Is Sign.Comma no_loads m → Binds text ms bs rest

-- the name of a parameter was read
pub data Variable (text : List ℕ) (bs : List Binder) : Word → List Mark → List Mark → Type 0 where
  variable : {from rest : List Mark} (n : Mark) → Binds text from bs (n ∷ rest) → IsNew text (binding (length bs + 1)) n → Variable text bs n.word from rest

-- and its colon
pub data Sorted (text : List ℕ) (bs : List Binder) (v : Word) (from rest : List Mark) : Type 0 where
  sorted : (c : Mark) → Variable text bs v from (c ∷ rest) → Is Sign.Colon no_loads c → Sorted text bs v from rest

abbrev pub Staged : List ℕ → List Binder → Stage → List Mark → List Mark → Type 0
Staged text bs Stage.Variable from rest = Binds text from bs rest
Staged text bs (Stage.Colon v) from rest = Variable text bs v from rest
Staged text bs (Stage.Sort v) from rest = Sorted text bs v from rest
Staged text bs Stage.Next from rest = AreParams text from bs rest

-- a transition's name and its parameters so far
pub record Binding (text : List ℕ) (n : Word) (bs : List Binder) (stage : Stage) (from rest : List Mark) : Type 0 where
  pub left : Mark
  pub params : List Mark
  pub name : Named text Naming.Transition n from (left ∷ params)
  pub is : Is Sign.LeftRound no_loads left
  pub staged : Staged text bs stage params rest

-- what stands before a formula
pub data Owns (text : List ℕ) : Owner → List Mark → List Mark → Type 0 where
  stated : {rest : List Mark} (kind : Statement) (k : Mark) → IsKeyword (statement kind) k → Owns text (Owner.Stated kind) (k ∷ rest) rest
  transition : {h : Heading} {ms rest : List Mark} (k : Mark) → IsKeyword Keyword.Transition k → IsHeading text ms h rest → Owns text (Owner.Transition h) (k ∷ ms) rest

-- a formula so far
pub record Formulated (text : List ℕ) (o : Owner) (s : formula.State) (from rest : List Mark) : Type 0 where
  pub begins : List Mark
  pub owns : Owns text o from begins
  pub reads : text_reading.Reads (with_params (params_of o)) machine.start begins s rest

-- a declaration but for its semicolon
pub data EndsIn (text : List ℕ) : Declaration → List Mark → List Mark → Type 0 where
  sort : {n : Word} {from rest : List Mark} → Named text Naming.Sort n from rest → EndsIn text (Declaration.Sort n) from rest
  relation : {mutable : Bool} {n : Word} {ns : List Word} {from ms rest : List Mark} (r : Mark) → Lists text (Listing.Relation mutable n) from ms → AreNames ms ns (r ∷ rest) → Is Sign.RightRound no_loads r → EndsIn text (Declaration.Relation mutable n ns) from rest
  typed_so : {t : Typing} {from rest : List Mark} (s : Mark) → Colons text t from (s ∷ rest) → Is Sign.Name no_loads s → EndsIn text (typed t s.word) from rest

-- what was read of a declaration
abbrev pub SoFar : List ℕ → Phase → List Mark → List Mark → Type 0
SoFar text Phase.Begin from rest = from ≡ rest
SoFar text (Phase.Change mutable) from rest = Changes mutable from rest
SoFar text (Phase.Name g) from rest = Heads g from rest
SoFar text (Phase.Relation mutable n) from rest = Named text (Naming.Relation mutable) n from rest
SoFar text (Phase.Function n) from rest = Named text Naming.Function n from rest
SoFar text (Phase.Transition n) from rest = Named text Naming.Transition n from rest
SoFar text (Phase.Params n bs stage) from rest = Binding text n bs stage from rest
SoFar text (Phase.Heading n bs) from rest = Headed text n bs from rest
SoFar text (Phase.List l ns) from rest = ListBefore text l ns from rest
SoFar text (Phase.Listed l ns) from rest = ListAfter text l ns from rest
SoFar text (Phase.Colon t) from rest = Types text t from rest
SoFar text (Phase.Sort t) from rest = Colons text t from rest
SoFar text (Phase.Formula o s) from rest = Formulated text o s from rest
SoFar text (Phase.End d) from rest = EndsIn text d from rest

-- the state was read from all of the marks, and the rest follows
pub record Held (text : List ℕ) (all : List Mark) (s : State) (rest : List Mark) : Type 0 where
  pub from : List Mark
  pub done : Done text all s.done from
  pub so_far : SoFar text s.phase from rest

-- what is read next, if anything is, is the same with one mark more, which has the loads of the word
abbrev pub Keeps : List ℕ → List Mark → List Mark → Mark → Sign → Option Phase → Type 0
Keeps text from rest m sign o = IfSome o (λ p. Is sign (loads_by sign p) m → SoFar text p from rest)

module _ (text : List ℕ) (rest : List Mark) (m : Mark) where
  formula_begins : {o : Owner} {from : List Mark} → Owns text o from rest → Formulated text o machine.start from rest
  formula_begins h = record { begins = rest; owns = h; reads = text_reading.Reads.here }

  begin_keeps : (sign : Sign) → Keeps text (m ∷ rest) rest m sign (begin sign)
  begin_keeps (Sign.Keyword Keyword.Sort) = λ i. Heads.sort m i
  begin_keeps (Sign.Keyword Keyword.Mutable) = λ i. Changes.changes true m i
  begin_keeps (Sign.Keyword Keyword.Immutable) = λ i. Changes.changes false m i
  begin_keeps (Sign.Keyword Keyword.Axiom) = λ i. formula_begins (Owns.stated Statement.Axiom m i)
  begin_keeps (Sign.Keyword Keyword.Init) = λ i. formula_begins (Owns.stated Statement.Init m i)
  begin_keeps (Sign.Keyword Keyword.Safety) = λ i. formula_begins (Owns.stated Statement.Safety m i)
  begin_keeps (Sign.Keyword Keyword.Transition) = λ i. Heads.transition m i
  begin_keeps _ = tt

  changed_keeps : {from : List Mark} (mutable : Bool) (sign : Sign) → Changes mutable from (m ∷ rest) → Keeps text from rest m sign (changed mutable sign)
  changed_keeps true (Sign.Keyword Keyword.Relation) (Changes.changes true c j) = λ i. Heads.relation true c m j i
  changed_keeps false (Sign.Keyword Keyword.Relation) (Changes.changes false c j) = λ i. Heads.relation false c m j i
  changed_keeps true (Sign.Keyword Keyword.Constant) (Changes.changes true c j) = λ i. Heads.constant true c m j i
  changed_keeps false (Sign.Keyword Keyword.Constant) (Changes.changes false c j) = λ i. Heads.constant false c m j i
  changed_keeps false (Sign.Keyword Keyword.Function) (Changes.changes false c j) = λ i. Heads.function c m j i
  changed_keeps true _ h = tt
  changed_keeps false _ h = tt

  shown_keeps : (p : Phase) (P : Phase → Type 0) → (is_hidden (bytes_at text m.word) ≡ false → P p) → IfSome (shown text m.word p) P
  shown_keeps p P h = by_test (is_hidden (bytes_at text m.word)) None (Some p) (λ (o : Option Phase). IfSome o P) (λ e. tt) h

  named_keeps : {from : List Mark} (g : Naming) → Named text g m.word from rest → SoFar text (named g m.word) from rest
  named_keeps Naming.Sort h = EndsIn.sort h
  named_keeps (Naming.Relation mutable) h = h
  named_keeps (Naming.Constant mutable) h = Types.constant h
  named_keeps Naming.Function h = h
  named_keeps Naming.Transition h = h

  named_loads : (g : Naming) → loads_by Sign.Name (named g m.word) ≡ no_loads
  named_loads Naming.Sort = refl
  named_loads (Naming.Relation mutable) = refl
  named_loads (Naming.Constant mutable) = refl
  named_loads Naming.Function = refl
  named_loads Naming.Transition = refl

  name_keeps : {from : List Mark} (g : Naming) (sign : Sign) → Heads g from (m ∷ rest) → Keeps text from rest m sign (in_name text g m.word sign)
  name_keeps {from} g Sign.Name h =
      shown_keeps (named g m.word) (λ p. Is Sign.Name (loads_by Sign.Name p) m → SoFar text p from rest)
      (λ e i. named_keeps g (Named.named_so m h (record { name = record { sign_is = i.sign_is; loads_are = i.loads_are ∙ named_loads g }; shown = e })))
  name_keeps g _ h = tt

  relation_keeps : {from : List Mark} (mutable : Bool) (n : Word) (sign : Sign) → Named text (Naming.Relation mutable) n from (m ∷ rest) → Keeps text from rest m sign (after_relation mutable n sign)
  relation_keeps mutable n Sign.LeftRound h = λ i. record { names = rest; lists = Lists.relation m h i; commas = Commas.unlisted }
  relation_keeps mutable n _ h = tt

  function_keeps : {from : List Mark} (n : Word) (sign : Sign) → Named text Naming.Function n from (m ∷ rest) → Keeps text from rest m sign (after_function n sign)
  function_keeps n Sign.LeftRound h = λ i. record { names = rest; lists = Lists.function m h i; commas = Commas.unlisted }
  function_keeps n _ h = tt

  -- the colon before a transition's formula
  owns_plain : {from ms : List Mark} {n : Word} {bs : List Binder} → Named text Naming.Transition n from ms → MayTake text ms bs (m ∷ rest) → Is Sign.Colon no_loads m → Owns text (Owner.Transition (record { name = n; params = bs; modifies = [] })) from rest
  owns_plain (Named.named_so n (Heads.transition k i) new) takes colon = Owns.transition k i (IsHeading.heading n m new takes MayModify.modifies_none colon)

  owns_modifies : {from ms us : List Mark} {n : Word} {bs : List Binder} {ns : List Word} (k : Mark) → Named text Naming.Transition n from ms → MayTake text ms bs (k ∷ us) → IsKeyword Keyword.Modifies k → AreNames us ns (m ∷ rest) → Is Sign.Colon no_loads m →
      Owns text (Owner.Transition (record { name = n; params = bs; modifies = ns })) from rest
  owns_modifies k (Named.named_so n (Heads.transition t i) new) takes key names colon = Owns.transition t i (IsHeading.heading n m new takes (MayModify.modifies k key names) colon)

  owns_listed : {from ms : List Mark} {n : Word} {bs : List Binder} {ns : List Word} → Lists text (Listing.Modified n bs) from ms → AreNames ms ns (m ∷ rest) → Is Sign.Colon no_loads m →
      Owns text (Owner.Transition (record { name = n; params = bs; modifies = ns })) from rest
  owns_listed (Lists.modified k h key) names colon = owns_modifies k h.name h.takes key names colon

  params_keeps : {from : List Mark} (n : Word) (bs : List Binder) (sign : Sign) → Headed text n bs from (m ∷ rest) → Keeps text from rest m sign (after_params n bs sign)
  params_keeps n bs (Sign.Keyword Keyword.Modifies) h = λ i. record { names = rest; lists = Lists.modified m h i; commas = Commas.unlisted }
  params_keeps n bs Sign.Colon h = λ i. formula_begins (owns_plain h.name h.takes i)
  params_keeps n bs _ h = tt

  transition_keeps : {from : List Mark} (n : Word) (sign : Sign) → Named text Naming.Transition n from (m ∷ rest) → Keeps text from rest m sign (after_transition n sign)
  transition_keeps n Sign.LeftRound h = λ i. record { left = m; params = rest; name = h; is = i; staged = Binds.unbound }
  transition_keeps n sign h = params_keeps n [] sign (record { params = m ∷ rest; name = h; takes = MayTake.no_params })

  -- the parameters with one more
  params_more : {from ms after : List Mark} {bs : List Binder} {b : Binder} → Binds text from bs ms → IsParam text (length bs) ms b after → AreParams text from (bs ++ b ∷ []) after
  params_more Binds.unbound h = AreParams.one_param h
  params_more (Binds.bound c hs i) h = AreParams.more_params c hs i h

  sort_bound : {from : List Mark} (bs : List Binder) (v : Word) → Sorted text bs v from (m ∷ rest) → Is Sign.Name no_loads m → AreParams text from (bs ++ record { name = v; sort = m.word } ∷ []) rest
  sort_bound bs v (Sorted.sorted c (Variable.variable n binds new) colon) i = params_more binds (IsParam.param n c m new colon i)

  stage_keeps : {from : List Mark} (n : Word) (bs : List Binder) (stage : Stage) (sign : Sign) → Binding text n bs stage from (m ∷ rest) → Keeps text from rest m sign (in_params text n bs stage m.word sign)
  stage_keeps {from} n bs Stage.Variable Sign.Name h =
      shown_keeps (Phase.Params n bs (Stage.Colon m.word)) (λ p. Is Sign.Name (loads_by Sign.Name p) m → SoFar text p from rest)
      (λ e i. record { left = h.left; params = h.params; name = h.name; is = h.is; staged = Variable.variable m h.staged (record { name = i; shown = e }) })
  stage_keeps n bs (Stage.Colon v) Sign.Colon h = λ i. record { left = h.left; params = h.params; name = h.name; is = h.is; staged = Sorted.sorted m h.staged i }
  stage_keeps n bs (Stage.Sort v) Sign.Name h = λ i. record { left = h.left; params = h.params; name = h.name; is = h.is; staged = sort_bound bs v h.staged i }
  stage_keeps n bs Stage.Next Sign.Comma h = λ i. record { left = h.left; params = h.params; name = h.name; is = h.is; staged = Binds.bound m h.staged i }
  stage_keeps n bs Stage.Next Sign.RightRound h = λ i. record { params = h.left ∷ h.params; name = h.name; takes = MayTake.some_params h.left m h.is h.staged i }
  stage_keeps n bs stage sign h = tt

  names_more : {from : List Mark} {ns : List Word} → Commas from ns (m ∷ rest) → Is Sign.Name no_loads m → AreNames from (ns ++ m.word ∷ []) rest
  names_more Commas.unlisted i = AreNames.one_name m i
  names_more (Commas.listed c hs j) i = AreNames.more_names c m hs j i

  list_keeps : {from : List Mark} (l : Listing) (ns : List Word) (sign : Sign) → ListBefore text l ns from (m ∷ rest) → Keeps text from rest m sign (in_list l ns m.word sign)
  list_keeps l ns Sign.Name h = λ i. record { names = h.names; lists = h.lists; are = names_more h.commas i }
  list_keeps l ns _ h = tt

  item_keeps : {from : List Mark} (l : Listing) (ns : List Word) (sign : Sign) → ListAfter text l ns from (m ∷ rest) → Keeps text from rest m sign (after_item l ns sign)
  item_keeps (Listing.Relation mutable n) ns Sign.Comma h = λ i. record { names = h.names; lists = h.lists; commas = Commas.listed m h.are i }
  item_keeps (Listing.Function n) ns Sign.Comma h = λ i. record { names = h.names; lists = h.lists; commas = Commas.listed m h.are i }
  item_keeps (Listing.Modified n bs) ns Sign.Comma h = λ i. record { names = h.names; lists = h.lists; commas = Commas.listed m h.are i }
  item_keeps (Listing.Relation mutable n) ns Sign.RightRound h = λ i. EndsIn.relation m h.lists h.are i
  item_keeps (Listing.Function n) ns Sign.RightRound h = λ i. Types.function m h.lists h.are i
  item_keeps (Listing.Modified n bs) ns Sign.Colon h = λ i. formula_begins (owns_listed h.lists h.are i)
  item_keeps (Listing.Relation mutable n) ns _ h = tt
  item_keeps (Listing.Function n) ns _ h = tt
  item_keeps (Listing.Modified n bs) ns _ h = tt

  typing_keeps : {from : List Mark} (t : Typing) (sign : Sign) → Types text t from (m ∷ rest) → Keeps text from rest m sign (after_typing t sign)
  typing_keeps t Sign.Colon h = λ i. record { colon = m; types = h; is = i }
  typing_keeps t _ h = tt

  sort_keeps : {from : List Mark} (t : Typing) (sign : Sign) → Colons text t from (m ∷ rest) → Keeps text from rest m sign (in_sort t m.word sign)
  sort_keeps t Sign.Name h = λ i. EndsIn.typed_so m h i
  sort_keeps t _ h = tt

  formula_keeps : {from : List Mark} (o : Owner) (s : formula.State) (sign : Sign) → Formulated text o s from (m ∷ rest) → (x : Option formula.State) → machine.step_by s.last s.stack m.word sign ≡ x → Keeps text from rest m sign (option_map (Phase.Formula o) x)
  formula_keeps o s sign h None e = tt
  formula_keeps o s sign h (Some t) e = λ i.
      record {
        begins = h.begins;
        owns = h.owns;
        reads =
            text_reading.reads_on (with_params (params_of o)) h.reads
            (text_reading.Reads.more m (ap (machine.step_by s.last s.stack m.word) i.sign_is ∙ e)
            (ap (λ (g : Sign). loads_by g (Phase.Formula o t)) i.sign_is ∙ sym i.loads_are)
            text_reading.Reads.here);
      }

  walk_keeps : (from : List Mark) (p : Phase) (sign : Sign) → SoFar text p from (m ∷ rest) → Keeps text from rest m sign (walk text p m.word sign)
  walk_keeps from Phase.Begin sign h = subst (λ (ms : List Mark). Keeps text ms rest m sign (begin sign)) (sym h) (begin_keeps sign)
  walk_keeps from (Phase.Change mutable) sign h = changed_keeps mutable sign h
  walk_keeps from (Phase.Name g) sign h = name_keeps g sign h
  walk_keeps from (Phase.Relation mutable n) sign h = relation_keeps mutable n sign h
  walk_keeps from (Phase.Function n) sign h = function_keeps n sign h
  walk_keeps from (Phase.Transition n) sign h = transition_keeps n sign h
  walk_keeps from (Phase.Params n bs stage) sign h = stage_keeps n bs stage sign h
  walk_keeps from (Phase.Heading n bs) sign h = params_keeps n bs sign h
  walk_keeps from (Phase.List l ns) sign h = list_keeps l ns sign h
  walk_keeps from (Phase.Listed l ns) sign h = item_keeps l ns sign h
  walk_keeps from (Phase.Colon t) sign h = typing_keeps t sign h
  walk_keeps from (Phase.Sort t) sign h = sort_keeps t sign h
  walk_keeps from (Phase.Formula o s) sign h = formula_keeps o s sign h (machine.step_by s.last s.stack m.word sign) refl
  walk_keeps from (Phase.End d) sign h = tt

  -- a semicolon after all but it
  typed_ends : {from : List Mark} (t : Typing) (c s : Mark) → Types text t from (c ∷ s ∷ m ∷ rest) → Is Sign.Colon no_loads c → Is Sign.Name no_loads s → Is Sign.Semicolon no_loads m → IsDeclaration text from (typed t s.word) rest
  typed_ends t c s (Types.constant (Named.named_so n (Heads.constant mutable b k i j) new)) colon typing e = IsDeclaration.constant mutable b k n c s m i j new colon typing e
  typed_ends t c s (Types.function r (Lists.function l (Named.named_so n (Heads.function b k i j) new) left) names right) colon typing e =
      IsDeclaration.function b k n c s m i j new (AreBracketed.bracketed l r left names right) colon typing e

  ends_in : {from : List Mark} {d : Declaration} → EndsIn text d from (m ∷ rest) → Is Sign.Semicolon no_loads m → IsDeclaration text from d rest
  ends_in (EndsIn.sort (Named.named_so n (Heads.sort k i) new)) e = IsDeclaration.sort k n m i new e
  ends_in (EndsIn.relation r (Lists.relation l (Named.named_so n (Heads.relation mutable c k i j) new) left) names right) e =
      IsDeclaration.relation mutable c k n m i j new (AreSorts.some_sorts (AreBracketed.bracketed l r left names right)) e
  ends_in (EndsIn.typed_so {t = t} s h j) e = typed_ends t h.colon s h.types h.is j e

  ends_bare : {from : List Mark} {mutable : Bool} {n : Word} → Named text (Naming.Relation mutable) n from (m ∷ rest) → Is Sign.Semicolon no_loads m → IsDeclaration text from (Declaration.Relation mutable n []) rest
  ends_bare (Named.named_so n (Heads.relation mutable c k i j) new) e = IsDeclaration.relation mutable c k n m i j new AreSorts.no_sorts e

  ends_formula : {from us : List Mark} {i : Bool} {e : End} (o : Owner) (x : Tree) → Owns text o from us → IsFormula (with_params (params_of o)) e i us x (m ∷ rest) → EndsFormula x m → IsDeclaration text from (owned o x) rest
  ends_formula o x (Owns.stated kind k i) h e = IsDeclaration.stated kind k m i h e
  ends_formula o x (Owns.transition k i head) h e = IsDeclaration.transition k m i head h e

-- the marks that were read of a formula, alone
record Cut (base : Context) (s : formula.State) (us : List Mark) (t : formula.State) (rest : List Mark) : Type 0 where
  front : List Mark
  is : us ≡ front ++ rest
  reads : text_reading.Reads base s front t []

cut : {base : Context} {s t : formula.State} {us rest : List Mark} → text_reading.Reads base s us t rest → Cut base s us t rest
cut text_reading.Reads.here = record { front = []; is = refl; reads = text_reading.Reads.here }
cut (text_reading.Reads.more m e l r) =
    let c = cut r in
    record { front = m ∷ c.front; is = ap (λ (ms : List Mark). m ∷ ms) c.is; reads = text_reading.Reads.more m e l c.reads }

-- a formula that may end is spelled by its marks
record Spells (base : Context) (us : List Mark) (x : Tree) (rest : List Mark) : Type 0 where
  end_is : End
  has_iff : Bool
  is : IsFormula base end_is has_iff us x rest

spells : (base : Context) (us rest : List Mark) (t : formula.State) (x : Tree) → text_reading.Reads base machine.start us t rest → machine.finish t ≡ Some x → Spells base us x rest
spells base us rest t x r e =
    let c = cut r in
    let h = formula_sound base c.front t x c.reads e in
    record { end_is = h.0; has_iff = h.1.0; is = subst (λ (ms : List Mark). IsFormula base h.0 h.1.0 ms x rest) (sym c.is) (formula_on rest h.1.1) }

module _ (text : List ℕ) (all rest : List Mark) (m : Mark) where
  -- a declaration more
  one_held : {ds : List Declaration} {from : List Mark} {d : Declaration} → Done text all ds from → IsDeclaration text from d rest → Held text all (record { done = ds ++ d ∷ []; phase = Phase.Begin }) rest
  one_held h k = record { from = rest; done = Done.one_more h k; so_far = refl }

  formula_held : (ds : List Declaration) (o : Owner) (s : formula.State) → Held text all (record { done = ds; phase = Phase.Formula o s }) (m ∷ rest) → (f : Option Tree) → machine.finish s ≡ f →
      IfSome (option_map (closed (alone_of f)) (option_map (owned o) f)) (λ n. Is Sign.Semicolon n.loads m → Held text all (after (record { done = ds; phase = Phase.Formula o s }) n) rest)
  formula_held ds o s h None e = tt
  formula_held ds o s h (Some x) e = λ i.
      let g = spells (with_params (params_of o)) h.so_far.begins (m ∷ rest) s x h.so_far.reads e in
      one_held h.done (ends_formula text rest m o x h.so_far.owns g.is i)

  end_held : (ds : List Declaration) (p : Phase) → Held text all (record { done = ds; phase = p }) (m ∷ rest) →
      IfSome (option_map (closed (nests p)) (ended p)) (λ n. Is Sign.Semicolon n.loads m → Held text all (after (record { done = ds; phase = p }) n) rest)
  end_held ds (Phase.End d) h = λ i. one_held h.done (ends_in text rest m h.so_far i)
  end_held ds (Phase.Relation mutable n) h = λ i. one_held h.done (ends_bare text rest m h.so_far i)
  end_held ds (Phase.Formula o s) h = formula_held ds o s h (machine.finish s) refl
  end_held ds _ h = tt

  gone_held : (ds : List Declaration) (p : Phase) (sign : Sign) (h : Held text all (record { done = ds; phase = p }) (m ∷ rest)) → (o : Option Phase) → Keeps text h.from rest m sign o →
      IfSome (option_map (gone sign) o) (λ n. Is sign n.loads m → Held text all (after (record { done = ds; phase = p }) n) rest)
  gone_held ds p sign h None k = tt
  gone_held ds p sign h (Some q) k = λ i. record { from = h.from; done = h.done; so_far = k i }

  next_held : (ds : List Declaration) (p : Phase) (sign : Sign) → Held text all (record { done = ds; phase = p }) (m ∷ rest) →
      IfSome (next_by text p m.word sign) (λ n. Is sign n.loads m → Held text all (after (record { done = ds; phase = p }) n) rest)
  next_held ds p Sign.Semicolon h = end_held ds p h
  next_held ds p sign h = gone_held ds p sign h (walk text p m.word sign) (walk_keeps text rest m h.from p sign h.so_far)

if_some : {X : Type 0} (P : X → Type 0) (o : Option X) (x : X) → o ≡ Some x → IfSome o P → P x
if_some P None x e h = cc
if_some P (Some y) x e h = let same : y ≡ x = cc in subst P same h

done_all : {text : List ℕ} {all rest : List Mark} {ds es : List Declaration} → Done text all ds rest → AreDeclarations text rest es → AreDeclarations text all (ds ++ es)
done_all Done.nothing h = h
done_all {text} {all} {es = es} (Done.one_more {ds = ds} {d = d} g k) h = subst (AreDeclarations text all) (sym (append_assoc ds (d ∷ []) es)) (done_all g (AreDeclarations.more k h))

module _ (text : List ℕ) (all : List Mark) where
  reads_held : {s t : State} {ms rest : List Mark} → Reads text s ms t rest → Held text all s ms → Held text all t rest
  reads_held Reads.here h = h
  reads_held {s = s} (Reads.more {ms = ms} m n e l r) h =
      reads_held r
      (if_some (λ (x : Next). Is m.word.sign x.loads m → Held text all (after s x) ms) (next text s.phase m.word) n e (next_held text all ms m s.done s.phase m.word.sign h)
      (record { sign_is = refl; loads_are = sym l }))

  held_spelled : (p : Phase) (ds es : List Declaration) → Held text all (record { done = ds; phase = p }) [] → finish_by p ds ≡ Some es → AreDeclarations text all es
  held_spelled Phase.Begin ds es h e =
      let same : ds ++ [] ≡ es = append-nil ds ∙ (let f : ds ≡ es = cc in f) in
      subst (AreDeclarations text all) same (done_all h.done (subst (λ (ms : List Mark). AreDeclarations text ms []) (sym h.so_far) AreDeclarations.none))
  held_spelled _ ds es h e = cc

  -- all of the marks so far
  pub all_held : (t : State) → Reads text start all t [] → Held text all t []
  all_held t r = reads_held r (record { from = all; done = Done.nothing; so_far = refl })

  pub declarations_sound : (t : State) (es : List Declaration) → Reads text start all t [] → finish t ≡ Some es → AreDeclarations text all es
  declarations_sound t es r e = held_spelled t.phase t.done es (all_held t r) e
