-- Whatever was read goes on to a protocol.
use Rattle.std.proofs.Common.{◌≡◌, ℕ, Bool, true, false, List, [], ◌∷◌, ◌++◌, Some, None, refl}
use Rattle.sw_trees.specs.declared.words.Keyword.{Keyword}
use Rattle.sw_trees.specs.declared.words.Sign.{Sign}
use Rattle.sw_trees.specs.declared.words.Word.{Word}
use Rattle.sw_trees.specs.declared.tree.Binder.{Binder}
use Rattle.sw_trees.specs.declared.machine.Stage.{Stage}
use Rattle.sw_trees.specs.declared.machine.State as formula
use Rattle.sw_trees.specs.Grammar.{Loads, Mark, Context}
use Rattle.sw_trees.specs.Machine as machine
use Rattle.sw_trees.proofs.Reading as text_reading
use Rattle.sw_trees.proofs.Viable.{IsProper, start_proper, step_proper, completes, made}
use Rattle.sw_protocol.specs.declared.tree.Declaration.{Declaration}
use Rattle.sw_protocol.specs.declared.phases.Naming.{Naming}
use Rattle.sw_protocol.specs.declared.phases.Typing.{Typing}
use Rattle.sw_protocol.specs.declared.phases.Listing.{Listing}
use Rattle.sw_protocol.specs.declared.phases.Owner.{Owner}
use Rattle.sw_protocol.specs.declared.phases.Phase.{Phase}
use Rattle.sw_protocol.specs.Grammar.{with_params}
use Rattle.sw_protocol.specs.Machine.{formula_of, typed, params_of, owned, next_by, State}
use Rattle.sw_protocol.proofs.Reading.{at, Reads, reads_on, reads_one, reads_end}
use Rattle.sw_protocol.proofs.Complete.{lifts, formula_ends}
use Rattle.sw_protocol.proofs.Sound.{SoFar}

-- more marks may follow
pub reads_extend : {text : List ℕ} {s t : State} {ms rest : List Mark} (back : List Mark) → Reads text s ms t rest → Reads text s (ms ++ back) t (rest ++ back)
reads_extend back Reads.here = Reads.here
reads_extend back (Reads.more m n e l r) = Reads.more m n e l (reads_extend back r)

-- the state goes on to declarations
pub record Completes (text : List ℕ) (s : State) : Type 0 where
  pub marks : List Mark
  pub whole : List Declaration
  pub reads : Reads text s marks (at whole Phase.Begin) []

proper : {base : Context} {s t : formula.State} {ms rest : List Mark} → text_reading.Reads base s ms t rest → IsProper s → IsProper t
proper text_reading.Reads.here h = h
proper {s = s} (text_reading.Reads.more {t = t} m e l r) h = proper r (step_proper s t m.word e h)

module _ (text : List ℕ) (ds : List Declaration) where
  one_more : (sign : Sign) (p q : Phase) {l : Loads} → next_by text p (made sign) sign ≡ Some (record { whole = None; phase = q; loads = l }) → Completes text (at ds q) → Completes text (at ds p)
  one_more sign p q {l} e h = record {
    marks = record { word = made sign; loads = l } ∷ h.marks;
    whole = h.whole;
    reads = reads_one text ds p q (record { word = made sign; loads = l }) (record { sign_is = refl; loads_are = refl }) e h.reads;
  }

  ends : (p : Phase) (d : Declaration) {l : Loads} → next_by text p (made Sign.Semicolon) Sign.Semicolon ≡ Some (record { whole = Some d; phase = Phase.Begin; loads = l }) → Completes text (at ds p)
  ends p d {l} e = record {
    marks = record { word = made Sign.Semicolon; loads = l } ∷ [];
    whole = ds ++ d ∷ [];
    reads = reads_end text ds p d (record { word = made Sign.Semicolon; loads = l }) (record { sign_is = refl; loads_are = refl }) e Reads.here;
  }

  formula_completes : (o : Owner) (s : formula.State) → IsProper s → Completes text (at ds (Phase.Formula o s))
  formula_completes o s h =
      let c = completes (with_params (params_of o)) s h in
      let last = ends (Phase.Formula o c.to) (owned o c.tree_is) (formula_ends text o c.to (made Sign.Semicolon) c.tree_is c.ends) in
      record { marks = c.marks ++ last.marks; whole = last.whole; reads = reads_on text (reads_extend last.marks (lifts text ds o c.reads)) last.reads }

  end_completes : (d : Declaration) → Completes text (at ds (Phase.End d))
  end_completes d = ends (Phase.End d) d refl

  sort_completes : (t : Typing) → Completes text (at ds (Phase.Sort t))
  sort_completes t = one_more Sign.Name (Phase.Sort t) (Phase.End (typed t (made Sign.Name))) refl (end_completes (typed t (made Sign.Name)))

  colon_completes : (t : Typing) → Completes text (at ds (Phase.Colon t))
  colon_completes t = one_more Sign.Colon (Phase.Colon t) (Phase.Sort t) refl (sort_completes t)

  item_completes : (l : Listing) (ns : List Word) → Completes text (at ds (Phase.Listed l ns))
  item_completes (Listing.Relation mutable n) ns = one_more Sign.RightRound (Phase.Listed (Listing.Relation mutable n) ns) (Phase.End (Declaration.Relation mutable n ns)) refl (end_completes (Declaration.Relation mutable n ns))
  item_completes (Listing.Function n) ns = one_more Sign.RightRound (Phase.Listed (Listing.Function n) ns) (Phase.Colon (Typing.Function n ns)) refl (colon_completes (Typing.Function n ns))
  item_completes (Listing.Modified n bs) ns =
      one_more Sign.Colon (Phase.Listed (Listing.Modified n bs) ns) (formula_of (Owner.Transition (record { name = n; params = bs; modifies = ns }))) refl
      (formula_completes (Owner.Transition (record { name = n; params = bs; modifies = ns })) machine.start start_proper)

  list_completes : (l : Listing) (ns : List Word) → Completes text (at ds (Phase.List l ns))
  list_completes l ns = one_more Sign.Name (Phase.List l ns) (Phase.Listed l (ns ++ made Sign.Name ∷ [])) refl (item_completes l (ns ++ made Sign.Name ∷ []))

  relation_completes : (mutable : Bool) (n : Word) → Completes text (at ds (Phase.Relation mutable n))
  relation_completes mutable n = ends (Phase.Relation mutable n) (Declaration.Relation mutable n []) refl

  function_completes : (n : Word) → Completes text (at ds (Phase.Function n))
  function_completes n = one_more Sign.LeftRound (Phase.Function n) (Phase.List (Listing.Function n) []) refl (list_completes (Listing.Function n) [])

  transition_completes : (n : Word) → Completes text (at ds (Phase.Transition n))
  transition_completes n =
      one_more Sign.Colon (Phase.Transition n) (formula_of (Owner.Transition (record { name = n; params = []; modifies = [] }))) refl
      (formula_completes (Owner.Transition (record { name = n; params = []; modifies = [] })) machine.start start_proper)

  heading_completes : (n : Word) (bs : List Binder) → Completes text (at ds (Phase.Heading n bs))
  heading_completes n bs =
      one_more Sign.Colon (Phase.Heading n bs) (formula_of (Owner.Transition (record { name = n; params = bs; modifies = [] }))) refl
      (formula_completes (Owner.Transition (record { name = n; params = bs; modifies = [] })) machine.start start_proper)

  next_completes : (n : Word) (bs : List Binder) → Completes text (at ds (Phase.Params n bs Stage.Next))
  next_completes n bs = one_more Sign.RightRound (Phase.Params n bs Stage.Next) (Phase.Heading n bs) refl (heading_completes n bs)

  sorted_completes : (n : Word) (bs : List Binder) (v : Word) → Completes text (at ds (Phase.Params n bs (Stage.Sort v)))
  sorted_completes n bs v =
      one_more Sign.Name (Phase.Params n bs (Stage.Sort v)) (Phase.Params n (bs ++ record { name = v; sort = made Sign.Name } ∷ []) Stage.Next) refl
      (next_completes n (bs ++ record { name = v; sort = made Sign.Name } ∷ []))

  param_completes : (n : Word) (bs : List Binder) (v : Word) → Completes text (at ds (Phase.Params n bs (Stage.Colon v)))
  param_completes n bs v = one_more Sign.Colon (Phase.Params n bs (Stage.Colon v)) (Phase.Params n bs (Stage.Sort v)) refl (sorted_completes n bs v)

  stage_completes : (n : Word) (bs : List Binder) (stage : Stage) → Completes text (at ds (Phase.Params n bs stage))
  stage_completes n bs Stage.Next = next_completes n bs
  stage_completes n bs (Stage.Sort v) = sorted_completes n bs v
  stage_completes n bs (Stage.Colon v) = param_completes n bs v
  stage_completes n bs Stage.Variable =
      one_more Sign.Name (Phase.Params n bs Stage.Variable) (Phase.Params n bs (Stage.Colon (made Sign.Name))) refl (param_completes n bs (made Sign.Name))

  name_completes : (g : Naming) → Completes text (at ds (Phase.Name g))
  name_completes Naming.Sort = one_more Sign.Name (Phase.Name Naming.Sort) (Phase.End (Declaration.Sort (made Sign.Name))) refl (end_completes (Declaration.Sort (made Sign.Name)))
  name_completes (Naming.Relation mutable) = one_more Sign.Name (Phase.Name (Naming.Relation mutable)) (Phase.Relation mutable (made Sign.Name)) refl (relation_completes mutable (made Sign.Name))
  name_completes (Naming.Constant mutable) =
      one_more Sign.Name (Phase.Name (Naming.Constant mutable)) (Phase.Colon (Typing.Constant mutable (made Sign.Name))) refl (colon_completes (Typing.Constant mutable (made Sign.Name)))
  name_completes Naming.Function = one_more Sign.Name (Phase.Name Naming.Function) (Phase.Function (made Sign.Name)) refl (function_completes (made Sign.Name))
  name_completes Naming.Transition = one_more Sign.Name (Phase.Name Naming.Transition) (Phase.Transition (made Sign.Name)) refl (transition_completes (made Sign.Name))

  change_completes : (mutable : Bool) → Completes text (at ds (Phase.Change mutable))
  change_completes true = one_more (Sign.Keyword Keyword.Relation) (Phase.Change true) (Phase.Name (Naming.Relation true)) refl (name_completes (Naming.Relation true))
  change_completes false = one_more (Sign.Keyword Keyword.Relation) (Phase.Change false) (Phase.Name (Naming.Relation false)) refl (name_completes (Naming.Relation false))

  pub phase_completes : (p : Phase) (from rest : List Mark) → SoFar text p from rest → Completes text (at ds p)
  phase_completes Phase.Begin from rest h = record { marks = []; whole = ds; reads = Reads.here }
  phase_completes (Phase.Change mutable) from rest h = change_completes mutable
  phase_completes (Phase.Name g) from rest h = name_completes g
  phase_completes (Phase.Relation mutable n) from rest h = relation_completes mutable n
  phase_completes (Phase.Function n) from rest h = function_completes n
  phase_completes (Phase.Transition n) from rest h = transition_completes n
  phase_completes (Phase.Params n bs stage) from rest h = stage_completes n bs stage
  phase_completes (Phase.Heading n bs) from rest h = heading_completes n bs
  phase_completes (Phase.List l ns) from rest h = list_completes l ns
  phase_completes (Phase.Listed l ns) from rest h = item_completes l ns
  phase_completes (Phase.Colon t) from rest h = colon_completes t
  phase_completes (Phase.Sort t) from rest h = sort_completes t
  phase_completes (Phase.Formula o s) from rest h = formula_completes o s (proper h.reads start_proper)
  phase_completes (Phase.End d) from rest h = end_completes d
