-- What the machine reads, with the loads of each word.
use Rattle.std.proofs.Common.{◌≡◌, ℕ, Bool, false, List, [], ◌∷◌, ◌++◌, Some, None, sym, ap, ◌∙◌}
use Rattle.std.specs.Prelude.{if◌then◌else◌}
use Rattle.sw_trees.specs.declared.words.Sign.{Sign}
use Rattle.sw_trees.specs.declared.words.Word.{Word}
use Rattle.sw_trees.specs.Grammar.{Loads, Mark, Is}
use Rattle.sw_text.specs.Names.{bytes_at}
use Rattle.sw_protocol.specs.declared.tree.Declaration.{Declaration}
use Rattle.sw_protocol.specs.declared.phases.Phase.{Phase}
use Rattle.sw_protocol.specs.Grammar.{is_hidden}
use Rattle.sw_protocol.specs.Machine.{shown, Next, next_by, next, State, after}

abbrev pub at : List Declaration → Phase → State
at ds p = record { done = ds; phase = p }

-- from one state to another, over the marks before the rest
pub data Reads (text : List ℕ) : State → List Mark → State → List Mark → Type 0 where
  here : {s : State} {ms : List Mark} → Reads text s ms s ms
  more : {s t : State} {ms rest : List Mark} (m : Mark) (n : Next) → next text s.phase m.word ≡ Some n → n.loads ≡ m.loads → Reads text (after s n) ms t rest → Reads text s (m ∷ ms) t rest

module _ (text : List ℕ) where
  pub reads_on : {s t u : State} {ms ns rest : List Mark} → Reads text s ms t ns → Reads text t ns u rest → Reads text s ms u rest
  reads_on Reads.here k = k
  reads_on (Reads.more m n e l h) k = Reads.more m n e l (reads_on h k)

  pub shows : (w : Word) (p : Phase) → is_hidden (bytes_at text w) ≡ false → shown text w p ≡ Some p
  shows w p h = ap (λ (b : Bool). if b then None else Some p) h

  module _ (ds : List Declaration) where
    -- one word more at the front, which ends no declaration; or one that ends this declaration
    pub reads_one : (p q : Phase) {u : State} {ms rest : List Mark} {sign : Sign} {loads : Loads} (m : Mark) → Is sign loads m → next_by text p m.word sign ≡ Some (record { whole = None; phase = q; loads = loads }) →
        Reads text (at ds q) ms u rest → Reads text (at ds p) (m ∷ ms) u rest
    reads_one p q {loads = loads} m h e r = Reads.more m (record { whole = None; phase = q; loads = loads }) (ap (next_by text p m.word) h.sign_is ∙ e) (sym h.loads_are) r

    pub reads_end : (p : Phase) (d : Declaration) {u : State} {ms rest : List Mark} {loads : Loads} (m : Mark) → Is Sign.Semicolon loads m → next_by text p m.word Sign.Semicolon ≡ Some (record { whole = Some d; phase = Phase.Begin; loads = loads }) →
        Reads text (at (ds ++ d ∷ []) Phase.Begin) ms u rest → Reads text (at ds p) (m ∷ ms) u rest
    reads_end p d {loads = loads} m h e r = Reads.more m (record { whole = Some d; phase = Phase.Begin; loads = loads }) (ap (next_by text p m.word) h.sign_is ∙ e) (sym h.loads_are) r
