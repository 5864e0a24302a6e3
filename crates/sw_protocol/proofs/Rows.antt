-- Pieces of a text that are written one after another.
use Rattle.std.specs.Prelude.{◌≡◌, ℕ, List, ◌++◌, Result, Ok, Err, OnOk}
use Rattle.std.proofs.Common.{ap, sym, ◌∙◌, append_assoc}

two_more : (before a b c : List ℕ) → ((before ++ a) ++ b) ++ c ≡ before ++ ((a ++ b) ++ c)
two_more before a b c = ap (λ (w : List ℕ). w ++ c) (append_assoc before a b) ∙ append_assoc before (a ++ b) c

pub three_pieces : {X E : Type 0} (r : Result X E) (before new a b c now : List ℕ) → OnOk r (now ≡ new ++ c) → new ≡ (before ++ a) ++ b → OnOk r (now ≡ before ++ ((a ++ b) ++ c))
three_pieces (Ok x) before new a b c now h e = h ∙ ap (λ (w : List ℕ). w ++ c) e ∙ two_more before a b c
three_pieces (Err e) before new a b c now h g = tt

pub four_pieces : {X E : Type 0} (r : Result X E) (before new a b c d now : List ℕ) → OnOk r (now ≡ new ++ d) → new ≡ ((before ++ a) ++ b) ++ c → OnOk r (now ≡ before ++ (((a ++ b) ++ c) ++ d))
four_pieces (Ok x) before new a b c d now h e = h ∙ ap (λ (w : List ℕ). w ++ d) (e ∙ two_more before a b c) ∙ append_assoc before ((a ++ b) ++ c) d
four_pieces (Err e) before new a b c d now h g = tt
