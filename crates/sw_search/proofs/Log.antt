-- The log that the steps of a record leave, and how they end.
use Rattle.std.specs.Prelude.{◌≡◌, ℕ, zero, suc, ◌+◌, ◌-◌, List, [], ◌∷◌, ◌++◌, map, length, take, drop, replicate}
use Rattle.std.specs.List.{AllByRecursion, flat_map, range_with_len}
use Rattle.std.proofs.Common.{refl, arith, sym, ap, ◌∙◌, append_assoc, append-nil}
use Rattle.std.proofs.lemmas.Grind.{flat_map-append}
use Rattle.std.proofs.lemmas.List.{map-append}
use Rattle.std.proofs.Math.Seq.{take-append_seam, drop-append_seam}
use Rattle.sw_lists.proofs.Each.{each-append, each-any, each-flat_map, each-map}
use Rattle.sw_logic.specs.declared.syntax.Formula.{Formula}
use Rattle.sw_logic.specs.Truth.{greatest}
use Rattle.sw_log.specs.declared.entry.Entry.{Entry}
use Rattle.sw_core.specs.declared.record.Kept.{Kept}
use Rattle.sw_core.specs.declared.record.Round.{Round}
use Rattle.sw_core.specs.declared.record.Settled.{Settled}
use Rattle.sw_core.specs.declared.steps.Step.{Step}
use Rattle.sw_core.specs.declared.steps.Step.TheVariants.{Begin, Draw, Look, Append, Publish, Settle, Stop, Close}
use Rattle.sw_core.specs.declared.steps.End.TheVariants as end
use Rattle.sw_core.specs.Machine.{Search, Board, formula_in, start, after, run}
use Rattle.sw_core.specs.Records.{times, draws_at, draws_of, entry_steps, publish_step, settle_steps, round_steps, rounds_steps, steps_of}
use Rattle.sw_core.specs.Gathered.{Outcome, formulas_of, rounds_of, round_of, record_of}

-- the entries of rounds, one after the other
abbrev pub entries_of : List Outcome → List Entry
entries_of os = flat_map (λ (o : Outcome). o.entries) os

module _ (m : Search) where
  run-append : (s : Board) (xs ys : List Step) → run m s (xs ++ ys) ≡ run m (run m s xs) ys
  run-append s [] ys = refl
  run-append s (x ∷ xs) ys = run-append (after m s x) xs ys

  -- what a step appends
  abbrev adds : Step → List Formula
  adds Begin = []
  adds (Draw w) = []
  adds (Look w) = []
  adds (Append w body) = formula_in m body.cubes ∷ []
  adds (Publish w kept) = []
  adds (Settle w settled) = []
  adds (Stop w reason) = []
  adds Close = []

  step_log : (s : Board) (x : Step) → (after m s x).log ≡ s.log ++ adds x
  step_log s Begin = sym (append-nil s.log)
  step_log s (Draw w) = sym (append-nil s.log)
  step_log s (Look w) = sym (append-nil s.log)
  step_log s (Append w body) = refl
  step_log s (Publish w kept) = sym (append-nil s.log)
  step_log s (Settle w settled) = sym (append-nil s.log)
  step_log s (Stop w reason) = sym (append-nil s.log)
  step_log s Close = sym (append-nil s.log)

  run_log : (s : Board) (xs : List Step) → (run m s xs).log ≡ s.log ++ flat_map adds xs
  run_log s [] = sym (append-nil s.log)
  run_log s (x ∷ xs) = run_log (after m s x) xs ∙ (ap (λ l. l ++ flat_map adds xs) (step_log s x) ∙ append_assoc s.log (adds x) (flat_map adds xs))

  -- a step that appends nothing
  abbrev Quiet : Step → Type 0
  Quiet x = adds x ≡ []

  quiet : (xs : List Step) → AllByRecursion Quiet xs → flat_map adds xs ≡ []
  quiet [] a = refl
  quiet (x ∷ xs) a = ap (λ l. l ++ flat_map adds xs) a.0 ∙ quiet xs a.1

  quiet_draws : (n w : ℕ) → AllByRecursion Quiet (replicate n (Draw w))
  quiet_draws zero w = tt
  quiet_draws (suc n) w = (refl, quiet_draws n w)

  quiet_at : (n w : ℕ) (drawn : List (List ℕ)) → AllByRecursion Quiet (draws_at n w drawn)
  quiet_at n w [] = tt
  quiet_at n w (numbers ∷ rest) = each-append Quiet (replicate (times n numbers) (Draw w)) (draws_at n (w + 1) rest) (quiet_draws (times n numbers) w) (quiet_at n (w + 1) rest)

  quiet_draw : (drawn : List (List ℕ)) → flat_map adds (draws_of drawn) ≡ []
  quiet_draw drawn =
      let numbers = range_with_len 0 (greatest (flat_map (λ ns. ns) drawn) + 1) in
      quiet (draws_of drawn) (each-flat_map Quiet (λ n. draws_at n 0 drawn) numbers (each-any (λ n. AllByRecursion Quiet (draws_at n 0 drawn)) (λ n. quiet_at n 0 drawn) numbers))

  quiet_publish : (ks : List Kept) → flat_map adds (map publish_step ks) ≡ []
  quiet_publish ks = quiet (map publish_step ks) (each-map Quiet publish_step ks (each-any (λ k. Quiet (publish_step k)) (λ k. refl) ks))

  quiet_settle : (xs : List Settled) → flat_map adds (flat_map settle_steps xs) ≡ []
  quiet_settle [] = refl
  quiet_settle (x ∷ xs) = quiet_settle xs

  entries_log : (es : List Entry) → flat_map adds (flat_map entry_steps es) ≡ formulas_of m es
  entries_log [] = refl
  entries_log (e ∷ es) = ap (λ l. formula_in m e.body.cubes ∷ l) (entries_log es)

  round_log : (es : List Entry) (r : Round) → flat_map adds (round_steps es r) ≡ formulas_of m es
  round_log es r =
      let draws = draws_of r.drawn in
      let looks = flat_map entry_steps es in
      let publishes = map publish_step r.kept in
      let settles = flat_map settle_steps r.settled in
      flat_map-append adds draws (looks ++ (publishes ++ settles))
      ∙ (ap (λ l. l ++ flat_map adds (looks ++ (publishes ++ settles))) (quiet_draw r.drawn)
      ∙ (flat_map-append adds looks (publishes ++ settles)
      ∙ (ap (λ l. flat_map adds looks ++ l) (flat_map-append adds publishes settles ∙ (ap (λ l. l ++ flat_map adds settles) (quiet_publish r.kept) ∙ quiet_settle r.settled))
      ∙ (append-nil (flat_map adds looks) ∙ entries_log es))))

  rounds_log : (at : ℕ) (os : List Outcome) → flat_map adds (rounds_steps at (entries_of os) (rounds_of at os)) ≡ formulas_of m (entries_of os)
  rounds_log at [] = refl
  rounds_log at (o ∷ os) =
      let to = at + length o.entries in
      let es = o.entries ++ entries_of os in
      let size : to - at ≡ length o.entries = omega arith in
      let first : take (to - at) es ≡ o.entries = ap (λ n. take n es) size ∙ take-append_seam o.entries (entries_of os) in
      let others : drop (to - at) es ≡ entries_of os = ap (λ n. drop n es) size ∙ drop-append_seam o.entries (entries_of os) in
      flat_map-append adds (round_steps (take (to - at) es) (round_of to o)) (rounds_steps to (drop (to - at) es) (rounds_of to os))
      ∙ (ap (λ l. l ++ flat_map adds (rounds_steps to (drop (to - at) es) (rounds_of to os))) (round_log (take (to - at) es) (round_of to o) ∙ ap (formulas_of m) first)
      ∙ (ap (λ l. formulas_of m o.entries ++ flat_map adds (rounds_steps to l (rounds_of to os))) others
      ∙ (ap (λ l. formulas_of m o.entries ++ l) (rounds_log to os)
      ∙ sym (map-append (λ (e : Entry). formula_in m e.body.cubes) o.entries (entries_of os)))))

  -- the formulas of the entries, one after the other
  pub record_log : (os : List Outcome) → (run m (start m []) (steps_of (record_of 0 os) 0)).log ≡ formulas_of m (entries_of os)
  record_log os =
      let steps = rounds_steps 0 (entries_of os) (rounds_of 0 os) in
      run_log (start m []) (steps ++ Close ∷ []) ∙ (flat_map-append adds steps (Close ∷ []) ∙ (append-nil (flat_map adds steps) ∙ rounds_log 0 os))

  pub record_ends : (os : List Outcome) → (run m (start m []) (steps_of (record_of 0 os) 0)).end ≡ end.Closed
  record_ends os =
      let steps = rounds_steps 0 (entries_of os) (rounds_of 0 os) in
      ap (λ (s : Board). s.end) (run-append (start m []) steps (Close ∷ []))
