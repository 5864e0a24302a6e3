use Rattle.std.proofs.Common.{rules, ◌≡◌, ℕ, ◌<◌, List, length, slice_index_or, vec_len, sym, ap, ◌∙◌, subst, arith}
use Rattle.std.specs.List.{enumerate_from}
use Rattle.std.proofs.lemmas.List.FromFn.{length-enumerate_from, get_or-enumerate_from}
use denote.Param.Members.{Shared}
use Rattle.std.specs.Fork.{GivesJobs}
use Rattle.sw_claims.specs.Workers.{MayCallEach, AnswersEach}
use Rattle.sw_claims.proofs.workers.fork.Goals as goal

-- the job of a number is that number beside its seat
numbered_at : {S : Type 0} (seats : List S) (jobs : List (ℕ × S)) (i : ℕ) (d : ℕ × S) → jobs ≡ enumerate_from 0 seats → i < length jobs → slice_index_or jobs i d ≡ (i, slice_index_or seats i d.1)
numbered_at {S} seats jobs i d is below = let len : length jobs ≡ length seats = ap (λ (l : List (ℕ × S)). length l) is ∙ length-enumerate_from 0 seats in let under : i < length seats = omega arith in
    ap (λ (l : List (ℕ × S)). slice_index_or l i d) is ∙ (get_or-enumerate_from 0 seats i d under ∙ ap (λ (n : ℕ). (n, slice_index_or seats i d.1)) (omega arith))

-- what the calls gave, seat by seat
answers_each : {F S R : Type 0} (h : Shared F ((ℕ × S) × Unit {0}) R) (f : F) (gives : ℕ → S → R → Type 0) → ((x : ℕ × S) (r : R) → h.post f (x, tt) r → gives x.0 x.1 r) → (seats : List S) (jobs : List (ℕ × S)) → jobs ≡ enumerate_from 0 seats
    → (rs : List R) → GivesJobs h f jobs rs → AnswersEach gives seats rs
answers_each {F} {S} {R} h f gives calls seats jobs is rs given i d below = let len : length jobs ≡ length seats = ap (λ (l : List (ℕ × S)). length l) is ∙ length-enumerate_from 0 seats in let under : i < length jobs = omega arith in
    let one = (given i d under).1 in let x : ℕ × S = one.job in
    let reads = λ (y : S). sym (one.job_is (i, y)) ∙ numbered_at seats jobs i (i, y) is under in
    record { seat = x.1; seat_is = λ y. ap (λ (p : ℕ × S). p.1) (sym (reads y)); call = subst (λ (n : ℕ). gives n x.1 (slice_index_or rs i d)) (ap (λ (p : ℕ × S). p.0) (reads x.1)) (calls x (slice_index_or rs i d) one.call.met) }

calls_allowed : {S : Type 0} (may : ℕ → S → Type 0) (seats : List S) (jobs : List (ℕ × S)) → jobs ≡ enumerate_from 0 seats → MayCallEach may seats → (i : ℕ) (x : ℕ × S) → i < length jobs → x ≡ slice_index_or jobs i x → may x.0 x.1
calls_allowed {S} may seats jobs is allowed i x below e = let len : length jobs ≡ length seats = ap (λ (l : List (ℕ × S)). length l) is ∙ length-enumerate_from 0 seats in let under : i < length seats = omega arith in
    let both : x ≡ (i, slice_index_or seats i x.1) = e ∙ numbered_at seats jobs i x is below in
    subst (λ (n : ℕ). may n x.1) (sym (ap (λ (p : ℕ × S). p.0) both)) (allowed i x.1 under (ap (λ (p : ℕ × S). p.1) both))

pub map_vec-requires-after_bounds : goal.map_vec-requires-after_bounds
map_vec-requires-after_bounds g c = λ κs bounds i x below e. calls_allowed (λ n s. g.J.Fn.pre c.args.job.now (n, (s, tt))) c.args.seats.items c.in_ok-jobs.jobs.items c.in_ok-jobs.ensures c.requires i x below e

pub returns-clause-len : goal.returns-clause-len
returns-clause-len g c = let same : length c.in_ok-jobs.jobs.items ≡ length c.args.seats.items = ap (λ (l : List (ℕ × g.row.S.Denot)). length l) c.in_ok-jobs.ensures ∙ length-enumerate_from 0 c.args.seats.items in
    let a = c.in_ok-jobs.jobs.ok.0 in let b = c.args.seats.ok.0 in let l : vec_len c.in_ok-results.results ≡ vec_len c.in_ok-jobs.jobs = c.in_ok-results.ensures.len in l ∙ (a ∙ (same ∙ sym b))

pub returns-clause-each : goal.returns-clause-each
returns-clause-each g c = answers_each _ _ (λ i s r. g.J.Fn.post c.args.job.now (i, (s, tt)) r) (λ x r p. search rules) c.args.seats.items c.in_ok-jobs.jobs.items c.in_ok-jobs.ensures c.in_ok-results.results.items c.in_ok-results.ensures.each
