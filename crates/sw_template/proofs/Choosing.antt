-- Cubes as they are listed.
use Rattle.std.specs.Prelude.{◌≡◌, ℕ, zero, suc, ◌+◌, ◌*◌, ◌-◌, ◌<◌, ◌≤◌, List, [], ◌∷◌, ◌++◌, map, length, take, replicate, slice_set}
use Rattle.std.specs.List.{AllByRecursion, flat_map, range_with_len}
use Rattle.std.proofs.Common.{refl, arith, ap, sym, subst, ◌∙◌, length-append, append_assoc}
use Rattle.std.proofs.lemmas.List.{map-append, append-nil}
use Rattle.std.proofs.lemmas.List.FromFn.{length-range_with_len}
use Rattle.std.proofs.lemmas.List.{length-replicate, length-take}
use Rattle.std.proofs.lemmas.Grind.{flat_map-append}
use Rattle.sw_meaning.specs.declared.template.Template.{Template}
use Rattle.sw_meaning.specs.Classes.{choices}
use Rattle.sw_lists.proofs.Each.{each-flat_map, each-weaker}
use Rattle.sw_cover.proofs.Rising.{IsChoice, each_choice}
use Rattle.sw_cover.proofs.TermCounts.{length_flat, total_same, length_map}
use Rattle.sw_cover.specs.Counting.{binomial}
use Rattle.sw_cover.proofs.Counts.{choices_count}
use Rattle.sw_template.specs.declared.cubes.CubeLits.{CubeLits}
use Rattle.sw_template.specs.Counts.{capped, cubes_up_to, cubes_count, most_in}
use Rattle.sw_meaning.specs.Classes.{cubes_of}
use Rattle.sw_template.specs.Lits.{IsPadded, lits_of}
use Rattle.sw_template.proofs.Capping.{range_more}

set_after : (p : List ℕ) (k x : ℕ) → slice_set (p ++ replicate (suc k) 0) (length p) x ≡ (p ++ x ∷ []) ++ replicate k 0
set_after [] k x = refl
set_after (a ∷ p) k x = ap (λ xs. a ∷ xs) (set_after p k x)

pub take_all : (p more : List ℕ) → take (length p) (p ++ more) ≡ p
take_all [] more = refl
take_all (a ∷ p) more = ap (λ xs. a ∷ xs) (take_all p more)

-- the literals of such a cube
pub literals_are : (c : List ℕ) → take (lits_of c).len (lits_of c).literals ≡ c
literals_are c = take_all c (replicate (6 - length c) 0)

pub padded : (c : List ℕ) → length c ≤ 6 → IsPadded (lits_of c)
padded c h = record { most = h; zeros = ap (λ p. p ++ replicate (6 - length c) 0) (sym (literals_are c)) }

-- as many literals as are told
pub size_is : (lits : List ℕ) (len : ℕ) → len < 6 → lits ≡ take len lits ++ replicate (6 - len) 0 → length (take len lits) ≡ len
size_is lits len h zeros =
    let all : length lits ≡ length (take len lits) + (6 - len) = ap length zeros ∙ (length-append (take len lits) (replicate (6 - len) 0) ∙ ap (λ n. length (take len lits) + n) (length-replicate (6 - len) 0)) in
    omega (arith, all, length-take len lits)

-- one more literal
pub set_more : (lits : List ℕ) (len x : ℕ) → len < 6 → length (take len lits) ≡ len → lits ≡ take len lits ++ replicate (6 - len) 0
    → ◌≡◌ {A = CubeLits} (record { literals = slice_set lits len x; len = len + 1 }) (lits_of (take len lits ++ x ∷ []))
set_more lits len x h size zeros =
    let longer : length (take len lits ++ x ∷ []) ≡ len + 1 = length-append (take len lits) (x ∷ []) ∙ ap (λ n. n + 1) size in
    let rest : suc (5 - len) ≡ 6 - len = omega arith in
    let short : 5 - len ≡ 6 - length (take len lits ++ x ∷ []) = omega (arith, longer) in
    let set : slice_set lits len x ≡ (take len lits ++ x ∷ []) ++ replicate (6 - length (take len lits ++ x ∷ [])) 0 =
    ap (λ xs. slice_set xs len x) zeros
    ∙ (ap (λ n. slice_set (take len lits ++ replicate n 0) len x) (sym rest)
    ∙ (ap (λ n. slice_set (take len lits ++ replicate (suc (5 - len)) 0) n x) (sym size)
    ∙ (set_after (take len lits) (5 - len) x ∙ ap (λ n. (take len lits ++ x ∷ []) ++ replicate n 0) short))) in
    both (slice_set lits len x) ((take len lits ++ x ∷ []) ++ replicate (6 - length (take len lits ++ x ∷ [])) 0) (len + 1) (length (take len lits ++ x ∷ [])) set (sym longer)
  where
    both : (a b : List ℕ) (m n : ℕ) → a ≡ b → m ≡ n → ◌≡◌ {A = CubeLits} (record { literals = a; len = m }) (record { literals = b; len = n })
    both a b m n e f = cc

-- the chosen literals alone
pub chosen_is : (l : CubeLits) → IsPadded l → length (take l.len l.literals) ≡ l.len → l ≡ lits_of (take l.len l.literals ++ [])
chosen_is l p size =
    both l.literals (take l.len l.literals ++ replicate (6 - l.len) 0) (take l.len l.literals ++ []) p.zeros (sym (append-nil (take l.len l.literals))) size
  where
    both : (a b c : List ℕ) → a ≡ take l.len l.literals ++ replicate (6 - l.len) 0 → take l.len l.literals ≡ c → length (take l.len l.literals) ≡ l.len → ◌≡◌ {A = CubeLits} (record { literals = a; len = l.len }) (lits_of c)
    both a b c e f g = e_both a (c ++ replicate (6 - length c) 0) l.len (length c) (e ∙ (ap (λ p. p ++ replicate (6 - l.len) 0) f ∙ ap (λ n. c ++ replicate (6 - n) 0) (sym g ∙ ap length f))) (sym g ∙ ap length f)
      where
        e_both : (a b : List ℕ) (m n : ℕ) → a ≡ b → m ≡ n → ◌≡◌ {A = CubeLits} (record { literals = a; len = m }) (record { literals = b; len = n })
        e_both a b m n e f = cc

abbrev pub chosen_with : List ℕ → ℕ → ℕ → ℕ → List CubeLits
chosen_with p left from end = map (λ c. lits_of (p ++ c)) (choices left (range_with_len from (end - from)))

pub none_left : (p : List ℕ) (left from end : ℕ) → 0 < left → from ≡ end → [] ≡ chosen_with p left from end
none_left p zero from end h e = absurd (omega arith)
none_left p (suc left) from end h e = let none : end - from ≡ 0 = omega arith in sym (ap (λ n. map (λ c. lits_of (p ++ c)) (choices (suc left) (range_with_len from n))) none)

pub chosen_more : (p : List ℕ) (left from end : ℕ) → 0 < left → from < end → chosen_with (p ++ from ∷ []) (left - 1) (from + 1) end ++ chosen_with p left (from + 1) end ≡ chosen_with p left from end
chosen_more p zero from end h k = absurd (omega arith)
chosen_more p (suc left) from end h k =
    let rest : suc (end - (from + 1)) ≡ end - from = omega arith in
    let later : List (List ℕ) = choices left (range_with_len (from + 1) (end - (from + 1))) in
    let more : List (List ℕ) = choices (suc left) (range_with_len (from + 1) (end - (from + 1))) in
    let less : suc left - 1 ≡ left = omega arith in
    ap (λ n. chosen_with (p ++ from ∷ []) n (from + 1) end ++ map (λ c. lits_of (p ++ c)) more) less
    ∙ (ap (λ cs. cs ++ map (λ c. lits_of (p ++ c)) more) (moved later)
    ∙ (sym (map-append (λ c. lits_of (p ++ c)) (map (λ c. from ∷ c) later) more)
    ∙ ap (λ n. map (λ c. lits_of (p ++ c)) (choices (suc left) (range_with_len from n))) rest))
  where
    moved : (cs : List (List ℕ)) → map (λ c. lits_of ((p ++ from ∷ []) ++ c)) cs ≡ map (λ c. lits_of (p ++ c)) (map (λ c. from ∷ c) cs)
    moved [] = refl
    moved (c ∷ cs) = ap (λ x. lits_of x ∷ map (λ c. lits_of ((p ++ from ∷ []) ++ c)) cs) (append_assoc p (from ∷ []) c) ∙ ap (λ xs. lits_of (p ++ from ∷ c) ∷ xs) (moved cs)

pub cubes_more : (literals n : ℕ) → map lits_of (cubes_up_to literals n) ++ chosen_with [] (n + 1) 0 literals ≡ map lits_of (cubes_up_to literals (n + 1))
cubes_more literals n =
    let next : List (List ℕ) = choices (n + 1) (range_with_len 0 literals) in
    let whole : literals - 0 ≡ literals = omega arith in
    let same : n + 1 ≡ 1 + n = omega arith in
    ap (λ m. map lits_of (cubes_up_to literals n) ++ map lits_of (choices (n + 1) (range_with_len 0 m))) whole
    ∙ (sym (map-append lits_of (cubes_up_to literals n) next)
    ∙ ap (map lits_of)
    (ap (λ cs. cubes_up_to literals n ++ cs) (sym (append-nil next) ∙ ap (λ m. choices m (range_with_len 0 literals) ++ []) same)
    ∙ (sym (flat_map-append (λ m. choices m (range_with_len 0 literals)) (range_with_len 1 n) ((1 + n) ∷ []))
    ∙ sym (ap (flat_map (λ m. choices m (range_with_len 0 literals))) (range_more 1 n)))))

pub lits_back : (cs : List (List ℕ)) → map (λ l. take l.len l.literals) (map lits_of cs) ≡ cs
lits_back [] = refl
lits_back (c ∷ cs) = ap (λ x. x ∷ map (λ l. take l.len l.literals) (map lits_of cs)) (literals_are c) ∙ ap (λ xs. c ∷ xs) (lits_back cs)

pub count_is : (literals most : ℕ) → length (cubes_up_to literals most) ≡ cubes_count literals most
count_is literals most =
    length_flat (λ n. choices n (range_with_len 0 literals)) (range_with_len 1 most)
    ∙ total_same (λ n. length (choices n (range_with_len 0 literals))) (binomial literals) (range_with_len 1 most)
    (λ n. choices_count n (range_with_len 0 literals) ∙ ap (λ m. binomial m n) (length-range_with_len 0 literals))

each_in_range : (P : ℕ → Type 0) (a n : ℕ) → ((c : ℕ) → a ≤ c → c < a + n → P c) → AllByRecursion P (range_with_len a n)
each_in_range P a zero f = tt
each_in_range P a (suc n) f = (f a (omega arith) (omega arith), each_in_range P (a + 1) n (λ c low high. f c (omega arith) (omega arith)))

each_padded : (cs : List (List ℕ)) → AllByRecursion (λ c. length c ≤ 6) cs → AllByRecursion IsPadded (map lits_of cs)
each_padded [] a = tt
each_padded (c ∷ cs) a = (padded c a.0, each_padded cs a.1)

pub all_padded : (literals most : ℕ) → most ≤ 6 → AllByRecursion IsPadded (map lits_of (cubes_up_to literals most))
all_padded literals most h =
    each_padded (cubes_up_to literals most)
    (each-flat_map (λ cube. length cube ≤ 6) (λ n. choices n (range_with_len 0 literals)) (range_with_len 1 most)
    (each_in_range (λ n. AllByRecursion (λ cube. length cube ≤ 6) (choices n (range_with_len 0 literals))) 1 most
    (λ n low high. each-weaker (IsChoice n (0 + literals)) (λ cube. length cube ≤ 6) (λ cube c. omega (arith, c.size, low, high, h)) (choices n (range_with_len 0 literals)) (each_choice n 0 literals))))

-- the cubes that begin with the chosen literals and this one, then those without it
pub joined : (p : List ℕ) (old a new : List CubeLits) (w : CubeLits) (left from end : ℕ) → w ≡ lits_of (p ++ from ∷ []) → a ≡ old ++ chosen_with (take w.len w.literals) (left - 1) (from + 1) end
    → new ≡ a ++ chosen_with p left (from + 1) end → 0 < left → from < end → new ≡ old ++ chosen_with p left from end
joined p old a new w left from end is first then some order =
    let with : take w.len w.literals ≡ p ++ from ∷ [] = ap (λ (l : CubeLits). take l.len l.literals) is ∙ literals_are (p ++ from ∷ []) in
    then
    ∙ (ap (λ xs. xs ++ chosen_with p left (from + 1) end) (first ∙ ap (λ q. old ++ chosen_with q (left - 1) (from + 1) end) with)
    ∙ (append_assoc old (chosen_with (p ++ from ∷ []) (left - 1) (from + 1) end) (chosen_with p left (from + 1) end)
    ∙ ap (λ xs. old ++ xs) (chosen_more p left from end some order)))

pub padded_as : (w : CubeLits) (c : List ℕ) → w ≡ lits_of c → length c ≤ 6 → IsPadded w
padded_as w c e h = subst IsPadded (sym e) (padded c h)

-- the cubes that were counted are the template's
pub counted : (t : Template) (count literals most n : ℕ) → count ≡ literals → most ≡ most_in t → n ≡ capped (cubes_count (2 * count) most) → n ≡ capped (length (cubes_of (2 * literals) t))
counted t count literals most n e k h =
    h ∙ ap capped (sym (count_is (2 * count) most) ∙ (ap (λ m. length (cubes_up_to (2 * m) most)) e ∙ ap (λ m. length (cubes_up_to (2 * literals) m)) k))

pub listed : (t : Template) (count literals most : ℕ) (cs : List CubeLits) → count ≡ literals → most ≡ most_in t → cs ≡ map lits_of (cubes_up_to (2 * count) most)
    → map (λ l. take l.len l.literals) cs ≡ cubes_of (2 * literals) t
listed t count literals most cs e k h =
    ap (map (λ (l : CubeLits). take l.len l.literals)) h ∙ (lits_back (cubes_up_to (2 * count) most) ∙ (ap (λ m. cubes_up_to (2 * m) most) e ∙ ap (cubes_up_to (2 * literals)) k))

pub within : (t : Template) (count literals most n : ℕ) (cs : List CubeLits) → count ≡ literals → most ≡ most_in t → n ≡ capped (cubes_count (2 * count) most) → n ≤ 1048576
    → cs ≡ map lits_of (cubes_up_to (2 * count) most) → length cs ≤ 1048576
within t count literals most n cs e k h few are =
    let size : length cs ≡ cubes_count (2 * count) most = ap length are ∙ (length_map lits_of (cubes_up_to (2 * count) most) ∙ count_is (2 * count) most) in
    omega (arith, size, h, few)
