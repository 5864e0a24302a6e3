-- Pieces of a text scan to marks, one after another.
use Rattle.std.specs.Prelude.{◌≡◌, ℕ, zero, suc, ◌+◌, ◌<◌, ◌≤◌, Bool, true, false, not, nat_eq, IsTrue, List, [], ◌∷◌, ◌++◌, length, map, take, drop, Some, Result, Ok, Err, slice_index, codes}
use Rattle.std.specs.List.{AllByRecursion, list_all, prefix_len}
use Rattle.std.proofs.Common.{refl, sym, ap, subst, ◌∙◌, arith, append_assoc, length-append, length-drop, lit<}
use Rattle.std.proofs.Math.Seq.{take-append_seam, drop-append_seam}
use Rattle.std.proofs.lemmas.List.{map-append}
use Rattle.std.proofs.lemmas.Bool.{and_parts}
use Rattle.std.proofs.lemmas.Bool.Decides.{nat_tests}
use Rattle.sw_scan.specs.declared.Kind.{Kind}
use Rattle.sw_scan.specs.declared.Token.{Token}
use Rattle.sw_scan.specs.Spelling.{is_blank, is_name, begins_name, continues_name, kind_of, IsFirst}
use Rattle.sw_scan.specs.Scans.{Scans, before}
use Rattle.sw_scan.proofs.Fronts.{HasNoLong, name_by_kind, mark_by_kind, long_first}
use Rattle.sw_trees.specs.declared.words.Sign.{Sign}
use Rattle.sw_trees.specs.Words.{word_of, sign_by, name_sign}
use Rattle.sw_trees.specs.Grammar.{Mark, Loads, Is}
use Rattle.sw_trees.specs.Limits.{IsWithin}
use Rattle.sw_text.specs.Names.{bytes_at}

abbrev pub token_of : Mark → Token
token_of m = m.word.token

-- from one place to the next the text has these marks, none of which goes past a limit
pub record Goes (T : List ℕ) (at next : ℕ) (ms : List Mark) : Type 0 where
  pub scans : (r : Result (List Token) ℕ) → Scans T next r → Scans T at (before (map token_of ms) r)
  pub words : AllByRecursion (λ (m : Mark). m.word ≡ word_of T m.word.token) ms
  pub within : AllByRecursion (λ (m : Mark). IsWithin m.loads) ms

-- at this place the text has this left
pub record Here (T : List ℕ) (at : ℕ) (rest : List ℕ) : Type 0 where
  pub fits : at ≤ length T
  pub is : drop at T ≡ rest

before_nil : (r : Result (List Token) ℕ) → before [] r ≡ r
before_nil (Ok rest) = refl
before_nil (Err at) = refl

before_append : (xs ys : List Token) (r : Result (List Token) ℕ) → before (xs ++ ys) r ≡ before xs (before ys r)
before_append xs ys (Ok rest) = ap Ok (append_assoc xs ys rest)
before_append xs ys (Err at) = refl

all_append : {X : Type 0} (P : X → Type 0) (xs ys : List X) → AllByRecursion P xs → AllByRecursion P ys → AllByRecursion P (xs ++ ys)
all_append P [] ys h k = k
all_append P (x ∷ xs) ys h k = (h.0, all_append P xs ys h.1 k)

pub goes_none : (T : List ℕ) (at : ℕ) → Goes T at at []
goes_none T at = record { scans = λ r h. subst (Scans T at) (sym (before_nil r)) h; words = tt; within = tt }

pub goes_on : (T : List ℕ) (at mid next : ℕ) (ms ns : List Mark) → Goes T at mid ms → Goes T mid next ns → Goes T at next (ms ++ ns)
goes_on T at mid next ms ns g h =
    record {
      scans = λ r k. subst (Scans T at) (sym (ap (λ ts. before ts r) (map-append token_of ms ns) ∙ before_append (map token_of ms) (map token_of ns) r)) (g.scans (before (map token_of ns) r) (h.scans r k));
      words = all_append _ ms ns g.words h.words;
      within = all_append _ ms ns g.within h.within;
    }

drop_more : (T x post : List ℕ) (at : ℕ) → at ≤ length T → drop at T ≡ x ++ post → drop (at + length x) T ≡ post
drop_more T [] post at h e = let same : at + 0 ≡ at = omega arith in subst (λ n. drop n T ≡ post) (sym same) e
drop_more [] (b ∷ x) post zero h e = cc
drop_more [] (b ∷ x) post (suc at) h e = absurd (omega arith)
drop_more (c ∷ T) (b ∷ x) post zero h e =
    let tail : T ≡ x ++ post = cc in
    let n : 0 + suc (length x) ≡ suc (length x) = omega arith in
    subst (λ n. drop n (c ∷ T) ≡ post) (sym n) (ap (drop (length x)) tail ∙ drop-append_seam x post)
drop_more (c ∷ T) (b ∷ x) post (suc at) h e =
    let n : suc at + suc (length x) ≡ suc (at + suc (length x)) = omega arith in
    subst (λ n. drop n (c ∷ T) ≡ post) (sym n) (drop_more T (b ∷ x) post at (omega arith) e)

-- what is left after a piece
pub here_next : (T x post : List ℕ) (at : ℕ) → Here T at (x ++ post) → Here T (at + length x) post
here_next T x post at h =
    let n = ap length h.is ∙ length-append x post in
    record { fits = omega (arith, n, length-drop at T, h.fits); is = drop_more T x post at h.fits h.is }

-- bytes that begin with none that continues a name
abbrev pub breaks : List ℕ → Bool
breaks [] = true
breaks (b ∷ bs) = not (continues_name b)

-- a mark at this place, of a sign, with loads; after it this is left
pub record Step (T : List ℕ) (at : ℕ) (sign : Sign) (loads : Loads) (x post : List ℕ) : Type 0 where
  pub next : ℕ
  pub mark : Mark
  pub is : Is sign loads mark
  pub goes : Goes T at next (mark ∷ [])
  pub later : Here T next post
  pub spelled : bytes_at T mark.word ≡ x

pub step_of : (T x post : List ℕ) (at : ℕ) (k : Kind) (sign : Sign) (loads : Loads) → Here T at (x ++ post) → IsFirst (x ++ post) k (length x) → sign_by k x ≡ sign → IsWithin loads → Step T at sign loads x post
step_of T x post at k sign loads h first s w =
    let t : Token = record { kind = k; at = at; len = length x } in
    let bytes : take (length x) (drop at T) ≡ x = ap (take (length x)) h.is ∙ take-append_seam x post in
    let m : Mark = record { word = word_of T t; loads = loads } in
    record {
      next = at + length x;
      mark = m;
      is = record { sign_is = ap (sign_by k) bytes ∙ s; loads_are = refl };
      goes = record { scans = λ r scans. Scans.token k (length x) (subst (λ rest. IsFirst rest k (length x)) (sym h.is) first) scans; words = (refl, tt); within = (w, tt) };
      later = here_next T x post at h;
      spelled = bytes;
    }

byte_at : (T post : List ℕ) (at b : ℕ) → at ≤ length T → drop at T ≡ b ∷ post → (slice_index T at ≡ b) × (at < length T)
byte_at [] post zero b h e = cc
byte_at [] post (suc at) b h e = absurd (omega arith)
byte_at (c ∷ T) post zero b h e = (cc, omega arith)
byte_at (c ∷ T) post (suc at) b h e = let p = byte_at T post at b (omega arith) e in (p.0, omega (arith, p.1))

goes_over : (T post : List ℕ) (at b : ℕ) → is_blank b ≡ true → Here T at (b ∷ post) → Goes T at (at + 1) []
goes_over T post at b is h =
    let p = byte_at T post at b h.fits h.is in
    record {
      scans = λ r scans. subst (Scans T at) (sym (before_nil r)) (Scans.blank p.1 (subst (λ c. IsTrue (is_blank c)) (sym p.0) is) scans);
      words = tt;
      within = tt;
    }

-- a space is no mark
pub goes_blank : (T post : List ℕ) (at : ℕ) → Here T at (32 ∷ post) → Goes T at (at + 1) []
goes_blank T post at h = goes_over T post at 32 refl h

pub blank_later : (T post : List ℕ) (at : ℕ) → Here T at (32 ∷ post) → Here T (at + 1) post
blank_later T post at h = here_next T (32 ∷ []) post at h

-- nor is a line feed
pub goes_line : (T post : List ℕ) (at : ℕ) → Here T at (10 ∷ post) → Goes T at (at + 1) []
goes_line T post at h = goes_over T post at 10 refl h

pub line_later : (T post : List ℕ) (at : ℕ) → Here T at (10 ∷ post) → Here T (at + 1) post
line_later T post at h = here_next T (10 ∷ []) post at h

prefix_all : (p : ℕ → Bool) (bs post : List ℕ) → list_all p bs ≡ true → prefix_len p post ≡ 0 → prefix_len p (bs ++ post) ≡ length bs
prefix_all p [] post h e = e
prefix_all p (b ∷ bs) post h e =
    let parts = and_parts (p b) (list_all p bs) h in
    let more = prefix_all p bs post parts.1 e in
    rw parts.0 (omega (arith, more))

breaks_none : (post : List ℕ) → breaks post ≡ true → prefix_len continues_name post ≡ 0
breaks_none [] h = refl
breaks_none (b ∷ bs) h = let fails : continues_name b ≡ false = grind arith in rw fails refl

name_first : (x post : List ℕ) → is_name x ≡ true → breaks post ≡ true → IsFirst (x ++ post) Kind.Name (length x)
name_first [] post h e = cc
name_first (b ∷ bs) post h e =
    let parts = and_parts (begins_name b) (list_all continues_name bs) h in
    let kind : kind_of (b ∷ []) ≡ Some Kind.Name = rw parts.0 refl in
    let n : 1 + prefix_len continues_name (bs ++ post) ≡ suc (length bs) = let m = prefix_all continues_name bs post parts.1 (breaks_none post e) in omega (arith, m) in
    subst (IsFirst (b ∷ bs ++ post) Kind.Name) n (name_by_kind b (bs ++ post) kind)

-- a name or a keyword of formulas
pub step_name : (T x post : List ℕ) (at : ℕ) (sign : Sign) (loads : Loads) → Here T at (x ++ post) → is_name x ≡ true → name_sign x ≡ sign → breaks post ≡ true → IsWithin loads → Step T at sign loads x post
step_name T x post at sign loads h name s e w = step_of T x post at Kind.Name sign loads h (name_first x post name e) s w

no_long : (b : ℕ) (post : List ℕ) → nat_eq 33 b ≡ false → nat_eq 45 b ≡ false → nat_eq 60 b ≡ false → HasNoLong (b ∷ post)
no_long b post e f g = record { not_equal = rw e refl; arrow = rw f refl; double = rw g refl }

module _ (T post : List ℕ) (at : ℕ) (loads : Loads) where
  pub step_left : Here T at (codes "(" ++ post) → IsWithin loads → Step T at Sign.LeftRound loads (codes "(") post
  step_left h w = step_of T (codes "(") post at Kind.LeftRound Sign.LeftRound loads h (mark_by_kind 40 post Kind.LeftRound (λ e. cc) (λ e. cc) (no_long 40 post refl refl refl) refl) refl w

  pub step_right : Here T at (codes ")" ++ post) → IsWithin loads → Step T at Sign.RightRound loads (codes ")") post
  step_right h w = step_of T (codes ")") post at Kind.RightRound Sign.RightRound loads h (mark_by_kind 41 post Kind.RightRound (λ e. cc) (λ e. cc) (no_long 41 post refl refl refl) refl) refl w

  pub step_comma : Here T at (codes "," ++ post) → IsWithin loads → Step T at Sign.Comma loads (codes ",") post
  step_comma h w = step_of T (codes ",") post at Kind.Comma Sign.Comma loads h (mark_by_kind 44 post Kind.Comma (λ e. cc) (λ e. cc) (no_long 44 post refl refl refl) refl) refl w

  pub step_colon : Here T at (codes ":" ++ post) → IsWithin loads → Step T at Sign.Colon loads (codes ":") post
  step_colon h w = step_of T (codes ":") post at Kind.Colon Sign.Colon loads h (mark_by_kind 58 post Kind.Colon (λ e. cc) (λ e. cc) (no_long 58 post refl refl refl) refl) refl w

  pub step_semicolon : Here T at (codes ";" ++ post) → IsWithin loads → Step T at Sign.Semicolon loads (codes ";") post
  step_semicolon h w = step_of T (codes ";") post at Kind.Semicolon Sign.Semicolon loads h (mark_by_kind 59 post Kind.Semicolon (λ e. cc) (λ e. cc) (no_long 59 post refl refl refl) refl) refl w

  pub step_dot : Here T at (codes "." ++ post) → IsWithin loads → Step T at Sign.Dot loads (codes ".") post
  step_dot h w = step_of T (codes ".") post at Kind.Dot Sign.Dot loads h (mark_by_kind 46 post Kind.Dot (λ e. cc) (λ e. cc) (no_long 46 post refl refl refl) refl) refl w

  pub step_prime : Here T at (codes "'" ++ post) → IsWithin loads → Step T at Sign.Prime loads (codes "'") post
  step_prime h w = step_of T (codes "'") post at Kind.Prime Sign.Prime loads h (mark_by_kind 39 post Kind.Prime (λ e. cc) (λ e. cc) (no_long 39 post refl refl refl) refl) refl w

  pub step_equal : Here T at (codes "=" ++ post) → IsWithin loads → Step T at Sign.Equal loads (codes "=") post
  step_equal h w = step_of T (codes "=") post at Kind.Equal Sign.Equal loads h (mark_by_kind 61 post Kind.Equal (λ e. cc) (λ e. cc) (no_long 61 post refl refl refl) refl) refl w

  pub step_and : Here T at (codes "&" ++ post) → IsWithin loads → Step T at Sign.And loads (codes "&") post
  step_and h w = step_of T (codes "&") post at Kind.And Sign.And loads h (mark_by_kind 38 post Kind.And (λ e. cc) (λ e. cc) (no_long 38 post refl refl refl) refl) refl w

  pub step_or : Here T at (codes "|" ++ post) → IsWithin loads → Step T at Sign.Or loads (codes "|") post
  step_or h w = step_of T (codes "|") post at Kind.Or Sign.Or loads h (mark_by_kind 124 post Kind.Or (λ e. cc) (λ e. cc) (no_long 124 post refl refl refl) refl) refl w

  pub step_unequal : Here T at (codes "!=" ++ post) → IsWithin loads → Step T at Sign.NotEqual loads (codes "!=") post
  step_unequal h w = step_of T (codes "!=") post at Kind.NotEqual Sign.NotEqual loads h (long_first Kind.NotEqual (33 ∷ 61 ∷ []) (codes "!=" ++ post) (lit< tt) refl (λ _ _. refl) refl) refl w

  pub step_arrow : Here T at (codes "->" ++ post) → IsWithin loads → Step T at Sign.Arrow loads (codes "->") post
  step_arrow h w = step_of T (codes "->") post at Kind.Arrow Sign.Arrow loads h (long_first Kind.Arrow (45 ∷ 62 ∷ []) (codes "->" ++ post) (lit< tt) refl (λ _ _. refl) refl) refl w

  pub step_double : Here T at (codes "<->" ++ post) → IsWithin loads → Step T at Sign.DoubleArrow loads (codes "<->") post
  step_double h w = step_of T (codes "<->") post at Kind.DoubleArrow Sign.DoubleArrow loads h (long_first Kind.DoubleArrow (60 ∷ 45 ∷ 62 ∷ []) (codes "<->" ++ post) (lit< tt) refl (λ _ _. refl) refl) refl w

-- bytes that begin with one that is not `=`
abbrev pub no_equal : List ℕ → Bool
no_equal [] = false
no_equal (b ∷ bs) = not (nat_eq 61 b)

pub no_equal_more : (x y : List ℕ) → no_equal x ≡ true → no_equal (x ++ y) ≡ true
no_equal_more [] y h = cc
no_equal_more (b ∷ x) y h = h

pub name_no_equal : (x : List ℕ) → is_name x ≡ true → no_equal x ≡ true
name_no_equal [] h = cc
name_no_equal (b ∷ bs) h = differs b (and_parts (begins_name b) (list_all continues_name bs) h).0
  where
    differs : (b : ℕ) → begins_name b ≡ true → not (nat_eq 61 b) ≡ true
    differs b h = grind (arith, nat_tests)

not_equal_sign : (post : List ℕ) → no_equal post ≡ true → HasNoLong (33 ∷ post)
not_equal_sign [] h = cc
not_equal_sign (b ∷ bs) h =
    let e : nat_eq 61 b ≡ false = grind arith in
    record { not_equal = rw e refl; arrow = refl; double = refl }

pub step_not : (T post : List ℕ) (at : ℕ) (loads : Loads) → Here T at (33 ∷ post) → no_equal post ≡ true → IsWithin loads → Step T at Sign.Not loads (33 ∷ []) post
step_not T post at loads h e w = step_of T (33 ∷ []) post at Kind.Not Sign.Not loads h (mark_by_kind 33 post Kind.Not (λ e. cc) (λ e. cc) (not_equal_sign post e) refl) refl w
