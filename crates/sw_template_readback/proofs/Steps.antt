-- A text that is read as far as some place: its tokens, its words, and what is left.
use Rattle.std.specs.Prelude.{◌≡◌, ℕ, zero, suc, ◌+◌, ◌<◌, ◌≤◌, ◌||◌, Bool, true, false, IsTrue, List, [], ◌∷◌, ◌++◌, length, take, drop, get_or, Some, codes}
use Rattle.std.specs.List.{list_all, prefix_len}
use Rattle.std.specs.Char.{is_ascii_digit}
use Rattle.std.specs.Str.{bytes_eq}
use Rattle.std.specs.Fmt.{decimal, digits}
use Rattle.std.proofs.Common.{refl, sym, ap, subst, ◌∙◌, arith}
use Rattle.std.proofs.Math.Seq.{take-append_seam, drop-append_seam}
use Rattle.std.proofs.lemmas.List.{map-append}
use Rattle.std.proofs.lemmas.Bool.{and_parts}
use Rattle.sw_scan.specs.declared.Kind.{Kind}
use Rattle.sw_scan.specs.declared.Token.{Token}
use Rattle.sw_scan.specs.Spelling.{is_blank, is_name, begins_name, continues_name, kind_of, IsFirst}
use Rattle.sw_scan.proofs.Fronts.{name_by_kind, number_by_kind}
use Rattle.sw_scan.proofs.Cut.{IsCut, at_blank, at_token}
use Rattle.sw_template_text.specs.declared.words.Word.{Word}
use Rattle.sw_template_text.specs.declared.words.Word.TheVariants as w
use Rattle.sw_template_text.specs.Texts.{name_word, number_word, word_by, bytes_at, words_of}
use Rattle.sw_template_readback.specs.Laws.{IsSortName}

drop_plus : (a n : ℕ) (xs : List ℕ) → drop (a + n) xs ≡ drop n (drop a xs)
drop_plus zero n xs = let same : 0 + n ≡ n = omega arith in ap (λ k. drop k xs) same
drop_plus (suc a) zero [] = let same : suc a + 0 ≡ suc a = omega arith in ap (λ k. drop k []) same
drop_plus (suc a) (suc n) [] = let same : suc a + suc n ≡ suc (a + suc n) = omega arith in ap (λ k. drop k []) same
drop_plus (suc a) n (x ∷ xs) = let same : suc a + n ≡ suc (a + n) = omega arith in ap (λ k. drop k (x ∷ xs)) same ∙ drop_plus a n xs

first_left : (xs rest : List ℕ) (at b : ℕ) → drop at xs ≡ b ∷ rest → (at < length xs) × (get_or xs at 0 ≡ b)
first_left [] rest zero b e = absurd (cc)
first_left [] rest (suc at) b e = absurd (cc)
first_left (x ∷ xs) rest zero b e = (omega arith, cc)
first_left (x ∷ xs) rest (suc at) b e = let more = first_left xs rest at b e in (omega (arith, more.0), more.1)

module _ (T : List ℕ) where
  pub record Read (at : ℕ) (tokens : List Token) (words : List Word) (rest : List ℕ) : Type 0 where
    pub cut : IsCut T at tokens
    pub words_are : words_of T tokens ≡ words
    pub left : drop at T ≡ rest

  pub blank : (at : ℕ) (tokens : List Token) (words : List Word) (rest : List ℕ) → Read at tokens words (32 ∷ rest) → Read (at + 1) tokens words rest
  blank at tokens words rest r =
      let first = first_left T rest at 32 r.left in
      record {
        cut = at_blank T at tokens r.cut first.0 (subst (λ b. IsTrue (is_blank b)) (sym first.1) refl);
        words_are = r.words_are;
        left = drop_plus at 1 T ∙ ap (drop 1) r.left;
      }

  pub word : (at : ℕ) (tokens : List Token) (words : List Word) (x rest : List ℕ) (k : Kind) (y : Word) → Read at tokens words (x ++ rest) → IsFirst (x ++ rest) k (length x)
      → word_by k x (record { kind = k; at = at; len = length x }) ≡ y → Read (at + length x) (tokens ++ record { kind = k; at = at; len = length x } ∷ []) (words ++ y ∷ []) rest
  word at tokens words x rest k y r first is =
      let t : Token = record { kind = k; at = at; len = length x } in
      let bytes : bytes_at T at (length x) ≡ x = ap (take (length x)) r.left ∙ take-append_seam x rest in
      record {
        cut = at_token T at tokens k (length x) r.cut (subst (λ bs. IsFirst bs k (length x)) (sym r.left) first);
        words_are = map-append (λ (t : Token). word_by t.kind (bytes_at T t.at t.len) t) tokens (t ∷ [])
            ∙ (ap (λ ws. ws ++ word_by k (bytes_at T at (length x)) t ∷ []) r.words_are ∙ ap (λ y. words ++ y ∷ []) (ap (λ b. word_by k b t) bytes ∙ is));
        left = drop_plus at (length x) T ∙ (ap (drop (length x)) r.left ∙ drop-append_seam x rest);
      }

-- ---- names

prefix_all : (p : ℕ → Bool) (bs post : List ℕ) → list_all p bs ≡ true → prefix_len p post ≡ 0 → prefix_len p (bs ++ post) ≡ length bs
prefix_all p [] post h e = e
prefix_all p (b ∷ bs) post h e =
    let parts = and_parts (p b) (list_all p bs) h in
    let more = prefix_all p bs post parts.1 e in
    rw parts.0 (omega (arith, more))

pub name_first : (x rest : List ℕ) → is_name x ≡ true → IsFirst (x ++ 32 ∷ rest) Kind.Name (length x)
name_first [] rest h = absurd (cc)
name_first (b ∷ bs) rest h =
    let parts = and_parts (begins_name b) (list_all continues_name bs) h in
    let kind : kind_of (b ∷ []) ≡ Some Kind.Name = rw parts.0 refl in
    let n : 1 + prefix_len continues_name (bs ++ 32 ∷ rest) ≡ suc (length bs) = (let m = prefix_all continues_name bs (32 ∷ rest) parts.1 refl in omega (arith, m)) in
    subst (IsFirst (b ∷ bs ++ 32 ∷ rest) Kind.Name) n (name_by_kind b (bs ++ 32 ∷ rest) kind)

false_parts : (a b : Bool) → (a || b) ≡ false → (a ≡ false) × (b ≡ false)
false_parts false b e = (refl, e)
false_parts true b e = absurd (cc)

-- a sort's name is the word of a name
pub sort_word : (x : List ℕ) (t : Token) → IsSortName x → name_word x t ≡ w.Name t.at t.len
sort_word x t s =
    let one = false_parts (bytes_eq x (codes "forall")) _ s.free in
    let two = false_parts (bytes_eq x (codes "exists")) _ one.1 in
    let three = false_parts (bytes_eq x (codes "literals")) _ two.1 in
    let four = false_parts (bytes_eq x (codes "depth")) _ three.1 in
    let five = false_parts (bytes_eq x (codes "terms")) _ four.1 in
    rw (one.0, two.0, three.0, four.0, five.0, five.1) refl

-- ---- numbers

pub record IsDigit (n : ℕ) : Type 0 where
  pub byte : ℕ
  pub text : decimal n ≡ byte ∷ []
  pub kind : kind_of (byte ∷ []) ≡ Some Kind.Number
  pub value : number_word (byte ∷ []) ≡ w.Number n

pub digit : (n : ℕ) → n ≤ 6 → IsDigit n
unfolding digits
digit zero h = record { byte = 48; text = refl; kind = refl; value = refl }
digit (suc zero) h = record { byte = 49; text = refl; kind = refl; value = refl }
digit (suc (suc zero)) h = record { byte = 50; text = refl; kind = refl; value = refl }
digit (suc (suc (suc zero))) h = record { byte = 51; text = refl; kind = refl; value = refl }
digit (suc (suc (suc (suc zero)))) h = record { byte = 52; text = refl; kind = refl; value = refl }
digit (suc (suc (suc (suc (suc zero))))) h = record { byte = 53; text = refl; kind = refl; value = refl }
digit (suc (suc (suc (suc (suc (suc zero)))))) h = record { byte = 54; text = refl; kind = refl; value = refl }
digit (suc (suc (suc (suc (suc (suc (suc n))))))) h = absurd (omega (arith, h))

pub digit_first : (b : ℕ) (rest : List ℕ) → kind_of (b ∷ []) ≡ Some Kind.Number → prefix_len is_ascii_digit rest ≡ 0 → IsFirst (b ∷ rest) Kind.Number 1
digit_first b rest kind none = let n : 1 + prefix_len is_ascii_digit rest ≡ 1 = omega (arith, none) in subst (IsFirst (b ∷ rest) Kind.Number) n (number_by_kind b rest kind)
