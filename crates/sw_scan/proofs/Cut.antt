-- A text that is cut as far as some place.
use Rattle.std.proofs.Common.{◌≡◌, ◌≢◌, ℕ, ◌+◌, ◌-◌, ◌<◌, ◌≤◌, IsTrue, false, List, [], ◌∷◌, ◌++◌, length, get_or, take, drop, Result, Ok, Err, All, refl, append_assoc, append-nil, length-drop, arith}
use Rattle.std.proofs.lemmas.Bool.{both_ways}
use Rattle.std.proofs.lemmas.List.{take_all}
use Rattle.std.proofs.lemmas.List.Elements.{All-append, All-cons}
use Rattle.sw_scan.specs.declared.Kind.{Kind}
use Rattle.sw_scan.specs.declared.Token.{Token}
use Rattle.sw_scan.specs.Spelling.{is_blank, IsFirst, BeginsNone}
use Rattle.sw_scan.specs.Scans.{Scans, IsComment, IsWithin, before}

-- up to this place the text has these tokens
pub record IsCut (text : List ℕ) (at : ℕ) (tokens : List Token) : Type 0 where
  pub in_range : at ≤ length text
  pub goes_on : (r : Result (List Token) ℕ) → Scans text at r → Scans text 0 (before tokens r)
  pub all_within : All (IsWithin text) tokens

pub at_blank : (text : List ℕ) (at : ℕ) (tokens : List Token) → IsCut text at tokens → at < length text → IsTrue (is_blank (get_or text at 0)) → IsCut text (at + 1) tokens
at_blank text at tokens cut inside blank = record {
  in_range = omega arith;
  goes_on = λ r scans. cut.goes_on r (Scans.blank inside blank scans);
  all_within = cut.all_within;
}

pub at_comment : (text : List ℕ) (at next : ℕ) (tokens : List Token) → IsCut text at tokens → IsComment text at next → IsCut text next tokens
at_comment text at next tokens cut comment = record {
  in_range = comment.fits;
  goes_on = λ r scans. cut.goes_on r (Scans.comment next comment scans);
  all_within = cut.all_within;
}

before-append : (tokens : List Token) (t : Token) (r : Result (List Token) ℕ) → before (tokens ++ t ∷ []) r ≡ before tokens (before (t ∷ []) r)
before-append tokens t (Ok rest) = rw append_assoc refl
before-append tokens t (Err at) = refl

-- a token is within a text that has it
with_token : (text : List ℕ) (t : Token) → IsWithin text t → All (IsWithin text) (t ∷ [])
with_token text t within = All-cons (IsWithin text) t [] within (λ k d less. absurd (omega arith))

pub at_token : (text : List ℕ) (at : ℕ) (tokens : List Token) (k : Kind) (n : ℕ) → IsCut text at tokens → IsFirst (drop at text) k n → IsCut text (at + n) (tokens ++ record { kind = k; at = at; len = n } ∷ [])
at_token text at tokens k n cut first =
    let t : Token = record { kind = k; at = at; len = n } in
    let fits : at + n ≤ length text = omega (arith, length-drop at text, first.fits, first.nonempty) in
    record {
      in_range = fits;
      goes_on = λ r scans. rw (before-append tokens t r) (cut.goes_on (before (t ∷ []) r) (Scans.token k n first scans));
      all_within = All-append (IsWithin text) tokens (t ∷ []) cut.all_within (with_token text t (record { nonempty = first.nonempty; fits = fits }));
    }

pub at_bad : (text : List ℕ) (at : ℕ) (tokens : List Token) → IsCut text at tokens → at < length text → is_blank (get_or text at 0) ≡ false → get_or text at 0 ≢ 35 → BeginsNone (drop at text) → Scans text 0 (Err at)
at_bad text at tokens cut inside blank comment none =
    cut.goes_on (Err at) (Scans.bad inside (λ holds. both_ways _ blank holds) comment none)

pub at_end : (text : List ℕ) (at : ℕ) (tokens : List Token) → IsCut text at tokens → length text ≤ at → Scans text 0 (Ok tokens)
at_end text at tokens cut over =
    let scans : Scans text 0 (before tokens (Ok [])) = cut.goes_on (Ok []) (Scans.end (omega (arith, cut.in_range))) in
    rw append-nil at scans

-- what is left of a text, as a slice to its end has it
pub rest_is : (text : List ℕ) (at : ℕ) → take (length text - at) (drop at text) ≡ drop at text
rest_is text at = take_all _ (drop at text) (omega (arith, length-drop at text))
