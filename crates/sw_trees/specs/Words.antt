-- What the tokens of a text are.
use Rattle.std.specs.Prelude.{ℕ, List, take, drop, Option, Some, None, if◌then◌else◌, codes}
use Rattle.std.specs.Str.{bytes_eq}
use Rattle.sw_scan.specs.declared.Kind.{Kind}
use Rattle.sw_scan.specs.declared.Token.{Token}
use Rattle.sw_trees.specs.declared.words.Keyword.{Keyword}
use Rattle.sw_trees.specs.declared.words.Sign.{Sign}
use Rattle.sw_trees.specs.declared.words.Word.{Word}

-- the keyword of declarations that a name is
abbrev pub keyword_of : List ℕ → Option Keyword
keyword_of bytes =
    if bytes_eq bytes (codes "sort") then Some Keyword.Sort
    else (if bytes_eq bytes (codes "immutable") then Some Keyword.Immutable
    else (if bytes_eq bytes (codes "mutable") then Some Keyword.Mutable
    else (if bytes_eq bytes (codes "relation") then Some Keyword.Relation
    else (if bytes_eq bytes (codes "constant") then Some Keyword.Constant
    else (if bytes_eq bytes (codes "function") then Some Keyword.Function
    else (if bytes_eq bytes (codes "axiom") then Some Keyword.Axiom
    else (if bytes_eq bytes (codes "init") then Some Keyword.Init
    else (if bytes_eq bytes (codes "transition") then Some Keyword.Transition
    else (if bytes_eq bytes (codes "modifies") then Some Keyword.Modifies
    else (if bytes_eq bytes (codes "safety") then Some Keyword.Safety
    else None))))))))))

abbrev pub keyword_or_name : Option Keyword → Sign
keyword_or_name (Some k) = Sign.Keyword k
keyword_or_name None = Sign.Name

-- a keyword is no name
abbrev pub name_sign : List ℕ → Sign
name_sign bytes =
    if bytes_eq bytes (codes "forall") then Sign.ForAll
    else (if bytes_eq bytes (codes "exists") then Sign.Exists
    else (if bytes_eq bytes (codes "true") then Sign.True
    else (if bytes_eq bytes (codes "false") then Sign.False
    else keyword_or_name (keyword_of bytes))))

abbrev pub sign_by : Kind → List ℕ → Sign
sign_by Kind.Name bytes = name_sign bytes
sign_by Kind.Number bytes = Sign.Number
sign_by Kind.LeftRound bytes = Sign.LeftRound
sign_by Kind.RightRound bytes = Sign.RightRound
sign_by Kind.Comma bytes = Sign.Comma
sign_by Kind.Colon bytes = Sign.Colon
sign_by Kind.Semicolon bytes = Sign.Semicolon
sign_by Kind.Dot bytes = Sign.Dot
sign_by Kind.Prime bytes = Sign.Prime
sign_by Kind.Equal bytes = Sign.Equal
sign_by Kind.NotEqual bytes = Sign.NotEqual
sign_by Kind.Not bytes = Sign.Not
sign_by Kind.And bytes = Sign.And
sign_by Kind.Or bytes = Sign.Or
sign_by Kind.Arrow bytes = Sign.Arrow
sign_by Kind.DoubleArrow bytes = Sign.DoubleArrow

abbrev pub sign_of : List ℕ → Token → Sign
sign_of text t = sign_by t.kind (take t.len (drop t.at text))

abbrev pub word_of : List ℕ → Token → Word
word_of text t = record { sign = sign_of text t; token = t }
