-- Which words spell a template, and where the first fault stands.
use Rattle.std.specs.Prelude.{◌≡◌, ℕ, ◌+◌, ◌<◌, ◌≤◌, List, [], ◌∷◌, ◌++◌, length, take, if◌then◌else◌}
use Rattle.std.specs.List.{AllByRecursion, flat_map}
use Rattle.sw_template_text.specs.declared.words.Word.{Word}
use Rattle.sw_template_text.specs.declared.words.Word.TheVariants.{ForAll, Exists, Literals, Depth, Terms, Number, Name}
use Rattle.sw_template_text.specs.declared.words.NamedRun.{NamedRun}
use Rattle.sw_template_text.specs.declared.words.Numbers.{Numbers}
use Rattle.sw_template_text.specs.declared.words.Parsed.{Parsed}

-- the words of a run: its quantifier, its count and its sort
abbrev pub run_words : NamedRun → List Word
run_words run = (if run.universal then ForAll else Exists) ∷ Number run.count ∷ Name run.at run.len ∷ []

-- the depth is 1 where no word says it, and else 1 or 2
pub data DepthWords : ℕ → List Word → Type 0 where
  left_out : DepthWords 1 []
  given : (depth : ℕ) → 1 ≤ depth → depth ≤ 2 → DepthWords depth (Depth ∷ Number depth ∷ [])

-- the bound on terms is 0 where no word says it, and else at most 3
pub data TermsWords : ℕ → List Word → Type 0 where
  left_out : TermsWords 0 []
  given : (terms : ℕ) → terms ≤ 3 → TermsWords terms (Terms ∷ Number terms ∷ [])

-- these words spell this template
pub record Spells (words : List Word) (runs : List NamedRun) (n : Numbers) : Type 0 where
  pub depth_words : List Word
  pub terms_words : List Word
  pub counts : AllByRecursion (λ run. 0 < run.count) runs
  pub some : 0 < n.literals
  pub depth : DepthWords n.depth depth_words
  pub terms : TermsWords n.terms terms_words
  pub are : words ≡ flat_map run_words runs ++ Literals ∷ Number n.literals ∷ (depth_words ++ terms_words)

-- some template begins with these words
abbrev pub CanBegin : List Word → Type 0
CanBegin front = (more : List Word) × ((runs : List NamedRun) × ((n : Numbers) × Spells (front ++ more) runs n))

-- some template begins with the first k words, none with the next one too, and they are none themselves
pub record IsFault (words : List Word) (k : ℕ) : Type 0 where
  pub within : k ≤ length words
  pub goes_on : CanBegin (take k words)
  pub stops : k < length words → CanBegin (take (k + 1) words) → ⊥
  pub none : k ≡ length words → (runs : List NamedRun) (n : Numbers) → Spells words runs n → ⊥

-- what is answered of the words
abbrev pub IsParsed : List Word → Parsed → Type 0
IsParsed words (Parsed.Template runs n) = Spells words runs n
IsParsed words (Parsed.Syntax k) = IsFault words k
