-- The laws of reports, each the contract of a function of the crate.
use Rattle.std.specs.Prelude.{◌≡◌, ℕ, List, Option}
use Rattle.sw_meaning.specs.declared.protocol.Protocol.{Protocol}
use Rattle.sw_meaning.specs.declared.template.Template.{Template}
use Rattle.sw_meaning.specs.Laws.{OneMeaning}
use Rattle.sw_search.specs.Searches.{IsReport}

-- with one worker the protocol and the templates fix the status of a report, and each byte of it
abbrev pub OneReport : Type 0
OneReport = (p : Protocol) (t u : Option Template) (m n : ℕ) (a b : List ℕ) → IsReport p t u 1 m a → IsReport p t u 1 n b → (m ≡ n) × (a ≡ b)

-- the lists of two reports have one meaning, and their statuses are the same
pub record IsSameReport (p : Protocol) (t u : Option Template) (v w m n : ℕ) (a b : List ℕ) (r : IsReport p t u v m a) (s : IsReport p t u w n b) : Type 0 where
  pub status : m ≡ n
  pub meaning : OneMeaning p r.list s.list

-- with any numbers of workers, and whatever the schedules, two reports say the same
abbrev pub ReportsSayTheSame : Type 0
ReportsSayTheSame = (p : Protocol) (t u : Option Template) (v w m n : ℕ) (a b : List ℕ) (r : IsReport p t u v m a) (s : IsReport p t u w n b) → IsSameReport p t u v w m n a b r s
