-- What one read or one write does to a source or a sink, and what a fault is.
use Rattle.std.specs.Prelude.{◌≡◌, ◌⊎◌, ◌+◌, ◌-◌, ◌^◌, ◌≤◌, ◌<◌, ℕ, List, [], ◌++◌, length, min, take, Option, IfSome, option_map}
use Rattle.sw_edge.specs.declared.edge.Got.{Got}
use Rattle.sw_edge.specs.declared.edge.Got.TheVariants as got
use Rattle.sw_edge.specs.declared.edge.Put.{Put}
use Rattle.sw_edge.specs.declared.edge.Put.TheVariants as put

-- the count of faults rose, or it stands at the last number that it can show
abbrev pub Rose : ℕ → ℕ → Type 0
Rose before now = (before < now) ⊎ (2 ^ 64 - 1 ≤ now)

-- these bytes were taken from the front of what was left, where that is told
abbrev pub Loses : Option (List ℕ) → Option (List ℕ) → List ℕ → Type 0
Loses before now bytes = before ≡ option_map (λ left. bytes ++ left) now

-- n bytes were taken from the front of what was left, where that is told
abbrev pub Took : Option (List ℕ) → Option (List ℕ) → ℕ → Type 0
Took before now n = (bytes : List ℕ) × (length bytes ≡ n) × Loses before now bytes

-- one read, which leaves `buf` in the buffer: its first n bytes were the next, or nothing is taken
abbrev pub ReadGives : Option (List ℕ) → Option (List ℕ) → List ℕ → Got → Type 0
ReadGives before now buf (got.Bytes n) = (1 ≤ n) × (n ≤ length buf) × Loses before now (take n buf)
ReadGives before now buf got.End = (now ≡ before) × IfSome before (λ left. left ≡ [])
ReadGives before now buf got.Failed = now ≡ before

-- the count of faults never falls, and a read fails only where it rose
abbrev pub ReadCause : ℕ → ℕ → Got → Type 0
ReadCause before now (got.Bytes n) = before ≤ now
ReadCause before now got.End = before ≤ now
ReadCause before now got.Failed = (before ≤ now) × Rose before now

-- the bytes were appended to what the sink holds, where that is told
abbrev pub Gains : Option (List ℕ) → Option (List ℕ) → List ℕ → Type 0
Gains before now bytes = now ≡ option_map (λ held. held ++ bytes) before

-- a front of the bytes was appended, and not all of them
abbrev pub GainsPrefix : Option (List ℕ) → Option (List ℕ) → List ℕ → Type 0
GainsPrefix before now bytes = (n : ℕ) × (n < length bytes) × Gains before now (take n bytes)

-- one write of a piece: its first n bytes are appended, or nothing is
abbrev pub WriteGives : Option (List ℕ) → Option (List ℕ) → List ℕ → Put → Type 0
WriteGives before now piece (put.Bytes n) = (1 ≤ n) × (n ≤ length piece) × Gains before now (take n piece)
WriteGives before now piece put.Failed = now ≡ before

-- the count of faults never falls, and a write fails only where it rose
abbrev pub WriteCause : ℕ → ℕ → Put → Type 0
WriteCause before now (put.Bytes n) = before ≤ now
WriteCause before now put.Failed = (before ≤ now) × Rose before now

-- one more fault, in a count that stays at its last number
abbrev pub one_more : ℕ → ℕ
one_more faults = min (faults + 1) (2 ^ 64 - 1)

-- a count that rises by one where a read fails, and else stays
abbrev pub faults_after_read : ℕ → Got → ℕ
faults_after_read faults (got.Bytes n) = faults
faults_after_read faults got.End = faults
faults_after_read faults got.Failed = one_more faults

-- a count that rises by one where a write fails, and else stays
abbrev pub faults_after_write : ℕ → Put → ℕ
faults_after_write faults (put.Bytes n) = faults
faults_after_write faults put.Failed = one_more faults
