-- What a token shows.
use Rattle.std.specs.Prelude.{◌≡◌, ℕ}
use Rattle.boxcar.specs.Table.{Shows}
use Rattle.sw_filter.specs.declared.filter.Filter.{Filter}
use Rattle.sw_pool.specs.declared.pool.Pool.{Pool}
use Rattle.sw_pool.specs.declared.pool.Seen.{Seen}
use Rattle.sw_pool.specs.declared.pool.PublishError.{PublishError}
use Rattle.sw_pool.specs.declared.pool.PublishError.TheVariants.{Memory}

-- the token is of this pool
abbrev pub IsShown : Pool → Seen → Type 0
IsShown pool seen = Shows pool.filters seen.pushed

abbrev pub filter_of : Seen → Filter
filter_of seen = seen.pushed.value

abbrev pub index_of : Seen → ℕ
index_of seen = seen.pushed.index

-- the error hands the filter back
abbrev pub HandsBack : Filter → PublishError → Type 0
HandsBack x (Memory back) = back ≡ x
