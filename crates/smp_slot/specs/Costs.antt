-- What it costs to put bytes: the pages that they enter, each written once, and those of them that they begin.
use Rattle.std.specs.Prelude.{◌+◌, ◌-◌, ◌/◌, ◌%◌, ℕ, zero, suc, List}
use Rattle.smp_flash.specs.Area.{dirty_pages}
use Rattle.smp_flash.specs.Geometry.{tail}

-- the pages that n bytes from a place on enter
abbrev pub entered : ℕ → ℕ → ℕ → ℕ
entered page at zero = 0
entered page at (suc n) = (at % page + suc n + page - 1) / page

-- the pages whose first byte is among them
abbrev pub begun : ℕ → ℕ → ℕ → ℕ
begun page at n = (at % page + n + page - 1) / page - (at % page + page - 1) / page

-- those of the begun pages that are not all FF, which are erased: the first of them begins at the end of the page in which
-- the place lies, or at the place
abbrev pub dirty_begun : ℕ → ℕ → ℕ → List ℕ → ℕ
dirty_begun page at n held = dirty_pages page (at + tail page at) (begun page at n) held
