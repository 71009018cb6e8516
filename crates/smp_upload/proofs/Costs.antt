-- What it costs to store a part.
use Rattle.std.proofs.Common.{ℕ, ◌+◌, ◌*◌, ◌≤◌, Option, arith}
use Rattle.smp_flash.specs.Calls.{ReadsAtMost}
use Rattle.smp_flash.specs.Geometry.{IsPage, Regular}
use Rattle.smp_flash.specs.Layout.{geometry_of}
use Rattle.smp_flash.specs.declared.layout.Layout.{Layout}
use Rattle.smp_flash.proofs.Passing.{reads_add, reads_more}
use Rattle.smp_flash.proofs.Sizes.{each_page, regular}
use Rattle.smp_slot.specs.Costs.{begun}

-- the pages that bytes begin are read once, so no more than the bytes and a page
begun_most : (page at n : ℕ) → IsPage page → begun page at n * page ≤ n + page
begun_most page at n is = each_page (λ p. begun p at n * p ≤ n + p) (omega arith) (omega arith) (omega arith) (omega arith) page is

pub store_reads : (layout : Layout) (o n most : ℕ) (p q : Option ℕ) → n ≤ most → most ≤ 2048 → ReadsAtMost (begun (geometry_of layout).page o n * (geometry_of layout).page + 4096) p q → ReadsAtMost 10240 p q
store_reads layout o n most p q le few reads =
    let r : Regular (geometry_of layout) = regular (geometry_of layout) layout.lawful in
    let begun_few = begun_most (geometry_of layout).page o n r.is_page in
    let page_few = r.page_most in
    reads_more (begun (geometry_of layout).page o n * (geometry_of layout).page + 4096) 10240 p q (omega arith) reads

pub chunk_reads : (p q r : Option ℕ) → ReadsAtMost 10240 p q → ReadsAtMost 135198 q r → ReadsAtMost 200000 p r
chunk_reads p q r first second = reads_more 145438 200000 p r (omega arith) (reads_add 10240 135198 p q r first second)
