-- Pages and places, as arithmetic on the few lawful sizes.
use Rattle.std.proofs.Common.{◌≡◌, ℕ, ◌+◌, ◌-◌, ◌*◌, ◌%◌, ◌<◌, ◌≤◌, arith}
use Rattle.smp_flash.specs.Geometry.{IsPage, room, tail}
use Rattle.smp_flash.proofs.Sizes.{each_page}

-- what follows a place within its page
pub record Within (page : ℕ) : Type 0 where
  pub small : (at : ℕ) → at % page < page
  pub next : (at : ℕ) → (at + (page - at % page)) % page ≡ 0
  pub begins : (at : ℕ) → (at - at % page) % page ≡ 0
  pub inner : (at n : ℕ) → 0 < n → at % page + n ≤ page → (page - (at + n) % page) % page ≡ page - at % page - n
  pub below : (at e : ℕ) → at < e → at + (page - at % page) ≤ e + (page - e % page) % page
  pub zero : (at : ℕ) → at % page ≡ 0 → (page - at % page) % page ≡ 0
  pub part : (at : ℕ) → 0 < at % page → (page - at % page) % page ≡ page - at % page
  pub plus : (s at : ℕ) → s % page ≡ 0 → (s + at) % page ≡ at % page
  pub times : (k : ℕ) → (page * k) % page ≡ 0
  pub most : (at n : ℕ) → (page - at % page) % page ≤ n + (page - at % page - n)
  pub last : (at s : ℕ) → s % page ≡ 0 → at ≤ s → at + (page - at % page) % page ≤ s

pub within : (page : ℕ) → IsPage page → Within page
within page is = each_page Within
    (record { small = λ at. omega arith; next = λ at. omega arith; begins = λ at. omega arith; inner = λ at n some le. omega arith; below = λ at e lt. omega arith; zero = λ at z. omega arith; part = λ at p. omega arith; plus = λ s at z. omega arith; times = λ k. omega arith; most = λ at n. omega arith; last = λ at s z le. omega arith })
    (record { small = λ at. omega arith; next = λ at. omega arith; begins = λ at. omega arith; inner = λ at n some le. omega arith; below = λ at e lt. omega arith; zero = λ at z. omega arith; part = λ at p. omega arith; plus = λ s at z. omega arith; times = λ k. omega arith; most = λ at n. omega arith; last = λ at s z le. omega arith })
    (record { small = λ at. omega arith; next = λ at. omega arith; begins = λ at. omega arith; inner = λ at n some le. omega arith; below = λ at e lt. omega arith; zero = λ at z. omega arith; part = λ at p. omega arith; plus = λ s at z. omega arith; times = λ k. omega arith; most = λ at n. omega arith; last = λ at s z le. omega arith })
    (record { small = λ at. omega arith; next = λ at. omega arith; begins = λ at. omega arith; inner = λ at n some le. omega arith; below = λ at e lt. omega arith; zero = λ at z. omega arith; part = λ at p. omega arith; plus = λ s at z. omega arith; times = λ k. omega arith; most = λ at n. omega arith; last = λ at s z le. omega arith })
    page is

pub page_small : (page at : ℕ) → IsPage page → at % page < page
page_small page at is = (within page is).small at

pub page_next : (page at : ℕ) → IsPage page → (at + room page at) % page ≡ 0
page_next page at is = (within page is).next at

pub page_begins : (page at : ℕ) → IsPage page → (at - at % page) % page ≡ 0
page_begins page at is = (within page is).begins at

pub tail_inner : (page at n : ℕ) → IsPage page → 0 < n → at % page + n ≤ page → tail page (at + n) ≡ room page at - n
tail_inner page at n is some le = (within page is).inner at n some le

pub room_below : (page at e : ℕ) → IsPage page → at < e → at + room page at ≤ e + tail page e
room_below page at e is lt = (within page is).below at e lt

pub tail_zero : (page at : ℕ) → IsPage page → at % page ≡ 0 → tail page at ≡ 0
tail_zero page at is z = (within page is).zero at z

pub tail_part : (page at : ℕ) → IsPage page → 0 < at % page → tail page at ≡ room page at
tail_part page at is p = (within page is).part at p

pub page_plus : (page s at : ℕ) → IsPage page → s % page ≡ 0 → (s + at) % page ≡ at % page
page_plus page s at is z = (within page is).plus s at z

pub tail_last : (page at s : ℕ) → IsPage page → s % page ≡ 0 → at ≤ s → at + tail page at ≤ s
tail_last page at s is z le = (within page is).last at s z le

pub tail_room : (page at : ℕ) → IsPage page → (n : ℕ) → tail page at ≤ n + (room page at - n)
tail_room page at is n = (within page is).most at n
