-- What the calls of a medium leave of its bytes, where it tells them, and what a flash over it tells.
use Rattle.std.specs.Prelude.{◌≡◌, ◌+◌, ◌<◌, ◌≤◌, ℕ, true, List, length, take, drop, Option, Some, None, Result, OnOk, OnErr, IfSome, refl}
use Rattle.std.specs.Option.{ForSome}
use Rattle.std.proofs.Common.{sym, subst}
use Rattle.std.proofs.lemmas.List.{get_or-drop}
use Rattle.smp_flash.specs.Area.{AreBytes, Holds, Faded, area, blank}
use Rattle.smp_flash.specs.Calls.{Rose}
use Rattle.smp_flash.specs.Head.{behind, head_size}
use Rattle.smp_flash.specs.State.{FlashState}
use Rattle.smp_flash.specs.declared.geometry.Geometry.{Geometry}

-- some front of the bytes was put at the place, maybe none or all of them
pub record PutsFront (place : ℕ) (bytes old new : List ℕ) : Type 0 where
  pub count : ℕ
  pub within : count ≤ length bytes
  pub holds : Holds place (take count bytes) old new

-- as many bytes as before
abbrev pub SameSize : List ℕ → List ℕ → Type 0
SameSize old new = length new ≡ length old

-- the count of failures rose where the call failed, and is the same where it did not
pub record HasCause {T E : Type 0} (before now : ℕ) (result : Result T E) : Type 0 where
  pub failed : OnErr result (Rose before now)
  pub went : OnOk result (now ≡ before)

-- what a flash in a file tells: the bytes behind the head where the medium tells its own, the sizes, and its failures
abbrev pub file_state : Option (List ℕ) → Geometry → ℕ → ℕ → ℕ → FlashState
file_state held geometry reads writes erases = record {
  bytes = behind held;
  on = true;
  geometry = geometry;
  faults = record { reads = reads; writes = writes; erases = erases };
  troubles = None;
  aim = None;
  patience = None;
  bytes_read = None;
  changes = None;
}

-- a fact of what is told, in the other spelling
pub if_some : {T : Type 0} (o : Option T) (P : T → Type 0) → ForSome o P → IfSome o P
if_some None P f = tt
if_some (Some x) P f = f x refl

-- what lies behind the head are bytes too
pub bytes_behind : (held : Option (List ℕ)) → IfSome held AreBytes → IfSome (behind held) AreBytes
bytes_behind None b = tt
bytes_behind (Some u) b = λ i. subst (λ (n : ℕ). n < 256) (sym (get_or-drop 32 u i 0)) (b (32 + i))

-- The first so many bytes behind the head are FF, and each other is as it was or FF.
pub record Blanked (count : ℕ) (old new : List ℕ) : Type 0 where
  pub size : SameSize old new
  pub faded : Faded (drop head_size old) (drop head_size new)
  pub blank : area 0 count (drop head_size new) ≡ blank count

-- the bytes behind the head are as before
pub record SameBehind (old new : List ℕ) : Type 0 where
  pub size : SameSize old new
  pub same : drop head_size new ≡ drop head_size old

-- each byte behind the head is as it was or FF
pub record FadedBehind (old new : List ℕ) : Type 0 where
  pub size : SameSize old new
  pub faded : Faded (drop head_size old) (drop head_size new)
