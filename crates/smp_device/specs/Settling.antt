-- What the mounting of all images comes to.
use Rattle.std.specs.Prelude.{ℕ, List, Some, None, option_map, IfSome}
use Rattle.smp_flash.specs.Area.{Told}
use Rattle.smp_flash.specs.Calls.{Calls}
use Rattle.smp_flash.specs.Layout.{progress_of}
use Rattle.smp_flash.specs.State.{FlashState}
use Rattle.smp_flash.specs.State.End.{Went}
use Rattle.smp_gate.specs.Newest.{AgesAtMost}
use Rattle.smp_model.specs.declared.device.AbstractDevice.{AbstractDevice}
use Rattle.smp_model.specs.Response.{Response, settling}
use Rattle.smp_model.specs.Steps.{settle, settle_steps}
use Rattle.smp_upload.specs.Moves.{KeepsPending}
use Rattle.smp_upload.specs.States.{Says, known_mounted}
use Rattle.smp_upload.specs.declared.states.Mounted.{Mounted}
use Rattle.smp_flash.specs.declared.layout.Layout.{Layout}
use Rattle.smp_side.specs.declared.held.Held.{Held}
use Rattle.smp_side.specs.declared.held.Held.TheVariants as helds
use Rattle.smp_device.specs.Answers.{ImagesAnswer, StepsPay}
use Rattle.smp_device.specs.Places.{Places, spots_of, ImagesStand, AtEach}
use Rattle.smp_device.specs.declared.images.Replied.{Replied}
use Rattle.smp_device.specs.declared.settled.Settled.{Settled}

-- whatever device the bytes stood for, they stand for it settled
abbrev pub Settle : Places → (target : ℕ) → List ℕ → List ℕ → Type 0
Settle p t old new = (d : AbstractDevice) → ImagesStand p t d old → ImagesStand p t (settle d) new

pub record Settles (p : Places) (t : ℕ) (a b : FlashState) : Type 0 where
  pub calls : Calls (spots_of p) Went a b
  pub does : Told (Settle p t) a.bytes b.bytes
  pub ages : AtEach (λ l. Told (AgesAtMost 2 (progress_of l)) a.bytes b.bytes) p
  pub pending : AtEach (λ l. Told (KeepsPending l) a.bytes b.bytes) p
  pub pays : StepsPay p t settle_steps a b

-- the places of the mounted images
abbrev pub settled_places : Settled → Places
settled_places s = record { first = (known_mounted s.zero).layout; second = option_map (λ m. (known_mounted m).layout) s.one }

-- the bytes are as their states say
pub record SettledSay (s : Settled) (bytes : List ℕ) : Type 0 where
  pub first : Says (known_mounted s.zero) bytes
  pub second : IfSome s.one (λ m. Says (known_mounted m) bytes)

-- a mount was broken off: some first steps of settling were taken, whatever was to come after
abbrev pub Unsettled : Places → (target : ℕ) → Replied → FlashState → FlashState → Type 0
Unsettled p t r a b = (respond : AbstractDevice → Response) → ImagesAnswer p 5 t (λ d. settling d respond) r.images r.result a b

-- one image, and two
abbrev pub alone_places : Mounted → Places
alone_places zero = record { first = (known_mounted zero).layout; second = None }

abbrev pub both_places : (zero one : Mounted) → Places
both_places zero one = record { first = (known_mounted zero).layout; second = Some (known_mounted one).layout }

abbrev pub alone_settled : (zero : Mounted) (target : ℕ) → Settled
alone_settled zero target = record { zero = zero; one = None; target = target }

abbrev pub both_settled : (zero one : Mounted) (target : ℕ) → Settled
both_settled zero one target = record { zero = zero; one = Some one; target = target }

-- an image of which nothing is known
abbrev pub unknown_at : Layout → Held
unknown_at layout = helds.Unmounted (record { layout = layout })
