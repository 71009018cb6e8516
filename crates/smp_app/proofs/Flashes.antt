-- A flash in memory that is formatted: nothing is armed, so nothing fails.
use Rattle.std.proofs.Common.{◌≡◌, ℕ, ◌<◌, true, false, List, length, Option, Some, None, Ok, Err, refl, ap, inl, inr, ◌∙◌, arith, nat_lt, subst}
use Rattle.std.specs.Prelude.{IfSome, IsSome}
use Rattle.smp_device.specs.Formatting.{Fits, Formats, Misfits, SecondMisfits, room_of}
use Rattle.smp_device.specs.declared.formatting.FormatFault.{FormatFault}
use Rattle.smp_device.specs.declared.formatting.FormatFault.TheVariants as faults
use Rattle.smp_flash.specs.Arm.{aim_of, troubles_of}
use Rattle.smp_flash.specs.Calls.{Lowers}
use Rattle.smp_flash.specs.Memory.{Memory, fresh, told_by}
use Rattle.smp_flash.specs.State.End.{Failed}
use Rattle.smp_flash.specs.declared.arm.Arm.{Arm}
use Rattle.smp_flash.specs.declared.flash.Operation.{Operation}
use Rattle.smp_flash.specs.declared.flash.Operation.TheVariants as operations
use Rattle.smp_flash.specs.declared.geometry.Geometry.{Geometry}
use Rattle.smp_model.specs.Image.{good_image}
use Rattle.smp_model.specs.declared.image.ImageFault.{ImageFault}
use Rattle.smp_model.specs.declared.image.ImageFault.TheVariants as bad
use Rattle.smp_model.specs.declared.image.ImageInfo.{ImageInfo}
use Rattle.smp_app.specs.Loading.{first_of}
use Rattle.smp_world.specs.Schedules.{default_geometry}
use Rattle.smp_world.specs.Machines.{IsFormatted}
use Rattle.smp_app.specs.Making.{bad_image, misfit, misfit_by, second_misfit, misfits}
use Rattle.smp_app.proofs.Images.{bad_of, bad_none, bad_hash}

-- Where nothing is armed.

unarmed : (arm : Option Arm) → aim_of arm ≡ None → arm ≡ None
unarmed None h = refl
unarmed (Some arm) h = absurd cc

pub is_formatted : (g : Geometry) (first : List ℕ) (second : Option (List ℕ)) (x : Unit {0}) (m : Memory)
    → Formats first second (Ok x) (told_by (fresh g)) (told_by m) → IsFormatted g first second m
is_formatted g first second x m h = record {
  geometry = h.calls.passes.geometry;
  stands = h.stands;
  banks = h.generations;
  on = h.calls.passes.on;
  unarmed = unarmed m.arm h.calls.passes.aim;
}

no_trouble : (operation : Operation) (arm : Option Arm) → Lowers (Failed operation) (Some (troubles_of None)) (Some (troubles_of arm)) → ⊥
no_trouble operations.Read arm h = absurd (omega (arith, h.2))
no_trouble operations.Write arm h = absurd (omega (arith, h.1))
no_trouble operations.Erase arm h = absurd (omega (arith, h.1))

pub never_fails : (g : Geometry) (first : List ℕ) (second : Option (List ℕ)) (operation : Operation) (m : Memory)
    → Formats first second (Err (faults.Fault operation)) (told_by (fresh g)) (told_by m) → ⊥
never_fails g first second operation m h = no_trouble operation m.arm h.calls.passes.troubles

pub never_off : (g : Geometry) (first : List ℕ) (second : Option (List ℕ)) (m : Memory)
    → Formats first second (Err faults.Off) (told_by (fresh g)) (told_by m) → ⊥
never_off g first second m h = let lower = h.calls.passes.troubles refl in absurd (omega (arith, lower.0))

-- Images.

fits : (room : ℕ) (image : List ℕ) → Fits room image → misfit room image ≡ None
fits room image h =
    let short : nat_lt room (length image) ≡ false = grind (arith, h.short) in
    ap (misfit_by room (length image)) (bad_none image h.good) ∙ rw short refl

long : (room : ℕ) (image : List ℕ) → IsSome (good_image image) → room < length image → misfit room image ≡ Some bad.TooLarge
long room image good h =
    let is : nat_lt room (length image) ≡ true = grind (arith, h) in
    ap (misfit_by room (length image)) (bad_none image good) ∙ rw is refl

faulty : (room : ℕ) (image : List ℕ) (why : ImageFault) → bad_image image ≡ Some why → misfit room image ≡ Some why
faulty room image why h = ap (misfit_by room (length image)) h

misfitting : (room : ℕ) (image : List ℕ) (why : ImageFault) → Misfits room image why → misfit room image ≡ Some why
misfitting room image bad.Short h = faulty room image bad.Short (bad_of image bad.Short h)
misfitting room image bad.Magic h = faulty room image bad.Magic (bad_of image bad.Magic h)
misfitting room image bad.HeaderSize h = faulty room image bad.HeaderSize (bad_of image bad.HeaderSize h)
misfitting room image bad.Encrypted h = faulty room image bad.Encrypted (bad_of image bad.Encrypted h)
misfitting room image bad.Bounds h = faulty room image bad.Bounds (bad_of image bad.Bounds h)
misfitting room image bad.Protected h = faulty room image bad.Protected (bad_of image bad.Protected h)
misfitting room image bad.Tlvs h = faulty room image bad.Tlvs (bad_of image bad.Tlvs h)
misfitting room image bad.NoHash h = faulty room image bad.NoHash (bad_of image bad.NoHash h)
misfitting room image bad.WrongHash h = faulty room image bad.WrongHash (bad_hash image h.0 h.1)
misfitting room image bad.TooLarge h = long room image h.0 h.1
misfitting room image bad.Fault h = faulty room image bad.Fault (bad_of image bad.Fault h)
misfitting room image bad.Off h = faulty room image bad.Off (bad_of image bad.Off h)

second_fits : (room : ℕ) (second : Option (List ℕ)) → IfSome second (Fits room) → second_misfit room second ≡ None
second_fits room None h = refl
second_fits room (Some image) h = fits room image h

fit : (g : Geometry) (first : List ℕ) (second : Option (List ℕ)) (x : Unit {0}) (m : Memory)
    → Formats first second (Ok x) (told_by (fresh g)) (told_by m) → misfits g first second ≡ None
fit g first second x m h =
    ap (λ (why : Option ImageFault). first_of why (second_misfit (room_of g) second)) (fits (room_of g) first h.caused.0)
    ∙ second_fits (room_of g) second h.caused.1

pub all_fit : (g : Geometry) (first : List ℕ) (second : Option (List ℕ)) (x : Unit {0}) (old m : Memory) → old ≡ fresh g
    → Formats first second (Ok x) (told_by old) (told_by m) → misfits g first second ≡ None
all_fit g first second x old m is h = fit g first second x m (subst (λ (o : Memory). Formats first second (Ok x) (told_by o) (told_by m)) is h)

second_is_misfit : (room : ℕ) (first : List ℕ) (second : Option (List ℕ)) (why : ImageFault) → SecondMisfits room first second why
    → first_of (misfit room first) (second_misfit room second) ≡ Some why
second_is_misfit room first None why h = absurd h
second_is_misfit room first (Some image) why h =
    ap (λ (w : Option ImageFault). first_of w (misfit room image)) (fits room first h.0) ∙ misfitting room image why h.1

first_is_misfit : (room : ℕ) (first : List ℕ) (second : Option (List ℕ)) (why : ImageFault) → Misfits room first why
    → first_of (misfit room first) (second_misfit room second) ≡ Some why
first_is_misfit room first second why h =
    ap (λ (w : Option ImageFault). first_of w (second_misfit room second)) (misfitting room first why h)

misfit_of : (g : Geometry) (first : List ℕ) (second : Option (List ℕ)) (why : ImageFault) (m : Memory)
    → Formats first second (Err (faults.BadImage why)) (told_by (fresh g)) (told_by m) → misfits g first second ≡ Some why
misfit_of g first second why m h = elim h.caused.0 [
  | inl one ↦ first_is_misfit (room_of g) first second why one
  | inr two ↦ second_is_misfit (room_of g) first second why two
]

pub is_misfit : (g : Geometry) (first : List ℕ) (second : Option (List ℕ)) (why : ImageFault) (fault : FormatFault) (old m : Memory) → old ≡ fresh g
    → fault ≡ faults.BadImage why → Formats first second (Err fault) (told_by old) (told_by m) → misfits g first second ≡ Some why
is_misfit g first second why fault old m is bad h =
    let as_told : Formats first second (Err (faults.BadImage why)) (told_by old) (told_by m) = subst (λ (f : FormatFault). Formats first second (Err f) (told_by old) (told_by m)) bad h in
    misfit_of g first second why m (subst (λ (o : Memory). Formats first second (Err (faults.BadImage why)) (told_by o) (told_by m)) is as_told)

-- the image that is chosen here fits the sizes that are
pub default_fits : (image : List ℕ) (info : ImageInfo) → good_image image ≡ Some info → length image ≡ 80 → misfits default_geometry image None ≡ None
default_fits image info good size =
    let is : Fits (room_of default_geometry) image = record { good = rw good refl; short = omega (arith, size) } in
    ap (λ (why : Option ImageFault). first_of why None) (fits (room_of default_geometry) image is)
