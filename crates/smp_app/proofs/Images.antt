-- Why bytes are no good image.
use Rattle.std.proofs.Common.{◌≡◌, ℕ, List, Option, Some, None, Result, Ok, Err, refl}
use Rattle.std.specs.Prelude.{IsSome}
use Rattle.smp_jobs.specs.Tasks.{IsBad}
use Rattle.smp_model.specs.Image.{good_image, image_of, if_hashed}
use Rattle.smp_model.specs.declared.image.ImageFault.{ImageFault}
use Rattle.smp_model.specs.declared.image.ImageFault.TheVariants as bad
use Rattle.smp_model.specs.declared.image.ImageInfo.{ImageInfo}
use Rattle.smp_app.specs.Making.{bad_by, bad_image}

pub bad_of : (bytes : List ℕ) (why : ImageFault) → image_of bytes ≡ Err why → bad_image bytes ≡ Some why
bad_of bytes why h = rw h refl

-- a good image is one
is_read : (bytes : List ℕ) (read : Result ImageInfo ImageFault) → IsSome (if_hashed bytes read) → bad_by read (if_hashed bytes read) ≡ None
is_read bytes (Err why) h = absurd cc
is_read bytes (Ok info) h = known (if_hashed bytes (Ok info)) h
  where
    known : (good : Option ImageInfo) → IsSome good → bad_by (Ok info) good ≡ None
    known None h = absurd cc
    known (Some i) h = refl

pub bad_none : (bytes : List ℕ) → IsSome (good_image bytes) → bad_image bytes ≡ None
unfolding good_image
bad_none bytes h = is_read bytes (image_of bytes) h

hashed : (read : Result ImageInfo ImageFault) (good : Option ImageInfo) → good ≡ None → ((why : ImageFault) → read ≡ Err why → ⊥)
    → bad_by read good ≡ Some bad.WrongHash
hashed (Err why) good none h = absurd (h why refl)
hashed (Ok info) None none h = refl
hashed (Ok info) (Some i) none h = absurd cc

pub bad_hash : (bytes : List ℕ) → good_image bytes ≡ None → ((why : ImageFault) → image_of bytes ≡ Err why → ⊥)
    → bad_image bytes ≡ Some bad.WrongHash
bad_hash bytes none h = hashed (image_of bytes) (good_image bytes) none h

pub is_bad : (bytes : List ℕ) (why : ImageFault) → IsBad bytes why → bad_image bytes ≡ Some why
is_bad bytes bad.Short h = bad_of bytes bad.Short h
is_bad bytes bad.Magic h = bad_of bytes bad.Magic h
is_bad bytes bad.HeaderSize h = bad_of bytes bad.HeaderSize h
is_bad bytes bad.Encrypted h = bad_of bytes bad.Encrypted h
is_bad bytes bad.Bounds h = bad_of bytes bad.Bounds h
is_bad bytes bad.Protected h = bad_of bytes bad.Protected h
is_bad bytes bad.Tlvs h = bad_of bytes bad.Tlvs h
is_bad bytes bad.NoHash h = bad_of bytes bad.NoHash h
is_bad bytes bad.WrongHash h = bad_hash bytes h.0 h.1
is_bad bytes bad.TooLarge h = bad_of bytes bad.TooLarge h
is_bad bytes bad.Fault h = bad_of bytes bad.Fault h
is_bad bytes bad.Off h = bad_of bytes bad.Off h
