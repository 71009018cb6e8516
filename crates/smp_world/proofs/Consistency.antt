-- A device stays one that can be found: at each place of a run it is consistent.
use Rattle.std.proofs.Common.{◌≡◌, ◌+◌, ◌-◌, ◌++◌, ℕ, List, [], ◌∷◌, length, take, replicate, Option, Some, None, Result, Ok, Err, refl, sym, ap, subst, ◌∙◌, arith}
use Rattle.std.specs.Prelude.{IfSome, IsSome}
use Rattle.std.proofs.Math.Seq.{take-append-add}
use Rattle.std.proofs.lemmas.List.{length-append, length-take-le, length-replicate}
use Rattle.smp_header.specs.Message.{Message}
use Rattle.smp_model.specs.declared.device.AbstractDevice.{AbstractDevice}
use Rattle.smp_model.specs.declared.device.Counters.{Counters}
use Rattle.smp_model.specs.declared.device.Sizes.{Sizes}
use Rattle.smp_model.specs.declared.image.ImageInfo.{ImageInfo}
use Rattle.smp_model.specs.Consistent.{HasTexts, IsConsistent, IsConsistentSide}
use Rattle.smp_model.specs.Counters.{after_drop}
use Rattle.smp_model.specs.Does.{does}
use Rattle.smp_model.specs.Handled.{is_reset}
use Rattle.smp_model.specs.Image.{good_image}
use Rattle.smp_model.specs.ImageFaults.{StaysGood}
use Rattle.smp_model.specs.Meaning.{meaning}
use Rattle.smp_model.specs.Meant.{Meant}
use Rattle.smp_model.specs.Said.{Said}
use Rattle.smp_model.specs.Steps.{Step, Part, applied, settle_steps, start, counted}
use Rattle.smp_world.specs.Comings.{Came, Comes, BootsAfter, booted_if, after_coming}
use Rattle.smp_device.specs.Goings as goings
use Rattle.smp_device.specs.Goings.{Armed, Went, Goes, counted_if, after_going, Booted, BootEnd, Boots, booted_by, after_boot}
use Rattle.smp_world.specs.Laws.{CanFormat}
use Rattle.smp_world.specs.Runs.{Event, State, Moment, Run as IsRun, state_at_end, first_state}
use Rattle.smp_device.specs.Formatting.{formatted_side}
use Rattle.smp_world.proofs.Deeds.{Holds, each_deed}
use Rattle.smp_world.proofs.Durably.{boot_after_reset, side_alike, with_counters}
use Rattle.smp_world.proofs.Pending.{Keeps, part_of_request, part_of_boot, nothing_of_error}

-- the laws of the model on this
pub record StayConsistent : Type 0 where
  pub texts : (packet : Message) (m : Meant) → meaning packet ≡ Ok m → HasTexts m
  pub requests : (sizes : Sizes) (d e : AbstractDevice) (m : Meant) → IsConsistent sizes d → HasTexts m → Part d (does sizes d m).steps e → IsConsistent sizes e
  pub settled : (sizes : Sizes) (d e : AbstractDevice) → IsConsistent sizes d → Part d (settle_steps d) e → IsConsistent sizes e
  pub started : (sizes : Sizes) (d : AbstractDevice) → IsConsistent sizes d → IsConsistent sizes (start d)

-- counters say nothing of it
counted_consistent : (sizes : Sizes) (x : Counters) (d : AbstractDevice) → IsConsistent sizes d → IsConsistent sizes (with_counters x d)
counted_consistent sizes x d c = record {
  sides = record { first = c.sides.first; second = c.sides.second };
  saved = c.saved;
  running = c.running;
  files = c.files;
  target = subst IsSome (sym (side_alike d.target d (with_counters x d) refl)) c.target;
}

replied_consistent : (sizes : Sizes) (reply : Option Said) (d : AbstractDevice) → IsConsistent sizes d → IsConsistent sizes (counted_if reply d)
replied_consistent sizes None d c = c
replied_consistent sizes (Some reply) d c = counted_consistent sizes (counted reply d).counters d c

-- a packet, and a boot
going_consistent : StayConsistent → (sizes : Sizes) (a : Option Armed) (d : AbstractDevice) (m : Message) (w : Went) → Goes sizes a d (meaning m) w → IsConsistent sizes d → IsConsistent sizes (after_going w d)
going_consistent law sizes a d m w goes c = replied_consistent sizes w.reply (applied w.taken d) (by_meaning (meaning m) refl goes)
  where
    by_meaning : (mm : Result Meant ℕ) → meaning m ≡ mm → Goes sizes a d mm w → IsConsistent sizes (applied w.taken d)
    by_meaning (Ok r) is g = law.requests sizes d (applied w.taken d) r c (law.texts m r is) (part_of_request sizes a d r w g)
    by_meaning (Err n) is g = subst (λ (t : List Step). IsConsistent sizes (applied t d)) (sym (nothing_of_error sizes a d n w g)) c

booting_consistent : StayConsistent → (sizes : Sizes) (a : Option Armed) (d : AbstractDevice) (b : Booted) → Boots a d b → IsConsistent sizes d → IsConsistent sizes (after_boot b d)
booting_consistent law sizes a d b boots c = by_end b.ended
  where
    broken_off : IsConsistent sizes (applied b.taken d)
    broken_off = law.settled sizes d (applied b.taken d) c (part_of_boot a d b boots)

    by_end : (e : BootEnd) → IsConsistent sizes (booted_by e b.taken d)
    by_end goings.up = law.started sizes d c
    by_end goings.cut = broken_off
    by_end goings.fault = broken_off

coming_consistent : StayConsistent → (sizes : Sizes) (a : Option Armed) (d : AbstractDevice) (m : Message) (x : Came) → Comes sizes a d (meaning m) x → IsConsistent sizes d → IsConsistent sizes (after_coming x d)
coming_consistent law sizes a d m x comes c = by_boot x.boot comes.boots
  where
    gone : IsConsistent sizes (after_going x.went d)
    gone = going_consistent law sizes a d m x.went comes.goes c

    by_boot : (b : Option Booted) → BootsAfter (is_reset (meaning m)) x.went.armed (after_going x.went d) b → IsConsistent sizes (booted_if b (after_going x.went d))
    by_boot None h = gone
    by_boot (Some b) h = booting_consistent law sizes x.went.armed (after_going x.went d) b (boot_after_reset (meaning m) x.went.armed (after_going x.went d) b h).1 gone

-- each event, and a run
consistent_holds : StayConsistent → (sizes : Sizes) (e : Event) → Holds sizes (Keeps (IsConsistent sizes)) e
consistent_holds law sizes e = record {
  stays = λ d a c. c;
  unread = λ d a c. counted_consistent sizes (after_drop d.counters) d c;
  arming = λ d a x is c. c;
  packet_comes = λ d a m x comes c. coming_consistent law sizes a d m x comes c;
  starts = λ d a b boots c. booting_consistent law sizes a d b boots c;
}

pub run_consistent : StayConsistent → (sizes : Sizes) (s : State) (events : List Event) (moments : List Moment) → IsRun sizes s events moments
    → IsConsistent sizes s.device → IsConsistent sizes (state_at_end s moments).device
run_consistent law sizes s [] [] r c = c
run_consistent law sizes s (e ∷ events) (m ∷ moments) r c =
    run_consistent law sizes m.state events moments r.1 (each_deed sizes (Keeps (IsConsistent sizes)) s e m (consistent_holds law sizes e) r.0 c)
run_consistent law sizes s [] (m ∷ moments) r c = absurd r
run_consistent law sizes s (e ∷ events) [] r c = absurd r

-- The first state.
good_with_more : StaysGood → (sizes : Sizes) (image more : List ℕ) → CanFormat sizes image → IsSome (good_image (image ++ more))
good_with_more law sizes image more f = by_image (good_image image) refl f.good
  where
    by_image : (i : Option ImageInfo) → good_image image ≡ i → IsSome i → IsSome (good_image (image ++ more))
    by_image None e g = cc
    by_image (Some i) e g = subst IsSome (sym (law image more i f.bytes e)) refl

first_consistent : StaysGood → (sizes : Sizes) (image : List ℕ) → CanFormat sizes image → IsConsistentSide sizes (formatted_side sizes image)
first_consistent law sizes image f =
    let room = f.room in
    let size = sizes.slot - sizes.page in
    let split : size ≡ length image + (size - length image) = omega (arith, room) in
    let is : take size (image ++ replicate size 255) ≡ image ++ take (size - length image) (replicate size 255) =
    ap (λ (n : ℕ). take n (image ++ replicate size 255)) split ∙ take-append-add image (replicate size 255) (size - length image) in
    record {
      active = omega (arith, room, length-take-le size (image ++ replicate size 255) (omega (arith, length-append image (replicate size 255), length-replicate {A = ℕ} size 255)));
      image = subst (λ (b : List ℕ). IsSome (good_image b)) (sym is) (good_with_more law sizes image (take (size - length image) (replicate size 255)) f);
      upload = tt;
      pending = tt;
    }

pub formatted_consistent : StaysGood → (sizes : Sizes) (image : List ℕ) (second : Option (List ℕ)) → CanFormat sizes image → IfSome second (CanFormat sizes)
    → IsConsistent sizes (first_state sizes image second).device
formatted_consistent law sizes image None f g = record { sides = record { first = first_consistent law sizes image f; second = tt }; saved = refl; running = refl; files = refl; target = refl }
formatted_consistent law sizes image (Some other) f g =
    record { sides = record { first = first_consistent law sizes image f; second = first_consistent law sizes other g }; saved = refl; running = refl; files = refl; target = refl }
