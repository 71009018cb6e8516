-- Upload jobs with different digests and hashes: one that is done with a mark is marked.
use Rattle.std.proofs.Common.{◌≡◌, ◌≢◌, ℕ, List, ◌++◌, Option, Some, None, refl, sym, ap, ◌∙◌}
use Rattle.std.specs.Prelude.{All, Contains, IfSome}
use Rattle.smp_model.specs.declared.device.AbstractDevice.{AbstractDevice}
use Rattle.smp_model.specs.declared.device.Sizes.{Sizes}
use Rattle.smp_model.specs.declared.upload.Ending.{Ending}
use Rattle.smp_model.specs.declared.upload.Ending.TheVariants as endings
use Rattle.smp_model.specs.Said.{reply_message}
use Rattle.smp_model.specs.Steps.{applied}
use Rattle.smp_jobs.specs.Clients.{Client, packet_of}
use Rattle.smp_jobs.specs.Jobs.{UploadJob, uploads, done}
use Rattle.smp_world.specs.Runs.{Event, Moment, Run as IsRun, state_at_end, first_state}
use Rattle.smp_world.specs.UploadJobs.{IsMarked, IsNotRaw, Begun, AreTagged, AreDifferent}
use Rattle.smp_world.specs.Below.{LawsBelow}
use Rattle.smp_world.proofs.DoneJobs.{Sound, done_knows}
use Rattle.smp_world.proofs.Marked.{IsOwn, marked_is}
use Rattle.smp_world.proofs.Pending.{RequestsSame}
use Rattle.smp_world.proofs.UploadReplies.{part_true}
use Rattle.smp_world.proofs.FairSteps.{Uploads}
use Rattle.smp_world.proofs.TaggedRuns.{all_among}
use Rattle.smp_world.proofs.UploadClients.{Knows, DoneBy, IsTrue}

-- such a job knows nothing of its upload but by its mark
abbrev Nothing : Knows
Nothing j d = Unit {0}

different_tagged : (J : Uploads) → AreDifferent J → AreTagged J
different_tagged J h = record { uploads = h.uploads; files = λ j k a b e. ap (λ (x : UploadJob). x.file) (h.digests j k a b e) }

different_own : (J : Uploads) → AreDifferent J → (j : UploadJob) → J j → IsOwn J j
different_own J h j a = λ k b info good hash. sym (h.apart j k a b (sym hash ∙ h.hashes k b info good))

each_some : {A : Type 0} (Q : A → Type 0) (o : Option A) → ((x : A) → Q x) → IfSome o Q
each_some Q None f = tt
each_some Q (Some x) f = f x

sound_jobs : (J : Uploads) → AreDifferent J → Sound J Nothing
sound_jobs J h = record {
  tagged = different_tagged J h;
  own = different_own J h;
  kept = record { alike = λ j d e same v. tt; along = λ j steps d along f v. tt };
  parts = λ j is sizes held d q r w p f g. each_some (λ s. IsTrue Nothing j (applied w.taken d) (reply_message (packet_of q r) s)) w.reply
      (λ s. part_true Nothing j (applied w.taken d) q r s p (λ off matched got full n. tt));
}

by_mark : (j : UploadJob) (ending : Ending) (d : AbstractDevice) → ending ≢ endings.Only → DoneBy Nothing j ending d → IsMarked j d
by_mark j endings.Only d n h = absurd (n refl)
by_mark j endings.Test d n h = marked_is j d h
by_mark j endings.Confirm d n h = marked_is j d h

pub done_marked : LawsBelow → RequestsSame → (sizes : Sizes) (image : List ℕ) (second : Option (List ℕ)) (events later : List Event) (moments : List Moment) (c : Client) (j : UploadJob)
    → All IsNotRaw events → AreDifferent (Begun (events ++ later)) → IsRun sizes (first_state sizes image second) events moments
    → Contains (state_at_end (first_state sizes image second) moments).clients c → c.job ≡ uploads j → c.ended ≡ Some done → j.ending ≢ endings.Only
    → IsMarked j (state_at_end (first_state sizes image second) moments).device
done_marked law same sizes image second events later moments c j none different r has job ended marked =
    by_mark j j.ending (state_at_end (first_state sizes image second) moments).device marked
    (done_knows law same (Begun (events ++ later)) Nothing (sound_jobs (Begun (events ++ later)) different) sizes image second events moments c j (all_among events later none) r has job ended).1
